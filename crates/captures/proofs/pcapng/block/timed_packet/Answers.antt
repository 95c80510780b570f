use Rattle.std.proofs.Common.{arith, refl, ◌+◌, ◌-◌}
use Rattle.captures.proofs.OffsetLemmas.{stands_range}
use Rattle.captures.proofs.pcapng.block.timed_packet.Goals as goal

pub returns-clause-at : goal.returns-clause-at
returns-clause-at c =
    stands_range c.args.block.now _ 28 (28 + c.word-captured.result - 28) (omega arith) refl
