use Rattle.std.proofs.Common.{arith, refl, ◌+◌, ◌-◌}
use Rattle.captures.proofs.OffsetLemmas.{stands_range}
use Rattle.captures.proofs.pcapng.block.simple_packet.Goals as goal

pub returns-clause-at : goal.returns-clause-at
returns-clause-at c =
    stands_range c.args.block.now _ 12 (12 + c.simple_packet_captured_len-captured.result - 12) (omega arith) refl
