use Rattle.std.proofs.Common.{arith, ◌-◌, drop, length}
use Rattle.std.proofs.lemmas.List.{take_all, length-drop}
use Rattle.etherparse.proofs.HasBytesLemmas.{has_bytes_is}
use Rattle.etherparse.proofs.defrag.stored_fragment.has_bytes.Goals as goal

pub returns-then-start-there : goal.returns-then-start-there
returns-then-start-there c =
    has_bytes_is c.args.there.now c.args.bytes.now _ c.args.start c.starts_with.result
    (omega (arith, c.if-start-there.true))
    (take_all (length c.args.there.now - c.args.start)
    (drop c.args.start c.args.there.now)
    (omega (arith, length-drop c.args.start c.args.there.now)))
    c.starts_with.ensures.bound c.starts_with.ensures.value
