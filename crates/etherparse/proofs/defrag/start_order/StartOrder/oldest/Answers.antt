use Rattle.std.proofs.Common.{arith}
use Rattle.etherparse.proofs.StartWrites.{oldest_within}
use Rattle.etherparse.proofs.defrag.start_order.StartOrder.oldest.Goals as goal

pub overflow_sub-result : goal.overflow_sub-result
overflow_sub-result c =
    let w = oldest_within _ _ _ c.self.invariant (omega arith) c.index.ensures in omega (arith, w.0)

pub returns-clause-within : goal.returns-clause-within
returns-clause-within c =
    let w = oldest_within _ _ _ c.self.invariant (omega arith) c.index.ensures in
    rw (← c.self.view_is) w.1
