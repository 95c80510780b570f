use Rattle.std.proofs.Common.{arith}
use Rattle.tcp_streams.proofs.SparseLemmas.{consumed_short, consumed_sparse, available_bounds}
use Rattle.tcp_streams.proofs.sparse_bytes.SparseBytes.consume.Goals as goal

pub drop_prefix-requires : goal.drop_prefix-requires
drop_prefix-requires c =
    let few = rw (← c.self.view_is) at c.requires in consumed_short _ c.args.count c.self.invariant few

pub overflow_add-self : goal.overflow_add-self
overflow_add-self c =
    let few = rw (← c.self.view_is) at c.requires in
    let bounds = available_bounds _ c.self.invariant in
    omega (arith, few, bounds.1, c.self.invariant.short)

pub invariant_of-self : goal.invariant_of-self
invariant_of-self c =
    let few = rw (← c.self.view_is) at c.requires in
    rw c.drop_prefix.ensures (consumed_sparse _ c.args.count c.self.invariant few)

pub returns-clause-sound : goal.returns-clause-sound
returns-clause-sound c =
    let few = rw (← c.self.view_is) at c.requires in
    rw c.drop_prefix.ensures (consumed_sparse _ c.args.count c.self.invariant few)
