use Rattle.tcp_streams.proofs.LossLemmas.{skipped_skips, skipped_sparse}
use Rattle.tcp_streams.proofs.sparse_bytes.SparseBytes.skip_to.Goals as goal

pub invariant_of-self : goal.invariant_of-self
invariant_of-self c =
    let can = rw (← c.self.view_is) at c.requires in
    let count = rw c.len.ensures at c.min-count.ensures in
    rw (c.drop_prefix.ensures, c.remove_first.ensures)
    (skipped_sparse _ c.args.position c.min-count.result c.self.invariant can count)

pub returns-clause-sound : goal.returns-clause-sound
returns-clause-sound c =
    let can = rw (← c.self.view_is) at c.requires in
    let count = rw c.len.ensures at c.min-count.ensures in
    rw (c.drop_prefix.ensures, c.remove_first.ensures)
    (skipped_sparse _ c.args.position c.min-count.result c.self.invariant can count)

pub returns-clause-skips : goal.returns-clause-skips
returns-clause-skips c =
    let can = rw (← c.self.view_is) at c.requires in
    let count = rw c.len.ensures at c.min-count.ensures in
    rw (c.drop_prefix.ensures, c.remove_first.ensures, ← c.self.view_is)
    (skipped_skips _ c.args.position c.min-count.result c.self.invariant can count)
