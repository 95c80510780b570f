use Rattle.std.proofs.Common.{◌-◌, arith}
use Rattle.tcp_streams.specs.Gaps.{is_missing}
use Rattle.tcp_streams.specs.SparseBytes.{sparse}
use Rattle.tcp_streams.proofs.CountLemmas.{count_from-most}
use Rattle.tcp_streams.proofs.HeldLemmas.{counted_held, none_past, sparse_runs}
use Rattle.tcp_streams.proofs.sparse_bytes.SparseBytes.count_held.Goals as goal

pub returns-then-end-position : goal.returns-then-end-position
returns-then-end-position c =
    let end = rw c.end.ensures at c.min-end.ensures in
    none_past c.args.self.now c.args.position c.args.count c.min-end.result end c.if-end-position.true

pub count_missing-requires-clause-gaps : goal.count_missing-requires-clause-gaps
count_missing-requires-clause-gaps c = sparse_runs _ c.self.invariant

pub overflow_sub-result-2 : goal.overflow_sub-result-2
overflow_sub-result-2 c =
    omega (
      arith,
      c.count_missing.ensures,
      count_from-most (is_missing c.self.inside.gaps) c.args.position (c.min-end.result - c.args.position),
    )

pub returns : goal.returns
returns c =
    let end = rw (c.end.ensures, ← c.self.view_is) at c.min-end.ensures in
    let after = rw (← c.self.view_is) at c.requires.after in
    rw (← c.self.view_is) (counted_held (sparse c.self.inside.taken c.self.inside.bytes c.self.inside.gaps)
    c.args.position c.args.count c.min-end.result c.count_missing.result after end
    (omega (arith, c.if-end-position.false)) c.count_missing.ensures)
