use Rattle.std.proofs.Common.{◌+◌, length, arith}
use Rattle.tcp_streams.specs.SparseBytes.{sparse}
use Rattle.tcp_streams.proofs.RunLemmas.{runs_of_gaps, runs_weaker}
use Rattle.tcp_streams.proofs.SparseLemmas.{added_after_gap}
use Rattle.tcp_streams.proofs.sparse_bytes.add_after_gap.Goals as goal

pub push_last-requires : goal.push_last-requires
push_last-requires c =
    let end = c.args.taken + length c.args.held.now in
    rw c.len.ensures (runs_weaker c.args.taken 0 end end c.args.gaps.now (omega arith) (omega arith)
    (runs_of_gaps c.args.taken end c.args.gaps.now c.requires.sparse.gaps))

pub returns-clause-adds : goal.returns-clause-adds
returns-clause-adds c =
    (added_after_gap (sparse c.args.taken c.args.held.now c.args.gaps.now) c.args.position c.args.bytes.now _ _
    c.requires.sparse c.requires.after c.requires.some c.requires.short c.in_default.ensures.ok
    (rw c.len.ensures at c.in_ok-push_last.ensures.ok)).0

pub returns-clause-sound : goal.returns-clause-sound
returns-clause-sound c =
    (added_after_gap (sparse c.args.taken c.args.held.now c.args.gaps.now) c.args.position c.args.bytes.now _ _
    c.requires.sparse c.requires.after c.requires.some c.requires.short c.in_default.ensures.ok
    (rw c.len.ensures at c.in_ok-push_last.ensures.ok)).1
