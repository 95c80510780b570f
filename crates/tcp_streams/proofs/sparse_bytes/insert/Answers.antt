use Rattle.std.proofs.Common.{◌∙◌, ◌+◌, ap, length, refl, arith}
use Rattle.tcp_streams.specs.SparseBytes.{AddsBytes, IsSparse, sparse, counted}
use Rattle.tcp_streams.proofs.RunLemmas.{crosses_no_missing, runs_of_gaps, runs_weaker, split_whole}
use Rattle.tcp_streams.proofs.SparseLemmas.{added, long_clashes, long_size, split_clashes, split_order}
use Rattle.tcp_streams.proofs.sparse_bytes.insert.Goals as goal

pub open-requires : goal.open-requires
open-requires c =
    let end = c.args.taken + length c.args.held.now in record {
      gaps = rw c.len-old_len.ensures (runs_weaker c.args.taken 0 end end c.args.gaps.now (omega arith) (omega arith)
          (runs_of_gaps c.args.taken end c.args.gaps.now c.requires.sparse.gaps));
    }

pub merge-conflicts-requires-clause-within : goal.merge-conflicts-requires-clause-within
merge-conflicts-requires-clause-within c =
    let size = long_size (sparse c.args.taken c.args.held.now c.args.gaps.now) c.args.position _
    c.args.bytes.now c.requires.sparse c.requires.after c.requires.some c.requires.short refl in
    rw c.in_ok-lengthen.ensures.ok (omega (arith, size))

pub merge-conflicts-requires-clause-gaps : goal.merge-conflicts-requires-clause-gaps
merge-conflicts-requires-clause-gaps c =
    split_order (sparse c.args.taken c.args.held.now c.args.gaps.now) c.args.position _ c.args.bytes.now
    c.open.new.self c.requires.sparse c.requires.after c.requires.some c.requires.short refl
    (rw c.len-old_len.ensures at c.in_default.ensures.ok)

pub close-requires-clause-gaps : goal.close-requires-clause-gaps
close-requires-clause-gaps c =
    split_order (sparse c.args.taken c.args.held.now c.args.gaps.now) c.args.position _ c.args.bytes.now
    c.open.new.self c.requires.sparse c.requires.after c.requires.some c.requires.short refl
    (rw c.len-old_len.ensures at c.in_default.ensures.ok)

pub close-requires-clause-whole : goal.close-requires-clause-whole
close-requires-clause-whole c = rw c.in_default.ensures.ok (split_whole c.args.position _)

all : (c : goal.After-close) → let old = sparse c.args.taken c.args.held.now c.args.gaps.now in
    let new = sparse c.args.taken c.merge-conflicts.new.self c.close.new.self in
    AddsBytes old new c.args.position c.args.bytes.now × IsSparse new
all c =
    added (sparse c.args.taken c.args.held.now c.args.gaps.now) c.args.position _ c.args.bytes.now
    c.lengthen.new.self c.merge-conflicts.new.self c.open.new.self c.close.new.self
    c.requires.sparse c.requires.after c.requires.some c.requires.short refl c.in_ok-lengthen.ensures.ok
    (rw c.len-old_len.ensures at c.in_default.ensures.ok) c.merge-conflicts.ensures.adds c.close.ensures

pub returns-clause-adds : goal.returns-clause-adds
returns-clause-adds c = (all c).0

pub returns-clause-sound : goal.returns-clause-sound
returns-clause-sound c = (all c).1

pub returns-clause-conflicts : goal.returns-clause-conflicts
returns-clause-conflicts c =
    let opened = rw c.len-old_len.ensures at c.in_default.ensures.ok in
    let merged = rw (opened, c.in_ok-lengthen.ensures.ok) at c.merge-conflicts.ensures.conflicts in
    merged ∙ ap counted (split_clashes c.args.taken c.args.position _ c.args.bytes.now _
    ∙ long_clashes (sparse c.args.taken c.args.held.now c.args.gaps.now) c.args.position _
    c.args.bytes.now c.requires.sparse c.requires.after c.requires.some c.requires.short refl)

pub returns-in-Err-clause-succeeds : goal.returns-in-Err-clause-succeeds
returns-in-Err-clause-succeeds c within none =
    c.in-Err.ensures.succeeds (omega (arith, within, c.requires.after, c.len-old_len.ensures))
    (crosses_no_missing c.args.position c.args.gaps.now none)
