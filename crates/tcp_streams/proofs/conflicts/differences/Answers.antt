use Rattle.std.proofs.Common.{arith, sym, ◌∙◌}
use Rattle.std.specs.Cmp.Lexicographic.{same_text}
use Rattle.tcp_streams.proofs.SparseLemmas.{same_bytes, clashes_more_other, clashes_more_same}
use Rattle.tcp_streams.proofs.conflicts.differences.Goals as goal
use Rattle.tcp_streams.proofs.conflicts.differences.Goals.{then-held-index, else-held-index}

pub returns-then-eq : goal.returns-then-eq
returns-then-eq c =
    rw (same_bytes c.args.position c.args.held.now c.args.bytes.now
    (same_text _ _ (sym c.if-eq.true ∙ c.eq.ensures))) c.none-conflicts.ensures

pub loop-index-preserved : goal.loop-index-preserved
loop-index-preserved c = elim c.if-held-index.branch [
  | then-held-index w ↦
      rw (
        w.conflicts-is,
        clashes_more_other c.args.position c.args.held.now c.args.bytes.now c.loop-index.index
            c.requires.same (omega arith) w.if-held-index.true,
      )
      (w.and_at-conflicts.ensures _ c.loop-index.invariant)
  | else-held-index w ↦
      rw (
        w.conflicts-is,
        clashes_more_same c.args.position c.args.held.now c.args.bytes.now c.loop-index.index
            c.requires.same (omega arith) w.if-held-index.false,
      ) c.loop-index.invariant
]
