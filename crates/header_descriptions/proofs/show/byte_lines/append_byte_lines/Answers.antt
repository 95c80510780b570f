use Rattle.std.proofs.Common.{arith, sym}
use Rattle.header_descriptions.proofs.ByteLemmas.{line_more, lines_end}
use Rattle.header_descriptions.proofs.show.byte_lines.append_byte_lines.Goals as goal

pub loop-line-preserved : goal.loop-line-preserved
loop-line-preserved c = line_more _ _ _ _ _ _ _ _ (rw (sym c.div_ceil-line-end.ensures) c.loop-line-test.true)
    c.loop-line.invariant
    (rw (sym c.min.ensures) c.split_at.ensures.front) (rw (sym c.min.ensures) c.split_at.ensures.back)
    c.in_ok-append_line.ensures

pub returns : goal.returns
returns c = lines_end _ _ _ _ _ _ (rw (sym c.div_ceil-line-end.ensures) (omega arith)) c.loop-line.invariant
