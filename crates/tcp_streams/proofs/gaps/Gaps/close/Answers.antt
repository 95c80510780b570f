use Rattle.std.proofs.Common.{◌^◌, arith}
use Rattle.tcp_streams.proofs.FirstGapLemmas.{rest_runs, without_before, without_part}
use Rattle.tcp_streams.proofs.gaps.Gaps.close.Goals.{then-start-gap+else-end-gap+else-end-gap-2, else-start-gap}
use Rattle.tcp_streams.proofs.gaps.Gaps.close.Goals as goal

pub returns-then-end-gap : goal.returns-then-end-gap
returns-then-end-gap c =
    let order = rw (← c.self.view_is, c.in-Some.is) at c.requires.gaps in
    rw (← c.self.view_is, c.in-Some.is)
    (without_before 0 (2 ^ 64) c.args.start c.args.end c.in-Some.gap c.self.inside.rest c.requires.some order
    (omega (arith, c.if-end-gap.true)))

pub returns-then-end-gap-2 : goal.returns-then-end-gap-2
returns-then-end-gap-2 c =
    let order = rw (← c.self.view_is, c.in-Some.is) at c.requires.gaps in
    let whole = rw (← c.self.view_is, c.in-Some.is) at c.requires.whole in
    rw (← c.self.view_is, c.in-Some.is)
    (without_part 0 (2 ^ 64) c.args.start c.args.end c.in-Some.gap c.self.inside.rest c.requires.some order whole
    (omega (arith, c.if-start-gap.true)) (omega (arith, c.if-end-gap.false)) (omega (arith, c.if-end-gap-2.true)))

pub close-requires-2-clause-gaps : goal.close-requires-2-clause-gaps
close-requires-2-clause-gaps c =
    let order = rw (← c.self.view_is) at c.requires.gaps in
    let order = rest_runs (2 ^ 64) c.self.inside.first c.self.inside.rest order in
    elim c.if-start-gap.branch [
      | then-start-gap+else-end-gap+else-end-gap-2 w ↦ rw w.self-inside-is order
      | else-start-gap w ↦ rw w.self-inside-is order
    ]
