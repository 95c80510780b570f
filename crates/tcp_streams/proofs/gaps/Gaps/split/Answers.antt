use Rattle.std.proofs.Common.{◌^◌, arith}
use Rattle.tcp_streams.proofs.FirstGapLemmas.{rest_runs, split_before, split_here}
use Rattle.tcp_streams.proofs.gaps.Gaps.split.Goals as goal

pub split-requires-then-gap-position : goal.split-requires-then-gap-position
split-requires-then-gap-position c =
    let order = rw (← c.self.view_is) at c.requires in
    rest_runs (2 ^ 64) c.self.inside.first c.self.inside.rest order

pub returns-in_ok-push_first-clause-ok : goal.returns-in_ok-push_first-clause-ok
returns-in_ok-push_first-clause-ok c =
    let order = rw (← c.self.view_is, c.in-Some.is) at c.requires in
    rw (c.in_ok-push_first.ensures.ok, ← c.self.view_is, c.in-Some.is)
    (split_here 0 (2 ^ 64) c.args.position c.in-Some.gap c.self.inside.rest order
    (omega (arith, c.if-gap-position-2.true)) (omega (arith, c.if-gap-position.false)))

pub returns-else-gap-position-2-clause-ok : goal.returns-else-gap-position-2-clause-ok
returns-else-gap-position-2-clause-ok c =
    let order = rw (← c.self.view_is, c.in-Some.is) at c.requires in
    rw (← c.self.view_is, c.in-Some.is)
    (split_before 0 (2 ^ 64) c.args.position c.in-Some.gap c.self.inside.rest order
    (omega (arith, c.if-gap-position-2.false)))
