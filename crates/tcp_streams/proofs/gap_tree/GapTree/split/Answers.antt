use Rattle.std.proofs.Common.{◌∙◌, ◌^◌, arith, sym, ap}
use Rattle.tcp_streams.specs.Gaps.{gaps_of, split_at}
use Rattle.tcp_streams.proofs.RunLemmas.{crosses_after, never_err, split_far, split_found, split_is, split_none, when_ok}
use Rattle.tcp_streams.proofs.gap_tree.GapTree.split.Goals as goal

pub returns-in_default-clause-ok : goal.returns-in_default-clause-ok
returns-in_default-clause-ok c =
    sym (split_none c.args.position c.args.self.now (sym c.in_default.ensures))

pub returns-then-position-gap-clause-ok : goal.returns-then-position-gap-clause-ok
returns-then-position-gap-clause-ok c =
    sym (split_far 0 (2 ^ 64) c.args.position c.args.self.now c.in-Some.gap c.requires (sym c.in-Some.ensures)
    (omega (arith, c.if-position-gap.true)))

pub unwrap-requires : goal.unwrap-requires
unwrap-requires c =
    let order = rw (← c.self.view_is) at c.requires in
    let is = rw (← c.self.view_is) at c.in-Some.ensures in
    let found = split_found 0 (2 ^ 64) c.args.position c.self.inside.starts.entries c.in-Some.gap order (sym is)
    (omega (arith, c.if-position-gap.false)) in
    never_err c.insert-shorter.result _ c.in-Some.gap.start c.insert-shorter.ensures.absent
    (rw (← c.in_ok-insert.ensures.entries) at found)

pub returns-clause-ok : goal.returns-clause-ok
returns-clause-ok c =
    let order = rw (← c.self.view_is) at c.requires in
    let is = rw (← c.self.view_is) at c.in-Some.ensures in
    let found = split_found 0 (2 ^ 64) c.args.position c.self.inside.starts.entries c.in-Some.gap order (sym is)
    (omega (arith, c.if-position-gap.false)) in
    let found = rw (← c.in_ok-insert.ensures.entries) at found in
    let whole = never_err c.insert-shorter.result _ c.in-Some.gap.start c.insert-shorter.ensures.absent found in
    let second = when_ok c.insert-shorter.result whole c.insert-shorter.ensures.entries in
    let second = rw c.in_ok-insert.ensures.entries at second in
    let halves = split_is 0 (2 ^ 64) c.args.position c.self.inside.starts.entries c.in-Some.gap order (sym is)
    (omega (arith, c.if-position-gap.false)) in
    ap gaps_of second ∙ halves ∙ ap (split_at c.args.position) c.self.view_is

pub returns-in_err-insert-clause-succeeds : goal.returns-in_err-insert-clause-succeeds
returns-in_err-insert-clause-succeeds c none =
    absurd (crosses_after c.args.position c.args.self.now c.in-Some.gap none (sym c.in-Some.ensures)
    (omega (arith, c.if-position-gap.false)))
