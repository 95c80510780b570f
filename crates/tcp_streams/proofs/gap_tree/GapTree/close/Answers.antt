use Rattle.std.proofs.Common.{◌∙◌, ◌^◌, ap, arith, sym}
use Rattle.tcp_streams.specs.Gaps.{gaps_of, without}
use Rattle.tcp_streams.proofs.RunLemmas.{after_found, after_whole, never_err, removed_first, when_ok, without_far}
use Rattle.tcp_streams.proofs.RunLemmas.{without_none, without_shorter}
use Rattle.tcp_streams.proofs.gap_tree.GapTree.close.Goals as goal

pub returns-in_default : goal.returns-in_default
returns-in_default c =
    sym (without_none 0 (2 ^ 64) c.args.start c.args.end c.loop.self c.requires.some c.loop.invariant.order
    (sym c.in_default.ensures)) ∙ c.loop.invariant.same

pub returns-then-end-gap : goal.returns-then-end-gap
returns-then-end-gap c =
    sym (without_far 0 (2 ^ 64) c.args.start c.args.end c.loop.self c.in-Some.gap c.requires.some c.loop.invariant.order
    (sym c.in-Some.ensures) (omega (arith, c.if-end-gap.true))) ∙ c.loop.invariant.same

pub unwrap-requires : goal.unwrap-requires
unwrap-requires c =
    let order = rw (← c.self-in-loop.view_is) at c.loop.invariant.order in
    let is = rw (← c.self-in-loop.view_is) at c.in-Some.ensures in
    let found = after_found c.args.start 0 (2 ^ 64) c.self-in-loop.inside.starts.entries c.in-Some.gap order (sym is) in
    never_err c.insert-shorter.result _ c.in-Some.gap.start c.insert-shorter.ensures.absent found

pub returns-then-end-gap-2 : goal.returns-then-end-gap-2
returns-then-end-gap-2 c =
    let order = rw (← c.self-in-loop.view_is) at c.loop.invariant.order in
    let is = rw (← c.self-in-loop.view_is) at c.in-Some.ensures in
    let found = after_found c.args.start 0 (2 ^ 64) c.self-in-loop.inside.starts.entries c.in-Some.gap order (sym is) in
    let whole = never_err c.insert-shorter.result _ c.in-Some.gap.start c.insert-shorter.ensures.absent found in
    let entries = when_ok c.insert-shorter.result whole c.insert-shorter.ensures.entries in
    let low = after_whole c.args.start c.loop.self c.in-Some.gap c.loop.invariant.whole (sym c.in-Some.ensures) in
    let shorter = without_shorter 0 (2 ^ 64) c.args.start c.args.end c.self-in-loop.inside.starts.entries c.in-Some.gap
    c.requires.some order (sym is) low (omega (arith, c.if-end-gap.false)) (omega (arith, c.if-end-gap-2.true)) in
    ap gaps_of entries ∙ shorter ∙ ap (without c.args.start c.args.end) c.self-in-loop.view_is ∙ c.loop.invariant.same

pub loop-preserved : goal.loop-preserved
loop-preserved c =
    let order = rw (← c.self-in-loop.view_is) at c.loop.invariant.order in
    let whole = rw (← c.self-in-loop.view_is) at c.loop.invariant.whole in
    let is = rw (← c.self-in-loop.view_is) at c.in-Some.ensures in
    let most = rw (← c.self-in-loop.view_is) at c.loop.invariant.most in
    let step = removed_first c.args.start c.args.end c.self-in-loop.inside.starts.entries c.remove.new.self.entries
    c.in-Some.gap c.requires.some order whole (sym is) (omega (arith, c.if-end-gap-2.false)) c.remove.ensures.entries in
    record {
      order = step.0;
      whole = step.1;
      same = step.2 ∙ ap (without c.args.start c.args.end) c.self-in-loop.view_is ∙ c.loop.invariant.same;
      most = omega (arith, step.3, most);
    }
