use Rattle.std.proofs.Common.{◌∙◌, ap, sym}
use Rattle.tcp_streams.specs.Gaps.{gap_after}
use Rattle.tcp_streams.proofs.RunLemmas.{after_first, after_no}
use Rattle.tcp_streams.proofs.gap_tree.GapTree.after.Goals as goal

pub returns-in-Some : goal.returns-in-Some
returns-in-Some c =
    let all = sym (c.range.ensures.between tt) ∙ c.in-Some.ensures.steps in
    after_first c.args.position c.self.inside.starts.entries c.next.new.self
    (c.in-Some.end.now, c.in-Some.start.now) all ∙ ap (gap_after c.args.position) c.self.view_is

pub returns-in-None : goal.returns-in-None
returns-in-None c =
    let all = sym (c.range.ensures.between tt) ∙ c.in-None.ensures.steps.0 in
    after_no c.args.position c.self.inside.starts.entries all ∙ ap (gap_after c.args.position) c.self.view_is
