use Rattle.std.proofs.Common.{◌∙◌, arith, ap}
use Rattle.tcp_streams.specs.Gaps.{gaps_of, with_gap}
use Rattle.tcp_streams.proofs.RunLemmas.{push_last_is}
use Rattle.tcp_streams.proofs.gap_tree.GapTree.push_last.Goals as goal

pub returns-in_ok-insert-clause-ok : goal.returns-in_ok-insert-clause-ok
returns-in_ok-insert-clause-ok c =
    let order = rw (← c.self.view_is) at c.requires in
    ap gaps_of c.in_ok-insert.ensures.entries
    ∙ push_last_is 0 c.args.start c.args.end c.self.inside.starts.entries order (omega (arith, c.if-start-end.true))
    ∙ ap (with_gap c.args.start c.args.end) c.self.view_is
