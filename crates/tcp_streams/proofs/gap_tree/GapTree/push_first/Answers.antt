use Rattle.std.proofs.Common.{◌∙◌, ◌∷◌, ◌^◌, ap}
use Rattle.tcp_streams.specs.Gaps.{gaps_of}
use Rattle.tcp_streams.proofs.RunLemmas.{push_first_is}
use Rattle.tcp_streams.proofs.gap_tree.GapTree.push_first.Goals as goal

pub returns-clause-ok : goal.returns-clause-ok
returns-clause-ok c =
    let order = rw (← c.self.view_is) at c.requires in
    ap gaps_of c.in_ok-insert.ensures.entries
    ∙ push_first_is (2 ^ 64) c.args.gap c.self.inside.starts.entries order
    ∙ ap (λ gaps. c.args.gap ∷ gaps) c.self.view_is
