use Rattle.tcp_streams.proofs.FirstGapLemmas.{rest_runs}
use Rattle.tcp_streams.proofs.gaps.Gaps.push_last.Goals as goal

pub push_last-requires : goal.push_last-requires
push_last-requires c =
    let order = rw (← c.self.view_is) at c.requires in
    rest_runs c.args.start c.self.inside.first c.self.inside.rest order
