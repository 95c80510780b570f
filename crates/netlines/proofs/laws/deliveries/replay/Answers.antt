use Rattle.netlines.proofs.ReplayLemmas.{replayed}
use Rattle.netlines.proofs.laws.deliveries.replay.Goals as goal

pub returns : goal.returns
returns c name channel earlier others between line f has out none is =
    replayed c.equal_names.ensures.same name channel earlier others between line f has out none is
