use Rattle.captures.proofs.StopLemmas.{reported_alone}
use Rattle.captures.proofs.laws.reported_is_alone.Goals as goal

pub returns : goal.returns
returns c = reported_alone
