use Rattle.captures.proofs.StopLemmas.{passed_over_alone}
use Rattle.captures.proofs.laws.passed_over_is_alone.Goals as goal

pub returns : goal.returns
returns c = passed_over_alone
