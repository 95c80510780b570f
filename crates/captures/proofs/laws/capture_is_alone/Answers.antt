use Rattle.captures.proofs.StopLemmas.{capture_alone}
use Rattle.captures.proofs.laws.capture_is_alone.Goals as goal

pub returns : goal.returns
returns c = capture_alone
