use Rattle.captures.proofs.ForgetLemmas.{forget_drops}
use Rattle.captures.proofs.laws.forget_drops.Goals as goal

pub returns : goal.returns
returns c = forget_drops
