use Rattle.captures.proofs.ForgetLemmas.{forget_keeps}
use Rattle.captures.proofs.laws.forget_keeps.Goals as goal

pub returns : goal.returns
returns c = forget_keeps
