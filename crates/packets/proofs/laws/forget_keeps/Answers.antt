use Rattle.packets.proofs.ForgetLemmas.{forget_keeps}
use Rattle.packets.proofs.laws.forget_keeps.Goals as goal

pub returns : goal.returns
returns c = forget_keeps
