use Rattle.packets.proofs.ForgetLemmas.{forget_drops}
use Rattle.packets.proofs.laws.forget_drops.Goals as goal

pub returns : goal.returns
returns c = forget_drops c.spans_drop.ensures
