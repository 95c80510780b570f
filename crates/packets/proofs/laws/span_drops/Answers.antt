use Rattle.packets.proofs.ForgetLemmas.{span_drops}
use Rattle.packets.proofs.laws.span_drops.Goals as goal

pub returns : goal.returns
returns c = span_drops
