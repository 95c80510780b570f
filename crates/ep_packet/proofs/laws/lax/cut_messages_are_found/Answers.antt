use Rattle.ep_packet.proofs.LaxCutLemmas.{message_cut}
use Rattle.ep_packet.proofs.laws.lax.cut_messages_are_found.Goals as goal

pub returns : goal.returns
returns c = message_cut
