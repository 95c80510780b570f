use Rattle.ep_packet.proofs.FoundLemmas.{ip_found}
use Rattle.ep_packet.proofs.laws.found.ip_packets_are_their_layers.Goals as goal

pub returns : goal.returns
returns c = λ bytes. ip_found bytes (c.packets_are_their_parts.ensures.ip bytes)
