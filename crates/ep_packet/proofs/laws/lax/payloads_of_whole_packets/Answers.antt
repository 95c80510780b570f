use Rattle.ep_packet.proofs.LaxPayloads.{payload_whole}
use Rattle.ep_packet.proofs.laws.lax.payloads_of_whole_packets.Goals as goal

pub returns : goal.returns
returns c = payload_whole
