use Rattle.std.proofs.Common.{refl}
use Rattle.ep_link.specs.Arp.{packet_at}
use Rattle.ep_link.proofs.ArpPrefix.{takes_packet}
use Rattle.ep_link.proofs.laws.arp.packets_are_found.Goals as goal

pub returns : goal.returns
returns c = λ bytes. takes_packet bytes (packet_at bytes) refl
