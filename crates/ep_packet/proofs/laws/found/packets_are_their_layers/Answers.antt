use Rattle.ep_packet.proofs.FoundLemmas.{cooked_found, ether_type_found, ethernet_found}
use Rattle.ep_packet.proofs.TaggedLaws.{MacsecIsRead}
use Rattle.ep_packet.proofs.laws.found.packets_are_their_layers.Goals as goal

read : goal.After-payloads_are_found → MacsecIsRead
read c = record { found = c.payloads_are_found.ensures.found; only = c.payloads_are_found.ensures.only }

pub returns-clause-ethernet : goal.returns-clause-ethernet
returns-clause-ethernet c = ethernet_found (read c)

pub returns-clause-linux_sll : goal.returns-clause-linux_sll
returns-clause-linux_sll c = cooked_found (read c)

pub returns-clause-ether_type : goal.returns-clause-ether_type
returns-clause-ether_type c = ether_type_found (read c)
