use Rattle.ep_packet.proofs.StopLengths.{ether_type_stays, ethernet_stays, ip_stays, linux_sll_stays}
use Rattle.ep_packet.proofs.laws.stops.lengths_stop_no_lax_packet.Goals as goal

pub returns-clause-ethernet : goal.returns-clause-ethernet
returns-clause-ethernet c = ethernet_stays

pub returns-clause-linux_sll : goal.returns-clause-linux_sll
returns-clause-linux_sll c = linux_sll_stays

pub returns-clause-ether_type : goal.returns-clause-ether_type
returns-clause-ether_type c = ether_type_stays

pub returns-clause-ip : goal.returns-clause-ip
returns-clause-ip c = ip_stays
