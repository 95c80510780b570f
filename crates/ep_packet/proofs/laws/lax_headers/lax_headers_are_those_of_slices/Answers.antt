use Rattle.ep_packet.proofs.LaxSameHeaderLemmas.{ether_type_same, ethernet_same, ip_same, linux_sll_same, of_fault}
use Rattle.ep_packet.proofs.LaxSameHeaderLemmas.{of_packet}
use Rattle.ep_packet.proofs.laws.lax_headers.lax_headers_are_those_of_slices.Goals as goal

pub returns-clause-ethernet : goal.returns-clause-ethernet
returns-clause-ethernet c = λ bytes packet is. of_packet _ _ packet (ethernet_same bytes) is

pub returns-clause-ethernet_refused : goal.returns-clause-ethernet_refused
returns-clause-ethernet_refused c = λ bytes e is. of_fault _ _ e (ethernet_same bytes) is

pub returns-clause-linux_sll : goal.returns-clause-linux_sll
returns-clause-linux_sll c = λ bytes packet is. of_packet _ _ packet (linux_sll_same bytes) is

pub returns-clause-linux_sll_refused : goal.returns-clause-linux_sll_refused
returns-clause-linux_sll_refused c = λ bytes e is. of_fault _ _ e (linux_sll_same bytes) is

pub returns-clause-ether_type : goal.returns-clause-ether_type
returns-clause-ether_type c = ether_type_same

pub returns-clause-ip : goal.returns-clause-ip
returns-clause-ip c = λ bytes packet is. of_packet _ _ packet (ip_same bytes) is

pub returns-clause-ip_refused : goal.returns-clause-ip_refused
returns-clause-ip_refused c = λ bytes e is. of_fault _ _ e (ip_same bytes) is
