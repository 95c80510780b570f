use Rattle.ep_packet.proofs.LaxWholeHeaderLemmas as headers
use Rattle.ep_packet.proofs.LaxWholeLemmas.{WholeParts, ether_type_whole, ethernet_whole, ip_packet_whole, linux_sll_whole}
use Rattle.ep_packet.proofs.laws.lax.whole_packets_are_lax_packets.Goals as goal

parts : goal.After-lax_reads_find_what_is_there-2 → WholeParts
parts c = record {
  macsec = c.lax_reads_find_what_is_there.ensures.complete;
  ipv4 = c.whole_packets_are_lax_packets.ensures.ipv4;
  ipv6 = c.whole_packets_are_lax_packets.ensures.ipv6;
  ip = c.whole_packets_are_lax_packets.ensures.ip;
  datagram = c.lax_reads_find_what_is_there-2.ensures.datagram;
}

pub returns-clause-ethernet : goal.returns-clause-ethernet
returns-clause-ethernet c = ethernet_whole (parts c)

pub returns-clause-linux_sll : goal.returns-clause-linux_sll
returns-clause-linux_sll c = linux_sll_whole (parts c)

pub returns-clause-ether_type : goal.returns-clause-ether_type
returns-clause-ether_type c = ether_type_whole (parts c)

pub returns-clause-ip : goal.returns-clause-ip
returns-clause-ip c = ip_packet_whole (parts c)

pub returns-clause-ethernet_headers : goal.returns-clause-ethernet_headers
returns-clause-ethernet_headers c = headers.ethernet_whole (parts c)

pub returns-clause-ether_type_headers : goal.returns-clause-ether_type_headers
returns-clause-ether_type_headers c = headers.ether_type_whole (parts c)

pub returns-clause-ip_headers : goal.returns-clause-ip_headers
returns-clause-ip_headers c = headers.ip_whole (parts c)
