use Rattle.ep_packet.proofs.CutPackets.{CutParts, ether_type_cut, ethernet_cut, ip_packet_cut, linux_sll_cut}
use Rattle.ep_packet.proofs.laws.cut.cut_packets_are_found.Goals as goal

parts : goal.After-cut_tags_are_found → CutParts
parts c = record {
  macsec = c.cut_tags_are_found.ensures.macsec;
  vlan = c.cut_tags_are_found.ensures.vlan;
  named = c.cut_tags_are_found.ensures.named;
  ipv4 = c.cut_packets_are_found.ensures.ipv4;
  ipv6 = c.cut_packets_are_found.ensures.ipv6;
  ip = c.cut_packets_are_found.ensures.ip;
}

pub returns-clause-ethernet : goal.returns-clause-ethernet
returns-clause-ethernet c = ethernet_cut (parts c)

pub returns-clause-linux_sll : goal.returns-clause-linux_sll
returns-clause-linux_sll c = linux_sll_cut (parts c)

pub returns-clause-ether_type : goal.returns-clause-ether_type
returns-clause-ether_type c = ether_type_cut (parts c)

pub returns-clause-ip : goal.returns-clause-ip
returns-clause-ip c = ip_packet_cut (parts c)
