use Rattle.ep_packet.proofs.MoreBytes.{MoreParts, ether_type_more, ethernet_more, ip_more, linux_sll_more}
use Rattle.ep_packet.proofs.laws.cut.more_bytes_keep_layers.Goals as goal

parts : goal.After-more_bytes_keep_tags → MoreParts
parts c = record {
  macsec = c.more_bytes_keep_tags.ensures;
  ipv4 = c.more_bytes_keep_headers.ensures.ipv4;
  ipv6 = c.more_bytes_keep_headers.ensures.ipv6;
  four = c.lax_packet_is_of_its_version.ensures.ipv4;
  six = c.lax_packet_is_of_its_version.ensures.ipv6;
}

pub returns-clause-ethernet : goal.returns-clause-ethernet
returns-clause-ethernet c = ethernet_more (parts c)

pub returns-clause-linux_sll : goal.returns-clause-linux_sll
returns-clause-linux_sll c = linux_sll_more (parts c)

pub returns-clause-ether_type : goal.returns-clause-ether_type
returns-clause-ether_type c = ether_type_more (parts c)

pub returns-clause-ip : goal.returns-clause-ip
returns-clause-ip c = ip_more (parts c)
