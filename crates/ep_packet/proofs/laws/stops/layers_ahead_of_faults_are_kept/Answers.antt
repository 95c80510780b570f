use Rattle.ep_packet.proofs.AheadKept.{has_cooked, has_ether_type, has_frame, has_ip}
use Rattle.ep_packet.proofs.FrameFaults.{FaultsAreFirst, cooked_fault, ether_type_fault, ethernet_fault, ip_packet_fault}
use Rattle.ep_packet.proofs.LaxWholeLemmas.{WholeParts}
use Rattle.ep_packet.proofs.laws.stops.layers_ahead_of_faults_are_kept.Goals as goal

first : goal.After-lax_reads_find_what_is_there-2 → FaultsAreFirst
first c = record {
  macsec =
      record { found = c.payloads_are_found.ensures.found; only = c.payloads_are_found.ensures.only };
  ipv6 = c.faults_found_are_first.ensures.ipv6;
  ip = c.faults_found_are_first.ensures.ip;
  row = c.faults_found_are_first.ensures.row;
}

whole : goal.After-lax_reads_find_what_is_there-2 → WholeParts
whole c = record {
  macsec = c.lax_reads_find_what_is_there.ensures.complete;
  ipv4 = c.whole_packets_are_lax_packets.ensures.ipv4;
  ipv6 = c.whole_packets_are_lax_packets.ensures.ipv6;
  ip = c.whole_packets_are_lax_packets.ensures.ip;
  datagram = c.lax_reads_find_what_is_there-2.ensures.datagram;
}

pub returns-clause-ethernet : goal.returns-clause-ethernet
returns-clause-ethernet c = λ frame e is. let fault = ethernet_fault (first c) frame e is in
    (fault, has_frame (whole c) (first c).macsec frame e fault)

pub returns-clause-linux_sll : goal.returns-clause-linux_sll
returns-clause-linux_sll c = λ bytes e is. let fault = cooked_fault (first c) bytes e is in
    (fault, has_cooked (whole c) (first c).macsec bytes e fault)

pub returns-clause-ether_type : goal.returns-clause-ether_type
returns-clause-ether_type c = λ t bytes e is. let fault = ether_type_fault (first c) t bytes e is in
    (fault, has_ether_type (whole c) (first c).macsec t bytes e fault)

pub returns-clause-ip : goal.returns-clause-ip
returns-clause-ip c = λ bytes e is. let fault = ip_packet_fault (first c) bytes e is in
    (fault, has_ip (whole c) bytes e fault)
