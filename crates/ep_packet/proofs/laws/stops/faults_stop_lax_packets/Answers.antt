use Rattle.ep_packet.proofs.AheadFrames.{FrameParts, ether_type_stops, ethernet_stops, linux_sll_stops}
use Rattle.ep_packet.proofs.AheadIp.{ip_stops}
use Rattle.ep_packet.proofs.laws.stops.faults_stop_lax_packets.Goals as goal

parts : goal.After-lax_reads_find_what_is_there-2 → FrameParts
parts c = record {
  ahead = record {
    whole = record {
      macsec = c.lax_reads_find_what_is_there.ensures.complete;
      ipv4 = c.whole_packets_are_lax_packets.ensures.ipv4;
      ipv6 = c.whole_packets_are_lax_packets.ensures.ipv6;
      ip = c.whole_packets_are_lax_packets.ensures.ip;
      datagram = c.lax_reads_find_what_is_there-2.ensures.datagram;
    };
    row = c.faults_found_are_first.ensures.row;
    rows = c.rows_are_found.ensures;
  };
  read = record { found = c.payloads_are_found.ensures.found; only = c.payloads_are_found.ensures.only };
}

pub returns-clause-ethernet : goal.returns-clause-ethernet
returns-clause-ethernet c = ethernet_stops (parts c)

pub returns-clause-linux_sll : goal.returns-clause-linux_sll
returns-clause-linux_sll c = linux_sll_stops (parts c)

pub returns-clause-ether_type : goal.returns-clause-ether_type
returns-clause-ether_type c = ether_type_stops (parts c)

pub returns-clause-ip : goal.returns-clause-ip
returns-clause-ip c = ip_stops (parts c).ahead
