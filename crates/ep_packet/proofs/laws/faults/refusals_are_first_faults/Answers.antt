use Rattle.ep_packet.proofs.FrameFaults.{FaultsAreFirst, cooked_fault, ether_type_fault, ether_type_headers_fault}
use Rattle.ep_packet.proofs.FrameFaults.{ethernet_fault, ethernet_headers_fault, ip_packet_fault}
use Rattle.ep_packet.proofs.FrameFaults.{ip_headers_fault, ip_packet_headers_fault, ipv6_in_slots}
use Rattle.ep_packet.proofs.laws.faults.refusals_are_first_faults.Goals as goal

first : (c : goal.After-faults_found_are_first) → FaultsAreFirst
first c = record {
  macsec =
      record { found = c.payloads_are_found.ensures.found; only = c.payloads_are_found.ensures.only };
  ipv6 = c.faults_found_are_first.ensures.ipv6;
  ip = c.faults_found_are_first.ensures.ip;
  row = c.faults_found_are_first.ensures.row;
}

pub returns-clause-ethernet : goal.returns-clause-ethernet
returns-clause-ethernet c = ethernet_fault (first c)

pub returns-clause-linux_sll : goal.returns-clause-linux_sll
returns-clause-linux_sll c = cooked_fault (first c)

pub returns-clause-ether_type : goal.returns-clause-ether_type
returns-clause-ether_type c = ether_type_fault (first c)

pub returns-clause-ip : goal.returns-clause-ip
returns-clause-ip c = ip_packet_fault (first c)

pub returns-clause-ethernet_headers : goal.returns-clause-ethernet_headers
returns-clause-ethernet_headers c = ethernet_headers_fault (first c)

pub returns-clause-ether_type_headers : goal.returns-clause-ether_type_headers
returns-clause-ether_type_headers c = ether_type_headers_fault (first c)

pub returns-clause-ip_headers : goal.returns-clause-ip_headers
returns-clause-ip_headers c = ip_packet_headers_fault (first c)

pub returns-clause-alone : goal.returns-clause-alone
returns-clause-alone c = ip_headers_fault (first c)

pub returns-clause-ipv6_alone : goal.returns-clause-ipv6_alone
returns-clause-ipv6_alone c = ipv6_in_slots (first c)
