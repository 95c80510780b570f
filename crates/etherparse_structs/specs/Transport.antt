-- A message of a transport protocol, as fields and numbers.
use Rattle.std.specs.Prelude.{ℕ, ◌+◌, ◌*◌, false, List, drop, replicate, slice_range, Option, Some, None}
use Rattle.etherparse.specs.base.Bytes.{num}
use Rattle.etherparse.specs.icmp.Icmpv4 as icmpv4
use Rattle.etherparse.specs.packet.declared.transport.transport_slice.TransportSlice.{TransportSlice}
use Rattle.etherparse.specs.packet.declared.transport.transport_slice.TransportSlice.TheVariants as transport
use Rattle.etherparse.specs.tcpudp.Tcp as tcp
use Rattle.etherparse.specs.tcpudp.Udp as udp
use Rattle.etherparse_structs.specs.Part.{no_part, part_at}
use Rattle.etherparse_structs.specs.declared.part.EpPart.{EpPart}
use Rattle.etherparse_structs.specs.declared.transport.EpIcmp.{EpIcmp}
use Rattle.etherparse_structs.specs.declared.transport.EpTcp.{EpTcp}
use Rattle.etherparse_structs.specs.declared.transport.EpUdp.{EpUdp}

-- a header of this length at an offset, and what follows it
abbrev pub header_part : (place len : ℕ) → EpPart
header_part place len = record { offset = place; len = len }

abbrev pub payload_part : (place len : ℕ) → List ℕ → EpPart
payload_part place len message = part_at (place + len) (drop len message)

abbrev pub no_udp : EpUdp
no_udp = record {
  header = no_part;
  payload = no_part;
  source_port = 0;
  destination_port = 0;
  stated_len = 0;
  checksum = 0;
}

-- a UDP datagram at this offset
abbrev pub udp_struct : ℕ → List ℕ → EpUdp
udp_struct place message = record {
  header = header_part place 8;
  payload = payload_part place 8 message;
  source_port = udp.source_port_of message;
  destination_port = udp.destination_port_of message;
  stated_len = udp.length_of message;
  checksum = udp.checksum_of message;
}

abbrev pub no_tcp : EpTcp
no_tcp = record {
  header = no_part;
  payload = no_part;
  sequence_number = 0;
  acknowledgment_number = 0;
  source_port = 0;
  destination_port = 0;
  window_size = 0;
  checksum = 0;
  urgent_pointer = 0;
  ns = false;
  fin = false;
  syn = false;
  rst = false;
  psh = false;
  ack = false;
  urg = false;
  ece = false;
  cwr = false;
}

-- a TCP segment at this offset
abbrev pub tcp_struct : ℕ → List ℕ → EpTcp
tcp_struct place message = record {
  header = header_part place (4 * tcp.data_offset_of message);
  payload = payload_part place (4 * tcp.data_offset_of message) message;
  sequence_number = tcp.sequence_number_of message;
  acknowledgment_number = tcp.acknowledgment_number_of message;
  source_port = tcp.source_port_of message;
  destination_port = tcp.destination_port_of message;
  window_size = tcp.window_size_of message;
  checksum = tcp.checksum_of message;
  urgent_pointer = tcp.urgent_pointer_of message;
  ns = tcp.ns_of message;
  fin = tcp.fin_of message;
  syn = tcp.syn_of message;
  rst = tcp.rst_of message;
  psh = tcp.psh_of message;
  ack = tcp.ack_of message;
  urg = tcp.urg_of message;
  ece = tcp.ece_of message;
  cwr = tcp.cwr_of message;
}

abbrev pub no_icmp : EpIcmp
no_icmp = record {
  header = no_part;
  payload = no_part;
  checksum = 0;
  icmp_type = 0;
  code = 0;
  rest = replicate 4 0;
}

-- an ICMP message of either version at this offset, with a header of this length
abbrev pub icmp_struct : (place len : ℕ) → List ℕ → EpIcmp
icmp_struct place len message = record {
  header = header_part place len;
  payload = payload_part place len message;
  checksum = num message 2 2;
  icmp_type = num message 0 1;
  code = num message 1 1;
  rest = slice_range message 4 8;
}

-- the message of each kind, where it is one
abbrev pub udp_struct_in : ℕ → Option TransportSlice → EpUdp
udp_struct_in place None = no_udp
udp_struct_in place (Some (transport.Udp m)) = udp_struct place m
udp_struct_in place (Some (transport.Tcp m)) = no_udp
udp_struct_in place (Some (transport.Icmpv4 m)) = no_udp
udp_struct_in place (Some (transport.Icmpv6 m)) = no_udp

abbrev pub tcp_struct_in : ℕ → Option TransportSlice → EpTcp
tcp_struct_in place None = no_tcp
tcp_struct_in place (Some (transport.Udp m)) = no_tcp
tcp_struct_in place (Some (transport.Tcp m)) = tcp_struct place m
tcp_struct_in place (Some (transport.Icmpv4 m)) = no_tcp
tcp_struct_in place (Some (transport.Icmpv6 m)) = no_tcp

abbrev pub icmp_struct_in : ℕ → Option TransportSlice → EpIcmp
icmp_struct_in place None = no_icmp
icmp_struct_in place (Some (transport.Udp m)) = no_icmp
icmp_struct_in place (Some (transport.Tcp m)) = no_icmp
icmp_struct_in place (Some (transport.Icmpv4 m)) =
    icmp_struct place (icmpv4.header_len (icmpv4.type_of m)) m
icmp_struct_in place (Some (transport.Icmpv6 m)) = icmp_struct place 8 m

-- the number of its protocol
abbrev pub transport_number : Option TransportSlice → ℕ
transport_number None = 0
transport_number (Some (transport.Udp m)) = 17
transport_number (Some (transport.Tcp m)) = 6
transport_number (Some (transport.Icmpv4 m)) = 1
transport_number (Some (transport.Icmpv6 m)) = 58
