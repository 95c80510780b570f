-- A packet of the network layer, as fields and numbers.
use Rattle.std.specs.Prelude.{ℕ, ◌+◌, false, true, List, [], length, replicate, Option, Some, None}
use Rattle.etherparse.specs.base.IpEcn.{ecn_number}
use Rattle.etherparse.specs.base.declared.net.ip_number.IpNumber.{IpNumber}
use Rattle.etherparse.specs.ext.Ipv4Exts.{auth_bytes}
use Rattle.etherparse.specs.ext.Value.{Piece}
use Rattle.etherparse.specs.ip.Ipv4 as v4
use Rattle.etherparse.specs.ip.Ipv6 as v6
use Rattle.etherparse.specs.ipslice.Ipv6Exts.{Ipv6Exts}
use Rattle.etherparse.specs.ipslice.Ipv6Packet.{extensions_of}
use Rattle.etherparse.specs.ipslice.Packet.{FragmentFields, IpPayload, ipv6_fragment_fields}
use Rattle.etherparse.specs.link.Arp as arp
use Rattle.etherparse.specs.packet.declared.net.lax_net_slice.LaxNetSlice.{LaxNetSlice}
use Rattle.etherparse.specs.packet.declared.net.lax_net_slice.LaxNetSlice.TheVariants as net
use Rattle.etherparse_structs.specs.Part.{no_part, part_at}
use Rattle.etherparse_structs.specs.declared.net.EpArp.{EpArp}
use Rattle.etherparse_structs.specs.declared.net.EpIpv4.{EpIpv4}
use Rattle.etherparse_structs.specs.declared.net.EpIpv6.{EpIpv6}
use Rattle.etherparse_structs.specs.declared.net.NetFields.{NetFields}

abbrev pub no_ipv4 : EpIpv4
no_ipv4 = record {
  header = no_part;
  extensions = no_part;
  payload = no_part;
  source = replicate 4 0;
  destination = replicate 4 0;
  total_len = 0;
  identification = 0;
  fragment_offset = 0;
  header_checksum = 0;
  dscp = 0;
  ecn = 0;
  time_to_live = 0;
  protocol = 0;
  payload_number = 0;
  dont_fragment = false;
  more_fragments = false;
  is_part = false;
}

-- an IPv4 packet at this offset: header, an authentication header, if there is one, and payload
abbrev pub ipv4_struct : ℕ → (header : List ℕ) → (auth : Option (List ℕ)) → IpPayload → EpIpv4
ipv4_struct place header auth payload = record {
  header = part_at place header;
  extensions = part_at (place + length header) (auth_bytes auth);
  payload = part_at (place + length header + length (auth_bytes auth)) payload.payload;
  source = v4.source_of header;
  destination = v4.destination_of header;
  total_len = v4.total_len_of header;
  identification = v4.identification_of header;
  fragment_offset = v4.fragment_offset_of header;
  header_checksum = v4.header_checksum_of header;
  dscp = v4.dscp_of header;
  ecn = ecn_number (v4.ecn_of header);
  time_to_live = v4.time_to_live_of header;
  protocol = v4.protocol_of header;
  payload_number = payload.ip_number.0;
  dont_fragment = v4.dont_fragment_of header;
  more_fragments = v4.more_fragments_of header;
  is_part = payload.fragmented;
}

abbrev pub no_ipv6 : EpIpv6
no_ipv6 = record {
  header = no_part;
  extensions = no_part;
  payload = no_part;
  source = replicate 16 0;
  destination = replicate 16 0;
  flow_label = 0;
  identification = 0;
  payload_length = 0;
  fragment_offset = 0;
  traffic_class = 0;
  next_header = 0;
  hop_limit = 0;
  payload_number = 0;
  has_fragment_header = false;
  more_fragments = false;
  is_part = false;
}

-- the extension headers at the start of bytes, after a number that may name one
abbrev pub extensions_after : Option IpNumber → List ℕ → List Piece
extensions_after None bytes = []
extensions_after (Some first) bytes = extensions_of first.0 bytes

-- the extension headers in their order, of which the first has the number that the view names
abbrev pub extensions_in : Ipv6Exts → List Piece
extensions_in exts = extensions_after exts.first_header exts.slice

-- what the first fragment header says, where there is one
abbrev pub fragment_fields_in : Ipv6Exts → Option FragmentFields
fragment_fields_in exts = ipv6_fragment_fields (extensions_in exts)

abbrev pub with_fragment : Option FragmentFields → EpIpv6 → EpIpv6
with_fragment None reported = reported
with_fragment (Some fields) reported = record reported {
  has_fragment_header = true;
  identification = fields.identification;
  fragment_offset = fields.offset;
  more_fragments = fields.more;
}

-- an IPv6 packet at this offset, all but its fragment header
abbrev pub ipv6_fields : ℕ → (header : List ℕ) → Ipv6Exts → IpPayload → EpIpv6
ipv6_fields place header exts payload = record no_ipv6 {
  header = part_at place header;
  extensions = part_at (place + length header) exts.slice;
  payload = part_at (place + length header + length exts.slice) payload.payload;
  source = v6.source_of header;
  destination = v6.destination_of header;
  flow_label = v6.flow_label_of header;
  payload_length = v6.payload_length_of header;
  traffic_class = v6.traffic_class_of header;
  next_header = v6.next_header_of header;
  hop_limit = v6.hop_limit_of header;
  payload_number = payload.ip_number.0;
  is_part = payload.fragmented;
}

abbrev pub ipv6_struct : ℕ → (header : List ℕ) → Ipv6Exts → IpPayload → EpIpv6
ipv6_struct place header exts payload =
    with_fragment (fragment_fields_in exts) (ipv6_fields place header exts payload)

abbrev pub no_arp : EpArp
no_arp = record {
  packet = no_part;
  sender_hardware = no_part;
  sender_protocol = no_part;
  target_hardware = no_part;
  target_protocol = no_part;
  hardware_type = 0;
  protocol_type = 0;
  operation = 0;
}

-- an ARP packet at this offset: the four addresses come after 8 bytes
abbrev pub arp_struct : ℕ → List ℕ → EpArp
arp_struct place packet = record {
  packet = part_at place packet;
  sender_hardware = record { offset = place + 8; len = arp.hw_len_of packet };
  sender_protocol = record {
    offset = place + 8 + arp.hw_len_of packet;
    len = arp.proto_len_of packet;
  };
  target_hardware = record {
    offset = place + 8 + arp.hw_len_of packet + arp.proto_len_of packet;
    len = arp.hw_len_of packet;
  };
  target_protocol = record {
    offset = place + 8 + arp.hw_len_of packet + arp.proto_len_of packet + arp.hw_len_of packet;
    len = arp.proto_len_of packet;
  };
  hardware_type = (arp.hw_type_of packet).0;
  protocol_type = (arp.proto_type_of packet).0;
  operation = (arp.operation_of packet).0;
}

-- the packet of each kind, where it is one
abbrev pub ipv4_struct_in : ℕ → Option LaxNetSlice → EpIpv4
ipv4_struct_in place None = no_ipv4
ipv4_struct_in place (Some (net.Ipv4 packet)) =
    ipv4_struct place packet.header packet.auth packet.payload
ipv4_struct_in place (Some (net.Ipv6 packet)) = no_ipv4
ipv4_struct_in place (Some (net.Arp packet)) = no_ipv4

abbrev pub ipv6_struct_in : ℕ → Option LaxNetSlice → EpIpv6
ipv6_struct_in place None = no_ipv6
ipv6_struct_in place (Some (net.Ipv4 packet)) = no_ipv6
ipv6_struct_in place (Some (net.Ipv6 packet)) =
    ipv6_struct place packet.header packet.exts packet.payload
ipv6_struct_in place (Some (net.Arp packet)) = no_ipv6

abbrev pub arp_struct_in : ℕ → Option LaxNetSlice → EpArp
arp_struct_in place None = no_arp
arp_struct_in place (Some (net.Ipv4 packet)) = no_arp
arp_struct_in place (Some (net.Ipv6 packet)) = no_arp
arp_struct_in place (Some (net.Arp packet)) = arp_struct place packet

-- which of them it is
abbrev pub net_number : Option LaxNetSlice → ℕ
net_number None = 0
net_number (Some (net.Ipv4 packet)) = 4
net_number (Some (net.Ipv6 packet)) = 6
net_number (Some (net.Arp packet)) = 1

-- the offset of the message in it
abbrev pub message_offset_in : ℕ → Option LaxNetSlice → ℕ
message_offset_in place None = place
message_offset_in place (Some (net.Ipv4 packet)) =
    place + length packet.header + length (auth_bytes packet.auth)
message_offset_in place (Some (net.Ipv6 packet)) =
    place + length packet.header + length packet.exts.slice
message_offset_in place (Some (net.Arp packet)) = place

-- the packet of the network layer at this offset, if there is one
abbrev pub net_fields : ℕ → Option LaxNetSlice → NetFields
net_fields place packet = record {
  number = net_number packet;
  message_offset = message_offset_in place packet;
  ipv4 = ipv4_struct_in place packet;
  ipv6 = ipv6_struct_in place packet;
  arp = arp_struct_in place packet;
}
