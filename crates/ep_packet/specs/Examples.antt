-- Literal frames, at which laws state the definitions' values (IEEE 802.3, 802.1Q and 802.1AE;
-- RFC 768, 791, 826 and 8200).
use Rattle.std.specs.Prelude.{ℕ, false, List, [], ◌∷◌, ◌++◌, Option, Some, None}
use Rattle.ep_base.specs.declared.err.layer.Layer.{Layer}
use Rattle.ep_base.specs.declared.len_source.LenSource.{LenSource}
use Rattle.ep_base.specs.declared.len_source.LenSource.TheVariants.{Slice}
use Rattle.ep_ipslice.specs.Packet.{Ipv4Packet}
use Rattle.ep_link.specs.Frame.{without_fcs}
use Rattle.ep_link.specs.declared.link.link_slice.LinkSlice.TheVariants as link
use Rattle.ep_packet.specs.declared.addresses.Addresses.{Addresses}
use Rattle.ep_packet.specs.declared.addresses.Addresses.TheVariants.{V4}
use Rattle.ep_packet.specs.declared.err.packet.slice_error.SliceError.{SliceError}
use Rattle.ep_packet.specs.declared.err.packet.slice_error.SliceError.TheVariants.{Len}
use Rattle.ep_packet.specs.declared.net.net_slice.NetSlice.{NetSlice}
use Rattle.ep_packet.specs.declared.net.net_slice.NetSlice.TheVariants as net
use Rattle.ep_packet.specs.declared.sliced_packet.SlicedPacket.{SlicedPacket}
use Rattle.ep_packet.specs.declared.transport.transport_slice.TransportSlice.TheVariants as message
use Rattle.ep_tag.specs.Ether.{EtherPayload}
use Rattle.ep_tag.specs.MacsecPayload.{Unmodified}
use Rattle.ep_tag.specs.declared.link.link_ext_slice.LinkExtSlice.TheVariants as tag
use Rattle.ep_tag.specs.declared.link.single_vlan_header.SingleVlanHeader.{SingleVlanHeader}

-- the addresses of a frame
abbrev pub frame_addresses : List ℕ
frame_addresses = 2 ∷ 0 ∷ 0 ∷ 0 ∷ 0 ∷ 2 ∷ 2 ∷ 0 ∷ 0 ∷ 0 ∷ 0 ∷ 1 ∷ []

-- a UDP message without payload, from port 1 to port 2
abbrev pub udp_message : List ℕ
udp_message = 0 ∷ 1 ∷ 0 ∷ 2 ∷ 0 ∷ 8 ∷ 0 ∷ 0 ∷ []

-- an IPv4 header with this total length, before this number, from 10.0.0.1 to 10.0.0.2
abbrev pub ipv4_header_with : (total number : ℕ) → List ℕ
ipv4_header_with total number = 0x45 ∷ 0 ∷ 0 ∷ total ∷ 0 ∷ 7 ∷ 0 ∷ 0 ∷ 64 ∷ number ∷ 0 ∷ 0 ∷ 10 ∷ 0 ∷
    0 ∷ 1 ∷ 10 ∷ 0 ∷ 0 ∷ 2 ∷ []

-- that before a whole message of eight bytes with this number
abbrev pub ipv4_header_before : ℕ → List ℕ
ipv4_header_before number = ipv4_header_with 28 number

-- the same header with the number of UDP
abbrev pub ipv4_header : List ℕ
ipv4_header = ipv4_header_before 17

abbrev pub ipv4_packet : Ipv4Packet
ipv4_packet = record { header = ipv4_header; auth = None; payload = udp_message }

abbrev pub ipv4_addresses : Addresses
ipv4_addresses = V4 (10 ∷ 0 ∷ 0 ∷ 1 ∷ []) (10 ∷ 0 ∷ 0 ∷ 2 ∷ [])

-- the IPv4 header of a fragment of eight bytes at byte 24, identification 0x0102, more fragments
abbrev pub ipv4_fragment_header : List ℕ
ipv4_fragment_header = 0x45 ∷ 0 ∷ 0 ∷ 28 ∷ 1 ∷ 2 ∷ 0x20 ∷ 3 ∷ 64 ∷ 17 ∷ 0 ∷ 0 ∷ 10 ∷ 0 ∷ 0 ∷
    1 ∷ 10 ∷ 0 ∷ 0 ∷ 2 ∷ []

abbrev pub eight_bytes : List ℕ
eight_bytes = 1 ∷ 2 ∷ 3 ∷ 4 ∷ 5 ∷ 6 ∷ 7 ∷ 8 ∷ []

-- a VLAN tag with identifier 5 before the whole message
abbrev pub whole_frame : List ℕ
whole_frame = frame_addresses ++ 0x81 ∷ 0 ∷ 0 ∷ 5 ∷ 8 ∷ 0 ∷ [] ++ ipv4_header ++ udp_message

-- the layers of that frame
abbrev pub whole_layers : SlicedPacket
whole_layers = record {
  link = Some (link.Ethernet2 (without_fcs whole_frame));
  link_exts = record { items = tag.Vlan (0 ∷ 5 ∷ 8 ∷ 0 ∷ ipv4_header ++ udp_message) ∷ [] };
  net = Some (net.Ipv4 ipv4_packet);
  transport = Some (message.Udp udp_message);
}

-- tags with identifiers 5, of priority 1, and 9 before the fragment
abbrev pub fragment_frame : List ℕ
fragment_frame = frame_addresses ++ 0x88 ∷ 0xa8 ∷ 0x20 ∷ 5 ∷ 0x81 ∷ 0 ∷ 0 ∷ 9 ∷ 8 ∷ 0 ∷ []
    ++ ipv4_fragment_header ++ eight_bytes

abbrev pub ipv6_source : List ℕ
ipv6_source = 0xfd ∷ 0 ∷ 0 ∷ 0 ∷ 0 ∷ 0 ∷ 0 ∷ 0 ∷ 0 ∷ 0 ∷ 0 ∷ 0 ∷ 0 ∷ 0 ∷ 0 ∷ 1 ∷ []

abbrev pub ipv6_destination : List ℕ
ipv6_destination = 0xfd ∷ 0 ∷ 0 ∷ 0 ∷ 0 ∷ 0 ∷ 0 ∷ 0 ∷ 0 ∷ 0 ∷ 0 ∷ 0 ∷ 0 ∷ 0 ∷ 0 ∷ 2 ∷ []

-- an IPv6 header with this payload length, which names a fragment header
abbrev pub ipv6_header : ℕ → List ℕ
ipv6_header payload_len = 0x60 ∷ 0 ∷ 0 ∷ 0 ∷ 0 ∷ payload_len ∷ 44 ∷ 64 ∷
    ipv6_source ++ ipv6_destination

-- fragment headers: of a datagram that isn't fragmented, before another fragment header; and of a
-- fragment at byte 8, identification 0x01020304, more fragments
abbrev pub atomic_fragment : List ℕ
atomic_fragment = 44 ∷ 0 ∷ 0 ∷ 0 ∷ 0 ∷ 0 ∷ 0 ∷ 7 ∷ []

abbrev pub second_fragment : List ℕ
second_fragment = 17 ∷ 0 ∷ 0 ∷ 9 ∷ 1 ∷ 2 ∷ 3 ∷ 4 ∷ []

abbrev pub ipv6_fragment_frame : List ℕ
ipv6_fragment_frame = frame_addresses ++ 0x86 ∷ 0xdd ∷ [] ++ ipv6_header 16
    ++ second_fragment ++ eight_bytes

abbrev pub ipv6_other_frame : List ℕ
ipv6_other_frame = frame_addresses ++ 0x86 ∷ 0xdd ∷ [] ++ ipv6_header 24 ++ atomic_fragment
    ++ second_fragment ++ eight_bytes

-- VLAN tags with identifiers 4 to 1, each before the one that is defined above it
abbrev pub tag_4 : List ℕ
tag_4 = 0 ∷ 4 ∷ 8 ∷ 0 ∷ []

abbrev pub tag_3 : List ℕ
tag_3 = 0 ∷ 3 ∷ 0x81 ∷ 0 ∷ tag_4

abbrev pub tag_2 : List ℕ
tag_2 = 0 ∷ 2 ∷ 0x91 ∷ 0 ∷ tag_3

abbrev pub tag_1 : List ℕ
tag_1 = 0 ∷ 1 ∷ 0x88 ∷ 0xa8 ∷ tag_2

-- a VLAN tag before IPv4 as a value, with this identifier
abbrev pub tag_header : ℕ → SingleVlanHeader
tag_header id = record {
  pcp = 0;
  drop_eligible_indicator = false;
  vlan_id = id;
  ether_type = record { 0 = 0x800 };
}

-- bytes after the ether type of a VLAN tag
abbrev pub vlan_named : List ℕ → EtherPayload
vlan_named bytes =
    record { ether_type = record { 0 = 0x8100 }; len_source = Slice; payload = bytes }

-- an authentication header of 12 bytes before UDP (RFC 4302), with this byte for its length
abbrev pub auth_header_of_length : ℕ → List ℕ
auth_header_of_length payload_len = 17 ∷ payload_len ∷ 0 ∷ 0 ∷ 0 ∷ 0 ∷ 0 ∷ 9 ∷ 0 ∷ 0 ∷ 0 ∷ 1 ∷ []

-- a frame whose authentication header has 0 for its length
abbrev pub auth_frame : List ℕ
auth_frame = frame_addresses ++ 8 ∷ 0 ∷ [] ++ ipv4_header_with 32 51 ++ auth_header_of_length 0

-- a frame that ends four bytes before its IPv4 packet does, within the UDP header
abbrev pub short_frame : List ℕ
short_frame = frame_addresses ++ 8 ∷ 0 ∷ [] ++ ipv4_header ++ 0 ∷ 1 ∷ 0 ∷ 2 ∷ []

-- one whose total length of IPv4 counts a byte more than is there
abbrev pub total_frame : List ℕ
total_frame = frame_addresses ++ 8 ∷ 0 ∷ [] ++ ipv4_header_with 29 17 ++ udp_message

-- a UDP header with a length of 7, and a frame of it
abbrev pub low_datagram : List ℕ
low_datagram = 0 ∷ 1 ∷ 0 ∷ 2 ∷ 0 ∷ 7 ∷ 0 ∷ 0 ∷ []

abbrev pub datagram_frame : List ℕ
datagram_frame = frame_addresses ++ 8 ∷ 0 ∷ [] ++ ipv4_header ++ low_datagram

-- frames that end within a header: of MACsec, of IPv4 after a VLAN tag, of ARP after a MACsec header, of
-- UDP after an authentication header (RFC 4302), of ICMPv6 after hop-by-hop options (RFC 8200), and of
-- TCP within its options (RFC 9293)
abbrev pub cut_in_macsec : List ℕ
cut_in_macsec = frame_addresses ++ 0x88 ∷ 0xe5 ∷ 0 ∷ 0 ∷ 0 ∷ 0 ∷ 0 ∷ []

abbrev pub cut_after_tag : List ℕ
cut_after_tag = frame_addresses ++ 0x81 ∷ 0 ∷ 0 ∷ 5 ∷ 8 ∷ 0 ∷
    0x45 ∷ 0 ∷ 0 ∷ 28 ∷ 0 ∷ 7 ∷ 0 ∷ 0 ∷ 64 ∷ 17 ∷ []

abbrev pub cut_after_macsec : List ℕ
cut_after_macsec = frame_addresses ++ 0x88 ∷ 0xe5 ∷ 0 ∷ 0 ∷ 0 ∷ 0 ∷ 0 ∷ 1 ∷ 8 ∷ 6 ∷
    0 ∷ 1 ∷ 8 ∷ 0 ∷ 6 ∷ 4 ∷ []

abbrev pub cut_after_auth : List ℕ
cut_after_auth = frame_addresses ++ 8 ∷ 0 ∷ [] ++ ipv4_header_with 36 51 ++ auth_header_of_length 1
    ++ 0 ∷ 1 ∷ 0 ∷ 2 ∷ []

abbrev pub cut_after_options : List ℕ
cut_after_options = frame_addresses ++ 0x86 ∷ 0xdd ∷
    0x60 ∷ 0 ∷ 0 ∷ 0 ∷ 0 ∷ 12 ∷ 0 ∷ 64 ∷ ipv6_source ++ ipv6_destination ++
    58 ∷ 0 ∷ 1 ∷ 4 ∷ 0 ∷ 0 ∷ 0 ∷ 0 ∷ 128 ∷ 0 ∷ 0 ∷ 0 ∷ []

abbrev pub cut_in_options : List ℕ
cut_in_options = frame_addresses ++ 8 ∷ 0 ∷
    0x45 ∷ 0 ∷ 0 ∷ 42 ∷ 0 ∷ 7 ∷ 0 ∷ 0 ∷ 64 ∷ 6 ∷ 0 ∷ 0 ∷ 10 ∷ 0 ∷ 0 ∷ 1 ∷ 10 ∷ 0 ∷ 0 ∷ 2 ∷
    0 ∷ 1 ∷ 0 ∷ 2 ∷ 0 ∷ 0 ∷ 0 ∷ 0 ∷ 0 ∷ 0 ∷ 0 ∷ 0 ∷ 0x60 ∷ 2 ∷ 0 ∷ 0 ∷ 0 ∷ 0 ∷ 0 ∷ 0 ∷ 2 ∷ 4 ∷ []

-- a layer at this offset needs so many bytes, and fewer are there, by this length
abbrev pub missing_bytes : Layer → ℕ → ℕ → LenSource → ℕ → SliceError
missing_bytes layer required found source offset = Len (record {
  required_len = required;
  len = found;
  len_source = source;
  layer = layer;
  layer_start_offset = offset;
})

-- the header of a Linux cooked capture's packet that came from 1:2:3:4:5:6, with this protocol
abbrev pub cooked_header : List ℕ → List ℕ
cooked_header protocol = 0 ∷ 0 ∷ 0 ∷ 1 ∷ 0 ∷ 6 ∷ 1 ∷ 2 ∷ 3 ∷ 4 ∷ 5 ∷ 6 ∷ 0 ∷ 0 ∷ protocol

-- the whole message after it
abbrev pub cooked_packet : List ℕ
cooked_packet = cooked_header (8 ∷ 0 ∷ []) ++ ipv4_header ++ udp_message

-- a number that is no ether type (LINUX_SLL_P_802_2)
abbrev pub cooked_without_type : List ℕ
cooked_without_type = cooked_header (0 ∷ 4 ∷ []) ++ 0x45 ∷ []

-- a MACsec header with a short length of 6, two bytes of an ether type and the VLAN tag that it
-- names
abbrev pub bounded_packet : Option NetSlice → SlicedPacket
bounded_packet net = record {
  link = None;
  link_exts = record {
    items = tag.Macsec (record {
      header = 0 ∷ 6 ∷ 0 ∷ 0 ∷ 0 ∷ 1 ∷ 0x81 ∷ 0 ∷ [];
      payload = Unmodified (vlan_named tag_4);
    }) ∷ tag.Vlan tag_4 ∷ [];
  };
  net = net;
  transport = None;
}
