-- The headers of a packet, as values, that belong to its slices.
use Rattle.std.specs.Prelude.{◌≡◌, ◌⊎◌, ℕ, List, [], length, drop, map, Option, Some, None}
use Rattle.std.specs.Option.{option_map}
use Rattle.ep_ext.specs.Chain.{Row}
use Rattle.ep_ext.specs.Ipv4Exts.{ipv4_exts_of}
use Rattle.ep_ext.specs.Slot.{slot_of}
use Rattle.ep_ext.specs.Value.{Piece, bytes_of, value_of}
use Rattle.ep_icmp.specs.Icmpv4 as icmpv4
use Rattle.ep_icmp.specs.Icmpv6 as icmpv6
use Rattle.ep_ip.specs.Ipv4 as v4
use Rattle.ep_ip.specs.Ipv6 as v6
use Rattle.ep_ipslice.specs.Packet.{IpPayload, Ipv6Packet, ipv4_payload}
use Rattle.ep_link.specs.Arp as arp
use Rattle.ep_link.specs.Link as link
use Rattle.ep_link.specs.declared.link.link_header.LinkHeader.{LinkHeader}
use Rattle.ep_link.specs.declared.link.link_slice.LinkSlice.{LinkSlice}
use Rattle.ep_packet.specs.PacketHeaders.{Headers, modified_after}
use Rattle.ep_packet.specs.PacketView.{ether_payload_in, ip_payload_of, last_of}
use Rattle.ep_packet.specs.Payload.{Payload, Empty, Ether, Ip, Udp, Tcp, Icmpv4, Icmpv6}
use Rattle.ep_packet.specs.declared.net.net_headers.NetHeaders.{NetHeaders}
use Rattle.ep_packet.specs.declared.net.net_headers.NetHeaders.TheVariants as headers
use Rattle.ep_packet.specs.declared.net.net_slice.NetSlice.{NetSlice}
use Rattle.ep_packet.specs.declared.net.net_slice.NetSlice.TheVariants as slice
use Rattle.ep_packet.specs.declared.sliced_packet.SlicedPacket.{SlicedPacket}
use Rattle.ep_packet.specs.declared.transport.transport_header.TransportHeader.{TransportHeader}
use Rattle.ep_packet.specs.declared.transport.transport_header.TransportHeader.TheVariants as header
use Rattle.ep_packet.specs.declared.transport.transport_slice.TransportSlice.{TransportSlice}
use Rattle.ep_packet.specs.declared.transport.transport_slice.TransportSlice.TheVariants as message
use Rattle.ep_tag.specs.Ether.{EtherPayload}
use Rattle.ep_tag.specs.LinkExt.{fields_of}
use Rattle.ep_tag.specs.declared.link.link_ext_slice.LinkExtSlice.{LinkExtSlice}
use Rattle.ep_tcpudp.specs.Tcp as tcp
use Rattle.ep_tcpudp.specs.Udp as udp

-- the fields of a link header; an ether payload without one has none
abbrev pub link_fields : Option LinkSlice → Option LinkHeader
link_fields None = None
link_fields (Some l) = link.fields_of l

-- the extension headers of a packet are each in a slot of its own, and these are their fields
pub record IsInSlots (packet : Ipv6Packet) (h : NetHeaders) : Type 0 where
  pub pieces : List Piece
  pub last : ℕ
  pub row : Row slot_of [] (v6.next_header_of packet.header) pieces last
  pub all : bytes_of pieces ≡ packet.exts.slice
  pub fields : h ≡ headers.Ipv6 (v6.ipv6_header_of packet.header) (value_of pieces)

-- the headers are those of the packet
abbrev pub AreFieldsOf : NetSlice → NetHeaders → Type 0
AreFieldsOf (slice.Ipv4 packet) h =
    h ≡ headers.Ipv4 (v4.ipv4_header_of packet.header) (ipv4_exts_of packet.auth)
AreFieldsOf (slice.Ipv6 packet) h = IsInSlots packet h
AreFieldsOf (slice.Arp packet) h = h ≡ headers.Arp (arp.fields_of packet)

abbrev pub AreNetFields : Option NetSlice → Option NetHeaders → Type 0
AreNetFields None h = h ≡ None
AreNetFields (Some packet) h = (fields : NetHeaders) × (h ≡ Some fields) × AreFieldsOf packet fields

-- the fields of a message's header
abbrev pub transport_fields : TransportSlice → TransportHeader
transport_fields (message.Icmpv4 m) = header.Icmpv4 (icmpv4.icmpv4_header_of m)
transport_fields (message.Tcp m) = header.Tcp (tcp.tcp_header_of m)
transport_fields (message.Udp m) = header.Udp (udp.udp_header_of m)
transport_fields (message.Icmpv6 m) = header.Icmpv6 (icmpv6.icmpv6_header_of m)

-- the payload after it
abbrev pub after_message : TransportSlice → Payload
after_message (message.Icmpv4 m) = Icmpv4 (drop (icmpv4.header_len (icmpv4.type_of m)) m)
after_message (message.Tcp m) = Tcp (tcp.payload_of m)
after_message (message.Udp m) = Udp (drop 8 m)
after_message (message.Icmpv6 m) = Icmpv6 (drop 8 m)

-- the payload after a packet without a message that is read
abbrev pub after_packet : NetSlice → Payload
after_packet (slice.Ipv4 packet) = Ip (ipv4_payload packet)
after_packet (slice.Ipv6 packet) = Ip packet.payload
after_packet (slice.Arp packet) = Empty

-- the payload after tags: what the last ether type names, or else the modified MACsec payload
abbrev pub after_tags : List LinkExtSlice → Option EtherPayload → Payload
after_tags tags (Some p) = Ether p
after_tags tags None = modified_after (last_of tags)

-- the payload after the last of the layers
abbrev pub after_layers : Option NetSlice → Option TransportSlice → Payload → Payload
after_layers net (Some m) below = after_message m
after_layers (Some packet) None below = after_packet packet
after_layers None None below = below

-- the length field of a UDP datagram is 0 or counts all of the IP payload; other messages meet this
-- always
abbrev pub IsWholeIn : Option IpPayload → Option TransportSlice → Type 0
IsWholeIn p m =
    (q : IpPayload) (datagram : List ℕ) → p ≡ Some q → m ≡ Some (message.Udp datagram)
    → (udp.length_of q.payload ≡ 0) ⊎ (udp.length_of q.payload ≡ length q.payload)

-- the headers and the payload are those that the slices have
pub record AreHeadersOf (packet : SlicedPacket) (h : Headers) : Type 0 where
  pub link : h.link ≡ link_fields packet.link
  pub link_exts : h.link_exts ≡ map fields_of packet.link_exts.items
  pub net : AreNetFields packet.net h.net
  pub transport : h.transport ≡ option_map transport_fields packet.transport
  pub payload : h.payload ≡ after_layers packet.net packet.transport
      (after_tags packet.link_exts.items (ether_payload_in packet))
  pub datagram : IsWholeIn (ip_payload_of packet.net) packet.transport
