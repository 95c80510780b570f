-- What a packet's builder writes of the headers that were chosen: each with the ether type, number,
-- length and checksum that belong to what follows it.
use Rattle.std.specs.Prelude.{ℕ, ◌+◌, is_some, if◌then◌else◌, List, [], ◌++◌, length, Option, Some, None, Result, Ok}
use Rattle.std.specs.Prelude.{Err}
use Rattle.std.specs.Option.{option_and_then, option_map_or, option_or}
use Rattle.ep_base.specs.declared.err.value_too_big_error.ValueTooBigError.{ValueTooBigError}
use Rattle.ep_ext.specs.Follow as exts
use Rattle.ep_ext.specs.Ipv4Exts.{ipv4_exts_encoding, ipv4_with_link}
use Rattle.ep_ext.specs.Link.{all_slots, first_named, pieces_in, with_links}
use Rattle.ep_ext.specs.Value.{bytes_of}
use Rattle.ep_icmp.specs.Icmpv4 as icmpv4
use Rattle.ep_icmp.specs.Icmpv6 as icmpv6
use Rattle.ep_ip.specs.Ipv4 as ipv4
use Rattle.ep_ip.specs.Ipv4Checksum.{right_checksum}
use Rattle.ep_ip.specs.Ipv6 as ipv6
use Rattle.ep_link.specs.Arp as arp
use Rattle.ep_link.specs.Link.{link_len, link_encoding}
use Rattle.ep_link.specs.Sll.{with_number}
use Rattle.ep_link.specs.declared.link.link_header.LinkHeader.{LinkHeader}
use Rattle.ep_link.specs.declared.link.link_header.LinkHeader.TheVariants as link
use Rattle.ep_packet.specs.IpHeaders.{ether_type_of, ip_headers_len, with_exts, with_payload_len}
use Rattle.ep_packet.specs.Transport.{transport_len, transport_encoding}
use Rattle.ep_packet.specs.declared.net.ip_headers.IpHeaders.{IpHeaders}
use Rattle.ep_packet.specs.declared.net.ip_headers.IpHeaders.TheVariants.{Ipv4, Ipv6}
use Rattle.ep_packet.specs.declared.transport.transport_header.TransportHeader.{TransportHeader}
use Rattle.ep_packet.specs.declared.transport.transport_header.TransportHeader.TheVariants.{Udp, Tcp, Icmpv4, Icmpv6}
use Rattle.ep_tag.specs.VlanForms.{tags_encoding}
use Rattle.ep_tag.specs.declared.link.vlan_header.VlanHeader.{VlanHeader}
use Rattle.ep_tag.specs.declared.link.vlan_header.VlanHeader.TheVariants as tag
use Rattle.ep_tcpudp.specs.TcpChecksum as tcp
use Rattle.ep_tcpudp.specs.UdpChecksum as udp
use Rattle.etherparse.specs.declared.err.packet.build_write_error.BuildWriteError.{BuildWriteError}
use Rattle.etherparse.specs.declared.err.packet.build_write_error.BuildWriteError.TheVariants.{Icmpv6InIpv4, PayloadLen}
use Rattle.etherparse.specs.PacketImpl.{PacketImpl}

-- the ether type that a link header names: that of a customer's tag, or of a provider's where
-- another follows it (IEEE 802.1Q, table 9-1), and with no tag that of what follows
abbrev pub first_type : Option VlanHeader → ℕ → ℕ
first_type None ether_type = ether_type
first_type (Some (tag.Single t)) ether_type = 0x8100
first_type (Some (tag.Double t)) ether_type = 0x88a8

-- a link header that names this ether type
abbrev pub link_naming : ℕ → LinkHeader → LinkHeader
link_naming ether_type (link.Ethernet2 h) =
    link.Ethernet2 (record h { ether_type = record { 0 = ether_type } })
link_naming ether_type (link.LinuxSll h) =
    link.LinuxSll (record h { protocol_type = with_number h.protocol_type ether_type })

-- tags of which the last names this ether type, and one before it the customer's tag
abbrev pub tags_naming : ℕ → VlanHeader → VlanHeader
tags_naming ether_type (tag.Single t) =
    tag.Single (record t { ether_type = record { 0 = ether_type } })
tags_naming ether_type (tag.Double t) = tag.Double (record {
  outer = record t.outer { ether_type = record { 0 = 0x8100 } };
  inner = record t.inner { ether_type = record { 0 = ether_type } };
})

-- the bytes of an optional part, and how many they are
abbrev pub bytes_if : {A : Type 0} → (A → List ℕ) → Option A → List ℕ
bytes_if encoding optional = option_map_or encoding optional []

abbrev pub len_if : {A : Type 0} → (A → ℕ) → Option A → ℕ
len_if len optional = option_map_or len optional 0

-- link header and tags before what has this ether type
abbrev pub link_bytes : Option LinkHeader → Option VlanHeader → ℕ → List ℕ
link_bytes link vlan ether_type =
    bytes_if (λ h. link_encoding (link_naming (first_type vlan ether_type) h)) link

abbrev pub vlan_bytes : Option VlanHeader → ℕ → List ℕ
vlan_bytes vlan ether_type = bytes_if (λ t. tags_encoding (tags_naming ether_type t)) vlan

-- the number by which an IP header names a transport header
abbrev pub number_of : TransportHeader → ℕ
number_of (Udp h) = 17
number_of (Tcp h) = 6
number_of (Icmpv4 h) = 1
number_of (Icmpv6 h) = 58

-- that of a packet: nothing follows where there is no transport header (RFC 8200, section 4.7)
abbrev pub number_in : Option TransportHeader → ℕ
number_in transport = option_map_or number_of transport 59

-- the IP headers before so many bytes
abbrev pub with_lengths : IpHeaders → ℕ → IpHeaders
with_lengths (Ipv4 h e) len =
    Ipv4 (record h { total_len = ipv4.header_len h + (length (ipv4_exts_encoding e) + len) }) e
with_lengths (Ipv6 h e) len = Ipv6 (record h { payload_length = exts.header_len e + len }) e

-- the IP headers, each naming the next in the order of RFC 8200, section 4.1, and the last one this
-- number. 51: an authentication header (RFC 4302).
abbrev pub with_last_number : IpHeaders → ℕ → IpHeaders
with_last_number (Ipv4 h e) last =
    Ipv4 (record h { protocol = record { 0 = if is_some e.auth then 51 else last } })
    (ipv4_with_link e last)
with_last_number (Ipv6 h e) last =
    Ipv6 (record h { next_header = record { 0 = first_named e all_slots last } })
    (with_links e last)

-- the bytes of IP headers in that order, over IPv4 with the checksum that belongs to them
abbrev pub ip_bytes : IpHeaders → List ℕ
ip_bytes (Ipv4 h e) = ipv4.encoding (record h { header_checksum = right_checksum h })
    ++ ipv4_exts_encoding e
ip_bytes (Ipv6 h e) = ipv6.encoding h ++ bytes_of (pieces_in e all_slots)

-- the header with the length of this payload, where it has a length field
abbrev pub with_length : TransportHeader → (payload : List ℕ) → TransportHeader
with_length (Udp h) payload = Udp (record h { length = 8 + length payload })
with_length (Tcp h) payload = Tcp h
with_length (Icmpv4 h) payload = Icmpv4 h
with_length (Icmpv6 h) payload = Icmpv6 h

-- and with the checksum that belongs to it and this payload, between these addresses. (ICMPv6 has
-- none over IPv4.)
abbrev pub sealed_v4 : (source destination : List ℕ) → TransportHeader
    → (payload : List ℕ) → TransportHeader
sealed_v4 source destination (Udp h) payload =
    Udp (record h { checksum = udp.checksum_v4 source destination h payload })
sealed_v4 source destination (Tcp h) payload =
    Tcp (record h { checksum = tcp.checksum_v4 source destination h payload })
sealed_v4 source destination (Icmpv4 h) payload = Icmpv4 (icmpv4.icmpv4_with_checksum h.icmp_type
    payload)
sealed_v4 source destination (Icmpv6 h) payload = Icmpv6 h

abbrev pub sealed_v6 : (source destination : List ℕ) → TransportHeader
    → (payload : List ℕ) → TransportHeader
sealed_v6 source destination (Udp h) payload =
    Udp (record h { checksum = udp.checksum_v6 source destination h payload })
sealed_v6 source destination (Tcp h) payload =
    Tcp (record h { checksum = tcp.checksum_v6 source destination h payload })
sealed_v6 source destination (Icmpv4 h) payload = Icmpv4 (icmpv4.icmpv4_with_checksum h.icmp_type
    payload)
sealed_v6 source destination (Icmpv6 h) payload =
    Icmpv6 (icmpv6.icmpv6_with_checksum source destination h.icmp_type payload)

abbrev pub with_message_checksum : IpHeaders → (payload : List ℕ) → TransportHeader
    → TransportHeader
with_message_checksum (Ipv4 h e) payload transport =
    sealed_v4 h.source h.destination (with_length transport payload) payload
with_message_checksum (Ipv6 h e) payload transport =
    sealed_v6 h.source h.destination (with_length transport payload) payload

-- how many bytes transport header and payload are
abbrev pub message_len : Option TransportHeader → ℕ → ℕ
message_len transport payload_len = len_if transport_len transport + payload_len

-- the bytes before the payload, over these IP headers
abbrev pub ip_packet : PacketImpl → (number : ℕ) → (payload : List ℕ) → IpHeaders → List ℕ
ip_packet p number payload ip =
    link_bytes p.link_header p.vlan_header (ether_type_of ip)
    ++ (vlan_bytes p.vlan_header (ether_type_of ip)
    ++ (ip_bytes (with_last_number (with_lengths ip (message_len p.transport_header (length
    payload))) number)
    ++ (bytes_if (λ t. transport_encoding (with_message_checksum ip payload t)) p.transport_header
    ++ payload)))

-- the packet, whose headers of the network layer name this number last
abbrev pub packet_with_number : PacketImpl → (number : ℕ) → (payload : List ℕ) → List ℕ
packet_with_number p number payload = bytes_if (ip_packet p number payload) p.ip_headers

-- the packet that holds an ARP packet
abbrev pub built_arp : PacketImpl → List ℕ
built_arp p =
    link_bytes p.link_header p.vlan_header 0x0806
    ++ (vlan_bytes p.vlan_header 0x0806
    ++ bytes_if arp.encoding p.arp_packet)

-- the length of link header and tags
abbrev pub prefix_len : PacketImpl → ℕ
prefix_len p = len_if link_len p.link_header + len_if (λ t. length (tags_encoding t)) p.vlan_header

-- the length of a packet whose payload has so many bytes
abbrev pub size_of : PacketImpl → ℕ → ℕ
size_of p payload_len = prefix_len p + len_if ip_headers_len p.ip_headers + len_if transport_len
    p.transport_header + payload_len

-- that of the packet that holds an ARP packet
abbrev pub arp_size_of : PacketImpl → ℕ
arp_size_of p = prefix_len p + len_if arp.packet_len_in p.arp_packet

abbrev pub too_long : Result IpHeaders (ValueTooBigError ℕ) → Option BuildWriteError
too_long (Ok headers) = None
too_long (Err e) = Some (PayloadLen e)

-- the length field of the IP header can't hold the length of so many bytes. (An error can't name a
-- number above the greatest of 64 bits.)
abbrev pub len_refusal : Option TransportHeader → ℕ → IpHeaders → Option BuildWriteError
len_refusal transport payload_len ip =
    too_long (with_payload_len ip (with_exts payload_len (len_if transport_len transport)))

-- ICMPv6 has no checksum over IPv4
abbrev pub seal_refusal : IpHeaders → TransportHeader → Option BuildWriteError
seal_refusal (Ipv4 h e) (Udp t) = None
seal_refusal (Ipv4 h e) (Tcp t) = None
seal_refusal (Ipv4 h e) (Icmpv4 t) = None
seal_refusal (Ipv4 h e) (Icmpv6 t) = Some Icmpv6InIpv4
seal_refusal (Ipv6 h e) transport = None

-- why no packet has a payload of so many bytes, out of memory aside
abbrev pub ip_refusal : Option TransportHeader → ℕ → IpHeaders → Option BuildWriteError
ip_refusal transport payload_len ip =
    option_or (len_refusal transport payload_len ip) (option_and_then (seal_refusal ip) transport)

abbrev pub build_refusal : PacketImpl → ℕ → Option BuildWriteError
build_refusal p payload_len = option_and_then (ip_refusal p.transport_header payload_len) p.ip_headers
