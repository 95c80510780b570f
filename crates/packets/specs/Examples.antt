-- Packets of literal bytes, which the examples dissect and count.
use Rattle.std.specs.Prelude.{ℕ, ◌+◌, ◌*◌, ◌++◌, true, false, List, [], ◌∷◌, Option, Some, None, Err, replicate}
use Rattle.captures.specs.declared.link.kind.Link.TheVariants as link
use Rattle.ep_base.specs.declared.err.layer.Layer.TheVariants.{Icmpv4Timestamp, Ipv4Header, Ipv4Packet}
use Rattle.ep_base.specs.declared.len_source.LenSource.{LenSource}
use Rattle.ep_base.specs.declared.len_source.LenSource.TheVariants as source
use Rattle.ep_ipslice.specs.Packet.{Ipv6Packet}
use Rattle.ep_packet.specs.declared.addresses.Addresses.{Addresses}
use Rattle.ep_packet.specs.declared.addresses.Addresses.TheVariants.{V4, V6}
use Rattle.ep_packet.specs.declared.err.packet.slice_error.SliceError.{SliceError}
use Rattle.ep_packet.specs.declared.err.packet.slice_error.SliceError.TheVariants.{Len, Tcp}
use Rattle.ep_packet.specs.declared.lax_sliced_packet.LaxSlicedPacket.{LaxSlicedPacket}
use Rattle.ep_packet.specs.declared.net.lax_net_slice.LaxNetSlice.{LaxNetSlice}
use Rattle.ep_packet.specs.declared.net.lax_net_slice.LaxNetSlice.TheVariants as lax
use Rattle.ep_packet.specs.declared.net.net_slice.NetSlice.{NetSlice}
use Rattle.ep_packet.specs.declared.sliced_packet.SlicedPacket.{SlicedPacket}
use Rattle.ep_packet.specs.declared.transport.transport_slice.TransportSlice.{TransportSlice}
use Rattle.ep_packet.specs.declared.transport.transport_slice.TransportSlice.TheVariants as transport
use Rattle.ep_packet.specs.Class.{FragmentName}
use Rattle.ep_tcpudp.specs.declared.err.tcp.header_error.HeaderError.TheVariants.{DataOffsetTooSmall}
use Rattle.etherparse.specs.Fragments.{fragment as first_of}
use Rattle.etherparse.specs.PoolCalls.{Lists}
use Rattle.packets.specs.ReassemblyMemory.{Order}
use Rattle.packets.specs.declared.dissection.Dissection.{Dissection}
use Rattle.packets.specs.declared.outline.Headers.{Headers}
use Rattle.packets.specs.declared.outline.Net.TheVariants as net
use Rattle.packets.specs.declared.outline.Outline.{Outline}
use Rattle.packets.specs.declared.outline.FragmentState.{FragmentState}
use Rattle.packets.specs.declared.outline.FragmentState.TheVariants as fragment
use Rattle.packets.specs.declared.reason.Reason.{Reason}
use Rattle.packets.specs.declared.reason.Reason.TheVariants as reason
use Rattle.packets.specs.declared.summary.tally.Tally.{Tally}
use Rattle.checksum_verdicts.specs.declared.verdict.Verdict.{Verdict}
use Rattle.checksum_verdicts.specs.declared.verdict.Verdict.TheVariants as verdict

-- ---- from 10.0.0.1 to 10.0.0.2, and from 2001:db8::1 to 2001:db8::2

abbrev pub ipv4_ends : Addresses
ipv4_ends = V4 (10 ∷ 0 ∷ 0 ∷ 1 ∷ []) (10 ∷ 0 ∷ 0 ∷ 2 ∷ [])

abbrev pub back_ends : Addresses
back_ends = V4 (10 ∷ 0 ∷ 0 ∷ 2 ∷ []) (10 ∷ 0 ∷ 0 ∷ 1 ∷ [])

abbrev pub ipv6_ends : Addresses
ipv6_ends = V6 (0x20 ∷ 1 ∷ 0x0d ∷ 0xb8 ∷ (replicate 11 0 ++ 1 ∷ []))
    (0x20 ∷ 1 ∷ 0x0d ∷ 0xb8 ∷ (replicate 11 0 ++ 2 ∷ []))

-- an IPv4 header (RFC 791, section 3.1) without options, of a packet with 12 bytes of a protocol
abbrev pub ipv4_header : (protocol : ℕ) → List ℕ
ipv4_header protocol =
    0x45 ∷ 0 ∷ 0 ∷ 32 ∷ 0 ∷ 1 ∷ 0 ∷ 0 ∷ 64 ∷ protocol ∷ 0x66 ∷ 0xca ∷ 10 ∷ 0 ∷ 0 ∷ 1 ∷ 10 ∷ 0 ∷ 0
    ∷ 2 ∷ []

-- an IPv6 header (RFC 8200, section 3) of a packet with 12 bytes of UDP
abbrev pub ipv6_header : List ℕ
ipv6_header =
    0x60 ∷ 0 ∷ 0 ∷ 0 ∷ 0 ∷ 12 ∷ 17 ∷ 64 ∷ 0x20 ∷ 1 ∷ 0x0d ∷ 0xb8 ∷ (replicate 11 0
    ++ (1 ∷ 0x20 ∷ 1 ∷ 0x0d ∷ 0xb8 ∷ (replicate 11 0 ++ 2 ∷ [])))

-- an IPv4 header to 10.0.0.2 with 12 bytes of options, of a packet with 12 bytes of UDP
abbrev pub ipv4_with_options : List ℕ → List ℕ
ipv4_with_options options =
    0x48 ∷ 0 ∷ 0 ∷ 44 ∷ 0 ∷ 1 ∷ 0 ∷ 0 ∷ 64 ∷ 17 ∷ 0 ∷ 0 ∷ 10 ∷ 0 ∷ 0 ∷ 1 ∷ 10 ∷ 0 ∷ 0 ∷ 2 ∷ options

-- an address of the network 2001:db8::
abbrev pub ipv6_address : (last : ℕ) → List ℕ
ipv6_address last = 0x20 ∷ 1 ∷ 0x0d ∷ 0xb8 ∷ (replicate 11 0 ++ last ∷ [])

-- a routing header (RFC 8200, section 4.4) before UDP, by its length in units of 8 bytes, its type,
-- how many segments are left, and the byte after these
abbrev pub routing_header : (units kind left entry : ℕ) → List ℕ → List ℕ
routing_header units kind left entry addresses =
    17 ∷ units ∷ kind ∷ left ∷ entry ∷ 0 ∷ 0 ∷ 0 ∷ addresses

-- an IPv6 packet to 2001:db8::2 of these extension headers, the first of which is a routing header,
-- and 12 bytes of UDP
abbrev pub ipv6_with_routing : List ℕ → List ℕ → Ipv6Packet
ipv6_with_routing extensions datagram = record {
  header = 0x60 ∷ 0 ∷ 0 ∷ 0 ∷ 0 ∷ 0 ∷ 43 ∷ 64 ∷ (ipv6_address 1 ++ ipv6_address 2);
  exts = record { first_header = Some (record { 0 = 43 }); fragmented = false; slice = extensions };
  payload = record {
    ip_number = record { 0 = 17 };
    fragmented = false;
    len_source = source.Ipv6HeaderPayloadLen;
    payload = datagram;
  };
}

-- the layers of an IP packet with a UDP datagram
abbrev pub packet_over : NetSlice → List ℕ → SlicedPacket
packet_over layer datagram = record {
  link = None;
  link_exts = record { items = [] };
  net = Some layer;
  transport = Some (transport.Udp datagram);
}

-- an IPv4 packet with 12 bytes of a protocol, of which these are there
abbrev pub ipv4_in_part : (protocol : ℕ) → List ℕ → LaxNetSlice
ipv4_in_part protocol bytes = lax.Ipv4 (record {
  header = ipv4_header protocol;
  auth = None;
  incomplete = true;
  payload = record {
    ip_number = record { 0 = protocol };
    fragmented = false;
    len_source = source.Slice;
    payload = bytes;
  };
})

-- the IPv6 packet with 12 bytes of UDP, of which these are there
abbrev pub ipv6_in_part : List ℕ → LaxNetSlice
ipv6_in_part bytes = lax.Ipv6 (record {
  header = ipv6_header;
  exts = record { first_header = None; fragmented = false; slice = [] };
  incomplete = true;
  payload = record {
    ip_number = record { 0 = 17 };
    fragmented = false;
    len_source = source.Slice;
    payload = bytes;
  };
})

-- an ICMP message of this type, with code 0 (RFC 792; RFC 4443, section 2.1), by what follows its header
abbrev pub icmp_with : (kind : ℕ) → List ℕ → List ℕ
icmp_with kind bytes = kind ∷ 0 ∷ 0 ∷ 0 ∷ 0 ∷ 0 ∷ 0 ∷ 0 ∷ bytes

-- the layers of a packet that is there in part
abbrev pub in_part : Option LaxNetSlice → Option TransportSlice → LaxSlicedPacket
in_part layer message = record {
  link = None;
  link_exts = record { items = [] };
  net = layer;
  transport = message;
  stop_err = None;
}

-- so many bytes are needed after an Ethernet II header, and so many are there by this source
abbrev pub missing : LenSource → (needed there : ℕ) → SliceError
missing by needed there = Len (record {
  required_len = needed;
  len = there;
  len_source = by;
  layer = Ipv4Packet;
  layer_start_offset = 14;
})

-- an ICMP timestamp message after an IPv4 header has 24 bytes, and not the 20 of its kind (RFC 792)
abbrev pub long_timestamp : SliceError
long_timestamp = Len (record {
  required_len = 20;
  len = 24;
  len_source = source.Slice;
  layer = Icmpv4Timestamp;
  layer_start_offset = 34;
})

-- ARP packets (RFC 826) in which 10.0.0.1 requests the hardware address of 10.0.0.2: of Ethernet
-- for IPv4; of IEEE 802, hardware type 6; for the addresses of protocol 0x1234; and of ARCNET,
-- hardware type 7, whose addresses have one byte
abbrev pub arp_ends : List ℕ
arp_ends = 2 ∷ 0 ∷ 0 ∷ 0 ∷ 0 ∷ 1 ∷ 10 ∷ 0 ∷ 0 ∷ 1 ∷ 0 ∷ 0 ∷ 0 ∷ 0 ∷ 0 ∷ 0 ∷ 10 ∷ 0 ∷ 0 ∷ 2 ∷ []

abbrev pub arp_request : List ℕ
arp_request = 0 ∷ 1 ∷ 8 ∷ 0 ∷ 6 ∷ 4 ∷ 0 ∷ 1 ∷ arp_ends

abbrev pub arp_of_ieee_802 : List ℕ
arp_of_ieee_802 = 0 ∷ 6 ∷ 8 ∷ 0 ∷ 6 ∷ 4 ∷ 0 ∷ 1 ∷ arp_ends

abbrev pub arp_for_another_protocol : List ℕ
arp_for_another_protocol = 0 ∷ 1 ∷ 0x12 ∷ 0x34 ∷ 6 ∷ 4 ∷ 0 ∷ 1 ∷ arp_ends

abbrev pub arp_of_arcnet : List ℕ
arp_of_arcnet =
    0 ∷ 7 ∷ 8 ∷ 0 ∷ 1 ∷ 4 ∷ 0 ∷ 1 ∷ 5 ∷ 10 ∷ 0 ∷ 0 ∷ 1 ∷ 0 ∷ 10 ∷ 0 ∷ 0 ∷ 2 ∷ []

-- a UDP datagram (RFC 768) from port 53 to 5353, over IPv4 from 10.0.0.1 to 10.0.0.2: with the right
-- checksum, or another one
abbrev pub datagram_with : (high low : ℕ) → List ℕ
datagram_with high low =
    0 ∷ 53 ∷ 0x14 ∷ 0xe9 ∷ 0 ∷ 12 ∷ high ∷ low ∷ 97 ∷ 98 ∷ 99 ∷ 100 ∷ []

-- a TCP header (RFC 9293, section 3.1) from port 443 to 51234 with a data offset in its high bits
abbrev pub segment_with : (offset : ℕ) → List ℕ
segment_with offset =
    1 ∷ 0xbb ∷ 0xc8 ∷ 0x22 ∷ 0 ∷ 0 ∷ 0 ∷ 17 ∷ 0 ∷ 0 ∷ 0 ∷ 0 ∷ 16 * offset ∷ 2 ∷ 0xff ∷ 0xff ∷ 0xd1
    ∷ 0xf1 ∷ 0 ∷ 0 ∷ []

-- ---- the capture of docs/PACKETS.md, an eighth of a second from one packet to the next

abbrev pub no_headers : Headers
no_headers = record { ethernet = true; vlan = false; macsec = false; net = None }

abbrev pub headers_over : Addresses → (number : ℕ) → Headers
headers_over ends number = record no_headers { net = Some (net.Ip ends (record { 0 = number })) }

abbrev pub message : (number position len : ℕ) → Headers → Option Verdict → Outline
message number position len headers reported = record {
  number = number;
  time = 1700000000250000000 + 125000000 * position;
  len = len;
  captured_len = len;
  wire_len = len;
  headers = headers;
  refusal = None;
  fragment = None;
  verdict = reported;
}

-- so many of its bytes were captured, of which all were in its frame, and so many were on the wire
abbrev pub sized : (number captured_len wire_len : ℕ) → Outline
sized number captured_len wire_len =
    record (message number 0 captured_len no_headers None) { wire_len = wire_len }

abbrev pub outline_of_fragment : (number position : ℕ) → FragmentState → Option Verdict → Outline
outline_of_fragment number position state reported =
    record (message number position 50 (headers_over ipv4_ends 17) reported) { fragment = Some state }

abbrev pub refused : (number position len : ℕ) → Reason → Outline
refused number position len why =
    record (message number position len no_headers None) { refusal = Some why }

abbrev pub page : List Outline
page = message 1 0 54 (headers_over ipv4_ends 6) (Some verdict.Good)
    ∷ message 2 1 46 (headers_over ipv4_ends 17) (Some verdict.Bad)
    ∷ message 3 2 42 (record no_headers { net = Some net.Arp }) None
    ∷ message 4 3 74 (record (headers_over ipv6_ends 58) { vlan = true }) (Some verdict.Good)
    ∷ outline_of_fragment 5 4 fragment.Waits None
    ∷ outline_of_fragment 6 5 fragment.Completes (Some verdict.Good)
    ∷ refused 7 6 21 (reason.CutOff Ipv4Header)
    ∷ record (refused 8 7 54 reason.TcpDataOffset) { headers = headers_over ipv4_ends 6 }
    ∷ message 9 8 44 (headers_over back_ends 17) (Some verdict.None)
    ∷ outline_of_fragment 10 9 fragment.Waits None ∷ []

-- the eighth of them, a TCP segment that breaks its format
abbrev pub eighth : Dissection
eighth = record {
  number = 8;
  first_time = 1700000000250000000;
  previous_time = 1700000001000000000;
  time = 1700000001125000000;
  interface = 0;
  link = link.Ethernet;
  header = None;
  bytes = replicate 12 2 ++ 8 ∷ 0 ∷ (ipv4_header 6 ++ segment_with 4);
  len = 54;
  captured_len = 54;
  wire_len = 54;
  layers = Err (Tcp (DataOffsetTooSmall 4));
  fragment = None;
  checksums = true;
  verdict = None;
}

abbrev pub tally : (packets bytes first : ℕ) → Tally
tally packets bytes first = record { packets = packets; bytes = bytes; first = Some first }

-- ---- datagrams that are not complete

-- from 10.0.0.1 to 10.0.0.2, of UDP, with this identification
abbrev pub named : (identification : ℕ) → FragmentName
named identification =
    record { vlan_ids = []; addresses = ipv4_ends; identification = identification; number = 17 }

-- each has its first 8 bytes
abbrev pub eight_bytes : Lists
eight_bytes name channel =
    record { fragments = first_of 0 true (replicate 8 1) ∷ []; time = 0 }

-- three in the order in which they started
abbrev pub three_datagrams : Order
three_datagrams = (named 1, 0) ∷ (named 2, 0) ∷ (named 3, 0) ∷ []
