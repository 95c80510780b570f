-- Which packets meet a condition.
use Rattle.std.specs.Prelude.{ℕ, ◌+◌, ◌-◌, ◌/◌, ◌^◌, ◌==◌, ◌||◌, ◌&&◌, nat_le, nat_lt, bit_and, bit_or, if◌then◌else◌, Bool, false}
use Rattle.std.specs.Prelude.{List, length, Option, Some, None, is_some, Result, Ok, Err}
use Rattle.std.specs.Int.{w32, w128, from_be_bytes}
use Rattle.std.specs.List.{list_any}
use Rattle.std.specs.Net.Addr.{ipv4_octets, ipv6_octets}
use Rattle.std.specs.declared.net.ip_addr.IpAddr.{IpAddr}
use Rattle.std.specs.declared.net.ip_addr.IpAddr.TheVariants.{V4, V6}
use Rattle.ep_ip.specs.Ipv4 as ipv4
use Rattle.ep_ip.specs.Ipv6 as ipv6
use Rattle.ep_link.specs.Arp.{proto_type_of, sender_proto_of, target_proto_of}
use Rattle.ep_packet.specs.LaxView.{lax_vlan_ids_of}
use Rattle.ep_packet.specs.Tags.{vlan_ids_of}
use Rattle.ep_packet.specs.declared.err.packet.slice_error.SliceError.{SliceError}
use Rattle.ep_packet.specs.declared.lax_sliced_packet.LaxSlicedPacket.{LaxSlicedPacket}
use Rattle.ep_packet.specs.declared.net.lax_net_slice.LaxNetSlice.{LaxNetSlice}
use Rattle.ep_packet.specs.declared.net.lax_net_slice.LaxNetSlice.TheVariants as lax
use Rattle.ep_packet.specs.declared.net.net_slice.NetSlice.{NetSlice}
use Rattle.ep_packet.specs.declared.net.net_slice.NetSlice.TheVariants as net
use Rattle.ep_packet.specs.declared.sliced_packet.SlicedPacket.{SlicedPacket}
use Rattle.packets.specs.Counts.{is_bad}
use Rattle.packets.specs.Headers.{has_header}
use Rattle.packets.specs.Icmpv6Types.{icmpv6_type, is_mld, is_ndp}
use Rattle.packets.specs.LaxLayers.{lax_layers_of}
use Rattle.packets.specs.Lengths.{is_cut}
use Rattle.packets.specs.MessageHeaders.{message_header, ports_of}
use Rattle.packets.specs.Outlines.{headers_of, refusal_of}
use Rattle.packets.specs.declared.condition.Condition.{Condition}
use Rattle.packets.specs.declared.condition.Condition.TheVariants as condition
use Rattle.packets.specs.declared.condition.Side.{Side}
use Rattle.packets.specs.declared.condition.Side.TheVariants as side
use Rattle.packets.specs.declared.condition.TcpFlag.{TcpFlag}
use Rattle.packets.specs.declared.condition.TcpFlag.TheVariants as tcp_flag
use Rattle.packets.specs.declared.dissection.Dissection.{Dissection}
use Rattle.packets.specs.declared.dissection.Fragment.{Fragment}
use Rattle.packets.specs.declared.message_header.MessageHeader.{MessageHeader}

-- from the first to the last, both included
abbrev pub is_within : (first last n : ℕ) → Bool
is_within first last n = nat_le first n && nat_le n last

-- what holds of the source, of the destination, or of one of them
abbrev pub holds_at : Side → (source destination : Bool) → Bool
holds_at side.Either source destination = source || destination
holds_at side.Source source destination = source
holds_at side.Destination source destination = destination

-- whether the source, the destination, or one of them, is from the first to the last, if they are there
abbrev pub are_within : Side → (first last : ℕ) → Option (ℕ × ℕ) → Bool
are_within at first last None = false
are_within at first last (Some ends) = holds_at at (is_within first last ends.0) (is_within first last ends.1)

-- the bits after a prefix, all set
abbrev pub ipv4_bits_after : (prefix : ℕ) → ℕ
ipv4_bits_after prefix = if nat_lt prefix 32 then (2 ^ 32 - 1) / 2 ^ prefix else 0

abbrev pub ipv6_bits_after : (prefix : ℕ) → ℕ
ipv6_bits_after prefix = if nat_lt prefix 128 then (2 ^ 128 - 1) / 2 ^ prefix else 0

-- the condition of a network: from the address whose bits after the prefix are 0 to that where they
-- are 1; none of an address where one of them is 1
abbrev pub ipv4_network : Side → (address prefix : ℕ) → Option Condition
ipv4_network at address prefix = if bit_and address (ipv4_bits_after prefix) == 0
    then Some (condition.Ipv4 at address (bit_or address (ipv4_bits_after prefix))) else None

abbrev pub ipv6_network : Side → (address prefix : ℕ) → Option Condition
ipv6_network at address prefix = if bit_and address (ipv6_bits_after prefix) == 0
    then Some (condition.Ipv6 at address (bit_or address (ipv6_bits_after prefix))) else None

-- four bytes as an address of IPv4, and an address as a number
abbrev pub ipv4_number : List ℕ → Option ℕ
ipv4_number bytes = if length bytes == 4 then Some (from_be_bytes w32 bytes) else None

abbrev pub both_numbers : (source destination : Option ℕ) → Option (ℕ × ℕ)
both_numbers None destination = None
both_numbers (Some source) None = None
both_numbers (Some source) (Some destination) = Some (source, destination)

-- an ARP packet for the addresses of IPv4, which are those of ether type 0x0800, names two
abbrev pub arp_numbers : List ℕ → Option (ℕ × ℕ)
arp_numbers packet = if (proto_type_of packet).0 == 2048
    then both_numbers (ipv4_number (sender_proto_of packet)) (ipv4_number (target_proto_of packet)) else None

-- the source and the destination of a header, as numbers
abbrev pub ipv4_header_numbers : List ℕ → Option (ℕ × ℕ)
ipv4_header_numbers header =
    Some (from_be_bytes w32 (ipv4.source_of header), from_be_bytes w32 (ipv4.destination_of header))

abbrev pub ipv6_header_numbers : List ℕ → Option (ℕ × ℕ)
ipv6_header_numbers header =
    Some (from_be_bytes w128 (ipv6.source_of header), from_be_bytes w128 (ipv6.destination_of header))

abbrev pub net_ipv4_numbers : Option NetSlice → Option (ℕ × ℕ)
net_ipv4_numbers None = None
net_ipv4_numbers (Some (net.Ipv4 packet)) = ipv4_header_numbers packet.header
net_ipv4_numbers (Some (net.Ipv6 packet)) = None
net_ipv4_numbers (Some (net.Arp packet)) = arp_numbers packet

abbrev pub net_ipv6_numbers : Option NetSlice → Option (ℕ × ℕ)
net_ipv6_numbers None = None
net_ipv6_numbers (Some (net.Ipv4 packet)) = None
net_ipv6_numbers (Some (net.Ipv6 packet)) = ipv6_header_numbers packet.header
net_ipv6_numbers (Some (net.Arp packet)) = None

-- the same of what is there of a packet that is refused
abbrev pub lax_net_ipv4_numbers : Option LaxNetSlice → Option (ℕ × ℕ)
lax_net_ipv4_numbers None = None
lax_net_ipv4_numbers (Some (lax.Ipv4 packet)) = ipv4_header_numbers packet.header
lax_net_ipv4_numbers (Some (lax.Ipv6 packet)) = None
lax_net_ipv4_numbers (Some (lax.Arp packet)) = arp_numbers packet

abbrev pub lax_net_ipv6_numbers : Option LaxNetSlice → Option (ℕ × ℕ)
lax_net_ipv6_numbers None = None
lax_net_ipv6_numbers (Some (lax.Ipv4 packet)) = None
lax_net_ipv6_numbers (Some (lax.Ipv6 packet)) = ipv6_header_numbers packet.header
lax_net_ipv6_numbers (Some (lax.Arp packet)) = None

abbrev pub lax_ipv4_numbers : Option LaxSlicedPacket → Option (ℕ × ℕ)
lax_ipv4_numbers None = None
lax_ipv4_numbers (Some packet) = lax_net_ipv4_numbers packet.net

abbrev pub lax_ipv6_numbers : Option LaxSlicedPacket → Option (ℕ × ℕ)
lax_ipv6_numbers None = None
lax_ipv6_numbers (Some packet) = lax_net_ipv6_numbers packet.net

-- the addresses that a packet comes from and goes to, by its headers; of one that is refused by those
-- that are there
abbrev pub ipv4_numbers : Result SlicedPacket SliceError → Option LaxSlicedPacket → Option (ℕ × ℕ)
ipv4_numbers (Ok packet) lax_layers = net_ipv4_numbers packet.net
ipv4_numbers (Err e) lax_layers = lax_ipv4_numbers lax_layers

abbrev pub ipv6_numbers : Result SlicedPacket SliceError → Option LaxSlicedPacket → Option (ℕ × ℕ)
ipv6_numbers (Ok packet) lax_layers = net_ipv6_numbers packet.net
ipv6_numbers (Err e) lax_layers = lax_ipv6_numbers lax_layers

abbrev pub has_flag : TcpFlag → Option MessageHeader → Bool
has_flag flag None = false
has_flag tcp_flag.Fin (Some header) = header.fin
has_flag tcp_flag.Syn (Some header) = header.syn
has_flag tcp_flag.Rst (Some header) = header.rst

-- whether one of the VLAN tags has an identifier from the first to the last
abbrev pub lax_has_vlan_id : Option LaxSlicedPacket → (first last : ℕ) → Bool
lax_has_vlan_id None first last = false
lax_has_vlan_id (Some packet) first last =
    list_any (λ id. is_within first last id) (lax_vlan_ids_of packet.link_exts.items)

abbrev pub has_vlan_id : Result SlicedPacket SliceError → Option LaxSlicedPacket → (first last : ℕ) → Bool
has_vlan_id (Ok packet) lax_layers first last =
    list_any (λ id. is_within first last id) (vlan_ids_of packet.link_exts.items)
has_vlan_id (Err e) lax_layers first last = lax_has_vlan_id lax_layers first last

-- whether a packet comes from an address or goes to it
abbrev pub has_host : Result SlicedPacket SliceError → Option LaxSlicedPacket → IpAddr → Bool
has_host layers lax_layers (V4 address) = are_within side.Either (from_be_bytes w32 (ipv4_octets address))
    (from_be_bytes w32 (ipv4_octets address)) (ipv4_numbers layers lax_layers)
has_host layers lax_layers (V6 address) = are_within side.Either (from_be_bytes w128 (ipv6_octets address))
    (from_be_bytes w128 (ipv6_octets address)) (ipv6_numbers layers lax_layers)

-- whether the message of a packet, or the one that it completes, comes from one of these ports or goes
-- to one
abbrev pub has_port : Result SlicedPacket SliceError → Option LaxSlicedPacket → Option Fragment
    → (first last : ℕ) → Bool
has_port layers lax_layers fragment first last =
    are_within side.Either first last (ports_of (message_header layers lax_layers fragment))

abbrev pub holds : Condition → Dissection → Bool
holds (condition.Protocol protocol) packet =
    has_header (headers_of packet.link packet.layers (lax_layers_of packet.header packet.bytes)) protocol
holds condition.Bad packet = is_bad packet.verdict
holds condition.Refused packet = is_some (refusal_of packet.layers packet.fragment)
holds condition.Fragment packet = is_some packet.fragment
holds condition.Cut packet = is_cut packet.captured_len packet.wire_len
holds (condition.Host address) packet =
    has_host packet.layers (lax_layers_of packet.header packet.bytes) address
holds (condition.Ipv4 at first last) packet = are_within at first last
    (ipv4_numbers packet.layers (lax_layers_of packet.header packet.bytes))
holds (condition.Ipv6 at first last) packet = are_within at first last
    (ipv6_numbers packet.layers (lax_layers_of packet.header packet.bytes))
holds (condition.Port port) packet =
    has_port packet.layers (lax_layers_of packet.header packet.bytes) packet.fragment port port
holds (condition.Ports first last) packet =
    has_port packet.layers (lax_layers_of packet.header packet.bytes) packet.fragment first last
holds (condition.Flag flag) packet = has_flag flag
    (message_header packet.layers (lax_layers_of packet.header packet.bytes) packet.fragment)
holds condition.Ndp packet = is_ndp
    (icmpv6_type packet.layers (lax_layers_of packet.header packet.bytes) packet.fragment)
holds condition.Mld packet = is_mld
    (icmpv6_type packet.layers (lax_layers_of packet.header packet.bytes) packet.fragment)
holds (condition.VlanId first last) packet =
    has_vlan_id packet.layers (lax_layers_of packet.header packet.bytes) first last
holds (condition.WireLen first last) packet = is_within first last packet.wire_len
holds (condition.Number first last) packet = is_within first last packet.number
