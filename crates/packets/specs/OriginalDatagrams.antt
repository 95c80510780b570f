-- The datagram that an ICMP error is about (RFC 792; RFC 4443, section 2.4), which RFC 4884, section 4,
-- names the original datagram.
use Rattle.std.specs.Prelude.{ℕ, ◌==◌, ◌||◌, ◌&&◌, not, nat_le, if◌then◌else◌, Bool, List, drop, length}
use Rattle.std.specs.Prelude.{Option, Some, None}
use Rattle.std.specs.Option.{option_and_then}
use Rattle.ep_base.specs.Bytes.{num}
use Rattle.ep_ipslice.specs.Packet.{IpPayload}
use Rattle.ep_packet.specs.LaxNetSlice.{lax_ip_payload_of}
use Rattle.ep_packet.specs.LaxSliced.{lax_sliced_ip}
use Rattle.ep_packet.specs.declared.lax_sliced_packet.LaxSlicedPacket.{LaxSlicedPacket}
use Rattle.ep_packet.specs.declared.net.lax_net_slice.LaxNetSlice.{LaxNetSlice}
use Rattle.packets.specs.LaxLayers.{if_read}
use Rattle.packets.specs.declared.show.endpoints.Ports.{Ports}

-- the types of errors over IPv4 (RFC 792): destination unreachable, source quench, redirect, time
-- exceeded and parameter problem
abbrev pub is_icmpv4_error : ℕ → Bool
is_icmpv4_error kind = (kind == 3) || (kind == 4) || (kind == 5) || (kind == 11) || (kind == 12)

-- those over IPv6 (RFC 4443, section 3): destination unreachable, packet too big, time exceeded and
-- parameter problem
abbrev pub is_icmpv6_error : ℕ → Bool
is_icmpv6_error kind = (kind == 1) || (kind == 2) || (kind == 3) || (kind == 4)

-- the headers that are there of the datagram after the 8 bytes of an ICMP header, if its IP header is.
-- It is of either IP version, over both
abbrev pub datagram_after_header : List ℕ → Option LaxSlicedPacket
datagram_after_header message = if_read (lax_sliced_ip (drop 8 message))

-- the headers that are there of the datagram that a message over IPv4 is about, if it is an error
abbrev pub original_in_icmpv4 : List ℕ → Option LaxSlicedPacket
original_in_icmpv4 message =
    if is_icmpv4_error (num message 0 1) then datagram_after_header message else None

abbrev pub original_in_icmpv6 : List ℕ → Option LaxSlicedPacket
original_in_icmpv6 message =
    if is_icmpv6_error (num message 0 1) then datagram_after_header message else None

-- the ports of TCP and UDP are the first four bytes, of which also a datagram that was cut off by its
-- error mostly has eight (RFC 792). A fragment has none
abbrev pub has_ports : IpPayload → Bool
has_ports p = ((p.ip_number.0 == 6) || (p.ip_number.0 == 17)) && not p.fragmented
    && nat_le 4 (length p.payload)

abbrev pub ports_in : IpPayload → Option Ports
ports_in p = if has_ports p
    then Some (record { source = num p.payload 0 2; destination = num p.payload 2 2 }) else None

abbrev pub ports_of : Option LaxNetSlice → Option Ports
ports_of net = option_and_then (λ payload. ports_in payload.1) (lax_ip_payload_of net)
