-- The final destination of a packet, which the pseudo header of its message has (RFC 8200, section
-- 8.1; RFC 1122, section 3.2.1.8): that of the IP header, or the last address of a source route that
-- isn't used up.
use Rattle.std.specs.Prelude.{ℕ, zero, suc, ◌+◌, ◌-◌, ◌*◌, ◌/◌, ◌%◌, ◌==◌, ◌&&◌, ◌||◌, nat_lt, nat_le, Bool}
use Rattle.std.specs.Prelude.{if◌then◌else◌, List, [], ◌∷◌, length, slice_range, Option, Some, None}
use Rattle.std.specs.Option.{option_and_then, option_map}
use Rattle.ep_base.specs.Bytes.{num}
use Rattle.ep_ip.specs.Ipv4 as v4
use Rattle.ep_ip.specs.Ipv6 as v6
use Rattle.ep_ext.specs.Value.{Piece}
use Rattle.ep_ext.specs.declared.net.ipv6_ext_slot.Ipv6ExtSlot.TheVariants.{HopByHop, Destination, Routing, Fragment}
use Rattle.ep_ext.specs.declared.net.ipv6_ext_slot.Ipv6ExtSlot.TheVariants.{Authentication, FinalDestination}
use Rattle.ep_ipslice.specs.Ipv6Packet.{extensions_in}
use Rattle.ep_ipslice.specs.Packet.{Ipv6Packet}
use Rattle.ep_packet.specs.declared.addresses.Addresses.{Addresses}
use Rattle.ep_packet.specs.declared.addresses.Addresses.TheVariants.{V4, V6}
use Rattle.ep_packet.specs.declared.net.net_slice.NetSlice.{NetSlice}
use Rattle.ep_packet.specs.declared.net.net_slice.NetSlice.TheVariants as net

-- ---- IPv4: loose and strict source routes (RFC 791, section 3.1)

-- the kinds of these options
abbrev pub is_source_route : ℕ → Bool
is_source_route kind = (kind == 131) || (kind == 137)

-- the first of them among the options, from its kind on: an option of kind 0 ends the list, one of
-- kind 1 has no other byte, and the second byte of any other is its length, which counts both. So
-- many bytes at the start belong to an option before
abbrev pub route_after : ℕ → List ℕ → Option (List ℕ)
route_after skipped [] = None
route_after (suc skipped) (byte ∷ bytes) = route_after skipped bytes
route_after zero (kind ∷ bytes) =
    if kind == 0 then None else (
    if kind == 1 then route_after 0 bytes else (
    if is_source_route kind then Some (kind ∷ bytes) else (
    if nat_lt (num bytes 0 1) 2 then None else route_after (num bytes 0 1 - 1) bytes)))

-- the length of a source route, and its pointer to the next address, which counts from 1
abbrev pub route_len : List ℕ → ℕ
route_len route = num route 1 1

abbrev pub pointer_of : List ℕ → ℕ
pointer_of route = num route 2 1

-- the bytes that the length counts are there, and the first three among them
abbrev pub is_whole_route : List ℕ → Bool
is_whole_route route = nat_le 3 (route_len route) && nat_le (route_len route) (length route)

-- the pointer points to one of a row of whole addresses
abbrev pub points_to_address : List ℕ → Bool
points_to_address route = (route_len route % 4 == 3) && (pointer_of route % 4 == 0)
    && nat_le 4 (pointer_of route)

-- the last address of a source route, unless the pointer is past its end; none is known of a route
-- that breaks the format
abbrev pub end_of_route : (destination route : List ℕ) → Option (List ℕ)
end_of_route destination route =
    if is_whole_route route then (
    if nat_lt (route_len route) (pointer_of route) then Some destination else (
    if points_to_address route
    then Some (slice_range route (route_len route - 4) (route_len route)) else None)) else None

abbrev pub end_of_any : List ℕ → Option (List ℕ) → Option (List ℕ)
end_of_any destination None = Some destination
end_of_any destination (Some route) = end_of_route destination route

-- the final destination of a packet with this header, if it is known
abbrev pub ipv4_final : List ℕ → Option (List ℕ)
ipv4_final header = end_of_any (v4.destination_of header) (route_after 0 (v4.options_of header))

-- ---- IPv6: routing headers (RFC 8200, section 4.4)

-- the length in units of 8 bytes without the first, the type, and the number of segments that are
-- left
abbrev pub units_of : List ℕ → ℕ
units_of header = num header 1 1

abbrev pub routing_type_of : List ℕ → ℕ
routing_type_of header = num header 2 1

abbrev pub segments_left_of : List ℕ → ℕ
segments_left_of header = num header 3 1

-- type 0 (RFC 2460, section 4.4): addresses of two units each, the final destination as the last
abbrev pub is_type_0 : List ℕ → Bool
is_type_0 header = (units_of header % 2 == 0)
    && nat_le (segments_left_of header) (units_of header / 2)

-- type 2 (RFC 6275, section 6.4): one address
abbrev pub is_type_2 : List ℕ → Bool
is_type_2 header = (units_of header == 2) && (segments_left_of header == 1)

-- type 4 (RFC 8754, section 2): the index of the last of its addresses, of which the first is the
-- final destination. Without the one that is passed first, as many as that index are left and one
-- more (section 4.1.1)
abbrev pub last_entry_of : List ℕ → ℕ
last_entry_of header = num header 4 1

abbrev pub is_type_4 : List ℕ → Bool
is_type_4 header = nat_le (2 * (last_entry_of header + 1)) (units_of header)
    && nat_le (segments_left_of header) (last_entry_of header + 1)

-- the address at an offset, if the header has the format
abbrev pub address_if : Bool → List ℕ → ℕ → Option (List ℕ)
address_if is_formed header offset =
    if is_formed then Some (slice_range header offset (offset + 16)) else None

-- the final destination after a routing header, if it is known: that before it, where no segments
-- are left
abbrev pub end_of_routing : (destination header : List ℕ) → Option (List ℕ)
end_of_routing destination header =
    if segments_left_of header == 0 then Some destination else (
    if routing_type_of header == 0
    then address_if (is_type_0 header) header (8 * units_of header - 8) else (
    if routing_type_of header == 2 then address_if (is_type_2 header) header 8 else (
    if routing_type_of header == 4 then address_if (is_type_4 header) header 8 else None)))

abbrev pub end_of_extension : List ℕ → Piece → Option (List ℕ)
end_of_extension destination (HopByHop, header) = Some destination
end_of_extension destination (Destination, header) = Some destination
end_of_extension destination (Routing, header) = end_of_routing destination header
end_of_extension destination (Fragment, header) = Some destination
end_of_extension destination (Authentication, header) = Some destination
end_of_extension destination (FinalDestination, header) = Some destination

-- after extension headers, one after the other
abbrev pub end_of_extensions : List ℕ → List Piece → Option (List ℕ)
end_of_extensions destination [] = Some destination
end_of_extensions destination (piece ∷ pieces) =
    option_and_then (λ (d : List ℕ). end_of_extensions d pieces)
    (end_of_extension destination piece)

-- the final destination of a packet, if it is known
abbrev pub ipv6_final : Ipv6Packet → Option (List ℕ)
ipv6_final packet = end_of_extensions (v6.destination_of packet.header) (extensions_in packet)

-- ---- both

-- the source of an IP packet and its final destination, if that is known
abbrev pub summed_addresses : Option NetSlice → Option Addresses
summed_addresses None = None
summed_addresses (Some (net.Ipv4 packet)) =
    option_map (λ (d : List ℕ). V4 (v4.source_of packet.header) d) (ipv4_final packet.header)
summed_addresses (Some (net.Ipv6 packet)) =
    option_map (λ (d : List ℕ). V6 (v6.source_of packet.header) d) (ipv6_final packet)
summed_addresses (Some (net.Arp packet)) = None
