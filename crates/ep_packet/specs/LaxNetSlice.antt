-- A packet of the network layer, as far as it is there: IP (RFC 791; RFC 8200) or ARP (RFC 826).
use Rattle.std.specs.Prelude.{ℕ, Bool, List, Option, Some, None}
use Rattle.ep_ipslice.specs.LaxPackets.{LaxIpv4Packet, LaxIpv6Packet}
use Rattle.ep_ipslice.specs.Packet.{IpPayload}
use Rattle.ep_ipslice.specs.declared.net.lax_ip_slice.LaxIpSlice.{LaxIpSlice}
use Rattle.ep_ipslice.specs.declared.net.lax_ip_slice.LaxIpSlice.TheVariants as ip
use Rattle.ep_packet.specs.declared.net.lax_net_slice.LaxNetSlice.{LaxNetSlice}
use Rattle.ep_packet.specs.declared.net.lax_net_slice.LaxNetSlice.TheVariants.{Ipv4, Ipv6, Arp}

-- the packet of one kind, where it is one
abbrev pub lax_ipv4_in : LaxNetSlice → Option LaxIpv4Packet
lax_ipv4_in (Ipv4 packet) = Some packet
lax_ipv4_in (Ipv6 packet) = None
lax_ipv4_in (Arp packet) = None

abbrev pub lax_ipv6_in : LaxNetSlice → Option LaxIpv6Packet
lax_ipv6_in (Ipv4 packet) = None
lax_ipv6_in (Ipv6 packet) = Some packet
lax_ipv6_in (Arp packet) = None

abbrev pub lax_arp_in : LaxNetSlice → Option (List ℕ)
lax_arp_in (Ipv4 packet) = None
lax_arp_in (Ipv6 packet) = None
lax_arp_in (Arp packet) = Some packet

-- of an IP packet, whether bytes are missing, and the payload
abbrev pub lax_ip_payload_in : LaxNetSlice → Option (Bool × IpPayload)
lax_ip_payload_in (Ipv4 packet) = Some (packet.incomplete, packet.payload)
lax_ip_payload_in (Ipv6 packet) = Some (packet.incomplete, packet.payload)
lax_ip_payload_in (Arp packet) = None

abbrev pub lax_ip_payload_of : Option LaxNetSlice → Option (Bool × IpPayload)
lax_ip_payload_of None = None
lax_ip_payload_of (Some packet) = lax_ip_payload_in packet

-- an IP packet, as one of the layer
abbrev pub of_lax_ip : LaxIpSlice → LaxNetSlice
of_lax_ip (ip.Ipv4 packet) = Ipv4 packet
of_lax_ip (ip.Ipv6 packet) = Ipv6 packet
