-- A packet of the network layer: IP (RFC 791; RFC 8200) or ARP (RFC 826).
use Rattle.std.specs.Prelude.{ℕ, ◌||◌, Bool, true, false, List, Option, Some, None}
use Rattle.ep_ipslice.specs.Packet.{IpPayload, Ipv4Packet, Ipv6Packet, ipv4_payload}
use Rattle.ep_ipslice.specs.declared.net.ip_slice.IpSlice.{IpSlice}
use Rattle.ep_ipslice.specs.declared.net.ip_slice.IpSlice.TheVariants as ip
use Rattle.ep_packet.specs.declared.net.net_slice.NetSlice.{NetSlice}
use Rattle.ep_packet.specs.declared.net.net_slice.NetSlice.TheVariants.{Ipv4, Ipv6, Arp}

abbrev pub is_ipv4 : NetSlice → Bool
is_ipv4 (Ipv4 packet) = true
is_ipv4 (Ipv6 packet) = false
is_ipv4 (Arp packet) = false

abbrev pub is_ipv6 : NetSlice → Bool
is_ipv6 (Ipv4 packet) = false
is_ipv6 (Ipv6 packet) = true
is_ipv6 (Arp packet) = false

abbrev pub is_arp : NetSlice → Bool
is_arp (Ipv4 packet) = false
is_arp (Ipv6 packet) = false
is_arp (Arp packet) = true

abbrev pub is_ip : NetSlice → Bool
is_ip packet = is_ipv4 packet || is_ipv6 packet

-- the packet of one kind, where it is one
abbrev pub ipv4_in : NetSlice → Option Ipv4Packet
ipv4_in (Ipv4 packet) = Some packet
ipv4_in (Ipv6 packet) = None
ipv4_in (Arp packet) = None

abbrev pub ipv6_in : NetSlice → Option Ipv6Packet
ipv6_in (Ipv4 packet) = None
ipv6_in (Ipv6 packet) = Some packet
ipv6_in (Arp packet) = None

abbrev pub arp_in : NetSlice → Option (List ℕ)
arp_in (Ipv4 packet) = None
arp_in (Ipv6 packet) = None
arp_in (Arp packet) = Some packet

-- the payload of an IP packet
abbrev pub ip_payload_in : NetSlice → Option IpPayload
ip_payload_in (Ipv4 packet) = Some (ipv4_payload packet)
ip_payload_in (Ipv6 packet) = Some packet.payload
ip_payload_in (Arp packet) = None

-- an IP packet, as one of the layer
abbrev pub of_ip : IpSlice → NetSlice
of_ip (ip.Ipv4 packet) = Ipv4 packet
of_ip (ip.Ipv6 packet) = Ipv6 packet
