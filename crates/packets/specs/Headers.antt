-- Which headers a packet has.
use Rattle.std.specs.Prelude.{ℕ, ◌==◌, Bool, true, false, Option, Some, None}
use Rattle.ep_base.specs.declared.net.ip_number.IpNumber.{IpNumber}
use Rattle.ep_packet.specs.declared.addresses.Addresses.{Addresses}
use Rattle.ep_packet.specs.declared.addresses.Addresses.TheVariants.{V4, V6}
use Rattle.header_descriptions.specs.declared.protocol.Protocol.{Protocol}
use Rattle.header_descriptions.specs.declared.protocol.Protocol.TheVariants as protocol
use Rattle.packets.specs.declared.outline.Headers.{Headers}
use Rattle.packets.specs.declared.outline.Net.{Net}
use Rattle.packets.specs.declared.outline.Net.TheVariants as net

abbrev pub is_arp : Option Net → Bool
is_arp None = false
is_arp (Some net.Arp) = true
is_arp (Some (net.Ip addresses number)) = false

abbrev pub is_v4 : Addresses → Bool
is_v4 (V4 source destination) = true
is_v4 (V6 source destination) = false

abbrev pub is_v6 : Addresses → Bool
is_v6 (V4 source destination) = false
is_v6 (V6 source destination) = true

abbrev pub is_ipv4 : Option Net → Bool
is_ipv4 None = false
is_ipv4 (Some net.Arp) = false
is_ipv4 (Some (net.Ip addresses number)) = is_v4 addresses

abbrev pub is_ipv6 : Option Net → Bool
is_ipv6 None = false
is_ipv6 (Some net.Arp) = false
is_ipv6 (Some (net.Ip addresses number)) = is_v6 addresses

-- the protocol that an IP packet carries
abbrev pub net_number : Option Net → Option IpNumber
net_number None = None
net_number (Some net.Arp) = None
net_number (Some (net.Ip addresses number)) = Some number

abbrev pub is_number : ℕ → Option IpNumber → Bool
is_number n None = false
is_number n (Some number) = number.0 == n

-- whether it is an IP packet that carries the protocol with this number
abbrev pub carries : Option Net → ℕ → Bool
carries header n = is_number n (net_number header)

abbrev pub has_header : Headers → Protocol → Bool
has_header headers protocol.Ethernet = headers.ethernet
has_header headers protocol.Vlan = headers.vlan
has_header headers protocol.Macsec = headers.macsec
has_header headers protocol.Arp = is_arp headers.net
has_header headers protocol.Ipv4 = is_ipv4 headers.net
has_header headers protocol.Ipv6 = is_ipv6 headers.net
has_header headers (protocol.OverIp number) = carries headers.net number.0

-- the addresses of an IP packet
abbrev pub net_addresses : Option Net → Option Addresses
net_addresses None = None
net_addresses (Some net.Arp) = None
net_addresses (Some (net.Ip addresses number)) = Some addresses
