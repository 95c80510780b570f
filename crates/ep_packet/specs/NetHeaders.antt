-- The headers of the network layer: IP (RFC 791; RFC 8200) or ARP (RFC 826).
use Rattle.std.specs.Prelude.{◌≡◌, ℕ, ◌||◌, Bool, true, false, Option, Some, None, Result, Ok, Err}
use Rattle.ep_base.specs.declared.link.ether_type.EtherType.{EtherType}
use Rattle.ep_ext.specs.declared.net.ipv4_extensions.Ipv4Extensions.{Ipv4Extensions}
use Rattle.ep_ext.specs.declared.net.ipv6_extensions.Ipv6Extensions.{Ipv6Extensions}
use Rattle.ep_ip.specs.declared.net.ipv4_header.Ipv4Header.{Ipv4Header}
use Rattle.ep_ip.specs.declared.net.ipv6_header.Ipv6Header.{Ipv6Header}
use Rattle.ep_link.specs.Arp.{ArpFields, packet_len_in}
use Rattle.ep_packet.specs.IpHeaders.{IsLinked, ether_type_of, ip_headers_len}
use Rattle.ep_packet.specs.declared.err.net.net_set_next_header_error.NetSetNextHeaderError.{NetSetNextHeaderError}
use Rattle.ep_packet.specs.declared.err.net.net_set_next_header_error.NetSetNextHeaderError.TheVariants.{ArpHeader}
use Rattle.ep_packet.specs.declared.net.ip_headers.IpHeaders.{IpHeaders}
use Rattle.ep_packet.specs.declared.net.ip_headers.IpHeaders.TheVariants as ip
use Rattle.ep_packet.specs.declared.net.net_headers.NetHeaders.{NetHeaders}
use Rattle.ep_packet.specs.declared.net.net_headers.NetHeaders.TheVariants.{Ipv4, Ipv6, Arp}

abbrev pub is_ipv4 : NetHeaders → Bool
is_ipv4 (Ipv4 h e) = true
is_ipv4 (Ipv6 h e) = false
is_ipv4 (Arp packet) = false

abbrev pub is_ipv6 : NetHeaders → Bool
is_ipv6 (Ipv4 h e) = false
is_ipv6 (Ipv6 h e) = true
is_ipv6 (Arp packet) = false

abbrev pub is_arp : NetHeaders → Bool
is_arp (Ipv4 h e) = false
is_arp (Ipv6 h e) = false
is_arp (Arp packet) = true

abbrev pub is_ip : NetHeaders → Bool
is_ip headers = is_ipv4 headers || is_ipv6 headers

-- the headers, if they are of this kind
abbrev pub ipv4_in : NetHeaders → Option (Ipv4Header × Ipv4Extensions)
ipv4_in (Ipv4 h e) = Some (h, e)
ipv4_in (Ipv6 h e) = None
ipv4_in (Arp packet) = None

abbrev pub ipv6_in : NetHeaders → Option (Ipv6Header × Ipv6Extensions)
ipv6_in (Ipv4 h e) = None
ipv6_in (Ipv6 h e) = Some (h, e)
ipv6_in (Arp packet) = None

abbrev pub arp_in : NetHeaders → Option ArpFields
arp_in (Ipv4 h e) = None
arp_in (Ipv6 h e) = None
arp_in (Arp packet) = Some packet

-- the headers of an IP packet, as those of the layer
abbrev pub of_ip : IpHeaders → NetHeaders
of_ip (ip.Ipv4 h e) = Ipv4 h e
of_ip (ip.Ipv6 h e) = Ipv6 h e

-- the length of all headers, of ARP that of the packet
abbrev pub net_headers_len : NetHeaders → ℕ
net_headers_len (Ipv4 h e) = ip_headers_len (ip.Ipv4 h e)
net_headers_len (Ipv6 h e) = ip_headers_len (ip.Ipv6 h e)
net_headers_len (Arp packet) = packet_len_in packet

-- the headers of an IP packet name one another, and the last one this number; ARP has none that
-- could
abbrev pub IsIpLinked : IpHeaders → (last : ℕ) → NetHeaders
    → Result EtherType NetSetNextHeaderError → Type 0
IsIpLinked old last new result = (linked : IpHeaders) × IsLinked old last linked
    × (new ≡ of_ip linked) × (result ≡ Ok (record { 0 = ether_type_of old }))

abbrev pub IsNetLinked : NetHeaders → (last : ℕ) → NetHeaders
    → Result EtherType NetSetNextHeaderError → Type 0
IsNetLinked (Ipv4 h e) last new result = IsIpLinked (ip.Ipv4 h e) last new result
IsNetLinked (Ipv6 h e) last new result = IsIpLinked (ip.Ipv6 h e) last new result
IsNetLinked (Arp packet) last new result = (new ≡ Arp packet) × (result ≡ Err ArpHeader)
