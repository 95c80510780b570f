-- Headers and packets of the network layer that a test of equality finds equal.
use Rattle.std.proofs.Common.{ap}
use Rattle.ep_base.specs.Traits.{EqualIsSame}
use Rattle.ep_base.proofs.Same.{one_part, two_parts}
use Rattle.ep_ext.specs.contracts.net.ipv4_extensions.Ipv4ExtensionsPartialEq.TheImpl as exts4
use Rattle.ep_ext.specs.contracts.net.ipv6_extensions.Ipv6ExtensionsPartialEq.TheImpl as exts6
use Rattle.ep_ip.specs.contracts.net.ipv4_header.Ipv4HeaderPartialEq.TheImpl as header4
use Rattle.ep_ip.specs.contracts.net.ipv6_header.Ipv6HeaderPartialEq.TheImpl as header6
use Rattle.ep_ipslice.specs.contracts.net.ipv4_slice.Ipv4SlicePartialEq.TheImpl as packet4
use Rattle.ep_ipslice.specs.contracts.net.ipv6_slice.Ipv6SlicePartialEq.TheImpl as packet6
use Rattle.ep_ipslice.specs.contracts.net.lax_ipv4_slice.LaxIpv4SlicePartialEq.TheImpl as lax4
use Rattle.ep_ipslice.specs.contracts.net.lax_ipv6_slice.LaxIpv6SlicePartialEq.TheImpl as lax6
use Rattle.ep_link.specs.contracts.link.arp_packet.ArpPacketPartialEq.TheImpl as arp
use Rattle.ep_link.specs.contracts.link.arp_packet_slice.ArpPacketSlicePartialEq.TheImpl as arp_slice
use Rattle.ep_packet.specs.contracts.net.ip_headers.IpHeadersPartialEq.TheImpl as headers
use Rattle.ep_packet.specs.contracts.net.lax_net_slice.LaxNetSlicePartialEq.TheImpl as lax_slices
use Rattle.ep_packet.specs.contracts.net.net_headers.NetHeadersPartialEq.TheImpl as nets
use Rattle.ep_packet.specs.contracts.net.net_slice.NetSlicePartialEq.TheImpl as slices
use Rattle.ep_packet.specs.declared.net.ip_headers.IpHeaders.TheVariants as ip
use Rattle.ep_packet.specs.declared.net.lax_net_slice.LaxNetSlice.TheVariants as lax_slice
use Rattle.ep_packet.specs.declared.net.net_headers.NetHeaders.TheVariants as net
use Rattle.ep_packet.specs.declared.net.net_slice.NetSlice.TheVariants as slice

-- headers of the base header and of the extension headers
abbrev SameParts : Type 0
SameParts = EqualIsSame header4.ghosts.eq × EqualIsSame exts4.ghosts.eq
    × EqualIsSame header6.ghosts.eq × EqualIsSame exts6.ghosts.eq

pub same_ip : SameParts → EqualIsSame headers.ghosts.eq
same_ip same (ip.Ipv4 h e) (ip.Ipv4 k f) =
    two_parts (same.0 h k) (same.1 e f) (λ x y i. ip.Ipv4 (x i) (y i)) (λ is. (cc, cc))
same_ip same (ip.Ipv6 h e) (ip.Ipv6 k f) =
    two_parts (same.2 h k) (same.3 e f) (λ x y i. ip.Ipv6 (x i) (y i)) (λ is. (cc, cc))
same_ip same a b = (λ is. cc, λ is. cc)

pub same_net : SameParts → EqualIsSame arp.ghosts.eq → EqualIsSame nets.ghosts.eq
same_net same arps (net.Ipv4 h e) (net.Ipv4 k f) =
    two_parts (same.0 h k) (same.1 e f) (λ x y i. net.Ipv4 (x i) (y i)) (λ is. (cc, cc))
same_net same arps (net.Ipv6 h e) (net.Ipv6 k f) =
    two_parts (same.2 h k) (same.3 e f) (λ x y i. net.Ipv6 (x i) (y i)) (λ is. (cc, cc))
same_net same arps (net.Arp p) (net.Arp q) = one_part (arps p q) (ap net.Arp) (λ is. cc)
same_net same arps a b = (λ is. cc, λ is. cc)

pub same_slices : EqualIsSame packet4.ghosts.eq → EqualIsSame packet6.ghosts.eq
    → EqualIsSame arp_slice.ghosts.eq → EqualIsSame slices.ghosts.eq
same_slices four six arps (slice.Ipv4 p) (slice.Ipv4 q) =
    one_part (four p q) (ap slice.Ipv4) (λ is. cc)
same_slices four six arps (slice.Ipv6 p) (slice.Ipv6 q) =
    one_part (six p q) (ap slice.Ipv6) (λ is. cc)
same_slices four six arps (slice.Arp p) (slice.Arp q) =
    one_part (arps p q) (ap slice.Arp) (λ is. cc)
same_slices four six arps a b = (λ is. cc, λ is. cc)

pub same_lax_slices : EqualIsSame lax4.ghosts.eq → EqualIsSame lax6.ghosts.eq
    → EqualIsSame arp_slice.ghosts.eq → EqualIsSame lax_slices.ghosts.eq
same_lax_slices four six arps (lax_slice.Ipv4 p) (lax_slice.Ipv4 q) =
    one_part (four p q) (ap lax_slice.Ipv4) (λ is. cc)
same_lax_slices four six arps (lax_slice.Ipv6 p) (lax_slice.Ipv6 q) =
    one_part (six p q) (ap lax_slice.Ipv6) (λ is. cc)
same_lax_slices four six arps (lax_slice.Arp p) (lax_slice.Arp q) =
    one_part (arps p q) (ap lax_slice.Arp) (λ is. cc)
same_lax_slices four six arps a b = (λ is. cc, λ is. cc)
