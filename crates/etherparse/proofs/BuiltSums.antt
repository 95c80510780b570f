-- A sealed message sums to all ones, by the laws of each protocol.
use Rattle.std.proofs.Common.{◌≡◌, ℕ, ◌+◌, ◌%◌, IsTrue, List, ◌++◌, length, length-append, Option, Some, None, arith}
use Rattle.ep_base.specs.Sum.{all_ones}
use Rattle.ep_icmp.specs.Icmpv4 as icmpv4
use Rattle.ep_icmp.specs.Icmpv6 as icmpv6
use Rattle.ep_icmp.specs.declared.transport.icmpv4_type.Icmpv4Type.{Icmpv4Type}
use Rattle.ep_icmp.specs.declared.transport.icmpv6_type.Icmpv6Type.{Icmpv6Type}
use Rattle.ep_ip.specs.Pseudo.{pseudo_v4, pseudo_v6}
use Rattle.ep_packet.specs.declared.net.ip_headers.IpHeaders.{IpHeaders}
use Rattle.ep_packet.specs.declared.net.ip_headers.IpHeaders.TheVariants.{Ipv4, Ipv6}
use Rattle.ep_packet.specs.declared.transport.transport_header.TransportHeader.{TransportHeader}
use Rattle.ep_packet.specs.declared.transport.transport_header.TransportHeader.TheVariants.{Udp, Tcp, Icmpv4, Icmpv6}
use Rattle.ep_tcpudp.specs.TcpChecksum.{SealedTcpSumsToAllOnes}
use Rattle.ep_tcpudp.specs.UdpChecksum.{SealedUdpSumsToAllOnes}
use Rattle.etherparse.specs.BuiltLaws.{HasAddresses, HasWholeOptions, SumsToAllOnes, pseudo_between}

even_v4 : (source destination : List ℕ) (number len : ℕ) → length source ≡ 4
    → length destination ≡ 4
    → length (pseudo_v4 source destination number len) % 2 ≡ 0
even_v4 source destination number len s d = grind (arith, length-append)

even_v6 : (source destination : List ℕ) (number len : ℕ) → length source ≡ 16
    → length destination ≡ 16
    → length (pseudo_v6 source destination number len) % 2 ≡ 0
even_v6 source destination number len s d = grind (arith, length-append)

even_pseudo : (ip : IpHeaders) (number len : ℕ) → HasAddresses ip
    → length (pseudo_between ip number len) % 2 ≡ 0
even_pseudo ip number len addresses = grind (arith, even_v4, even_v6)

abbrev pub Icmpv4Law : Type 0
Icmpv4Law = (kind : Icmpv4Type) (payload : List ℕ)
    → IsTrue (all_ones (icmpv4.encoding (icmpv4.icmpv4_with_checksum kind payload) ++ payload))

abbrev pub Icmpv6Law : Type 0
Icmpv6Law = (kind : Icmpv6Type) (source destination payload : List ℕ) → length source ≡ 16
    → length destination ≡ 16
    → IsTrue (all_ones (icmpv6.pseudo source destination (8 + length payload)
    ++ icmpv6.encoding (icmpv6.icmpv6_with_checksum source destination kind payload) ++ payload))

pub sums_to_all_ones : (udp : SealedUdpSumsToAllOnes) (tcp : SealedTcpSumsToAllOnes)
    (v4 : Icmpv4Law) (v6 : Icmpv6Law)
    (ip : IpHeaders) (transport : TransportHeader) (payload : List ℕ) → HasAddresses ip
    → HasWholeOptions transport
    → SumsToAllOnes ip transport payload
sums_to_all_ones udp tcp v4 v6 (Ipv4 h e) (Udp t) payload addresses options _ =
    udp (pseudo_v4 h.source h.destination 17 (8 + length payload)) payload
    (record t { length = 8 + length payload })
    (even_pseudo (Ipv4 h e) 17 (8 + length payload) addresses)
sums_to_all_ones udp tcp v4 v6 (Ipv6 h e) (Udp t) payload addresses options _ =
    udp (pseudo_v6 h.source h.destination 17 (8 + length payload)) payload
    (record t { length = 8 + length payload })
    (even_pseudo (Ipv6 h e) 17 (8 + length payload) addresses)
sums_to_all_ones udp tcp v4 v6 (Ipv4 h e) (Tcp t) payload addresses options _ =
    tcp _ payload t (even_pseudo (Ipv4 h e) 6 _ addresses) options
sums_to_all_ones udp tcp v4 v6 (Ipv6 h e) (Tcp t) payload addresses options _ =
    tcp _ payload t (even_pseudo (Ipv6 h e) 6 _ addresses) options
sums_to_all_ones udp tcp v4 v6 (Ipv4 h e) (Icmpv4 t) payload addresses options _ =
    v4 t.icmp_type payload
sums_to_all_ones udp tcp v4 v6 (Ipv6 h e) (Icmpv4 t) payload addresses options _ =
    v4 t.icmp_type payload
sums_to_all_ones udp tcp v4 v6 (Ipv4 h e) (Icmpv6 t) payload addresses options allowed =
    absurd (some_none _ allowed)
  where
    some_none : {A : Type 0} (x : A) → ◌≡◌ {A = Option A} (Some x) None → ⊥
    some_none x h = cc
sums_to_all_ones udp tcp v4 v6 (Ipv6 h e) (Icmpv6 t) payload addresses options _ =
    v6 t.icmp_type h.source h.destination payload addresses.0 addresses.1
