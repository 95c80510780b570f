-- What every receiver tests of a message that was built: the sum of all that its checksum covers.
use Rattle.std.specs.Prelude.{◌≡◌, ℕ, ◌+◌, List, [], ◌++◌, length, IsTrue, None}
use Rattle.ep_base.specs.Sum.{all_ones}
use Rattle.ep_ip.specs.Pseudo.{pseudo_v4, pseudo_v6}
use Rattle.ep_packet.specs.Transport.{transport_len, transport_encoding}
use Rattle.ep_packet.specs.declared.net.ip_headers.IpHeaders.{IpHeaders}
use Rattle.ep_packet.specs.declared.net.ip_headers.IpHeaders.TheVariants.{Ipv4, Ipv6}
use Rattle.ep_packet.specs.declared.transport.transport_header.TransportHeader.{TransportHeader}
use Rattle.ep_packet.specs.declared.transport.transport_header.TransportHeader.TheVariants.{Udp, Tcp, Icmpv4, Icmpv6}
use Rattle.ep_tcpudp.specs.TcpOptions.{IsTcpOptions}
use Rattle.etherparse.specs.Built.{seal_refusal, with_message_checksum}

-- the pseudo header of a message of this number and length (RFC 768; RFC 9293; RFC 8200, section
-- 8.1)
abbrev pub pseudo_between : IpHeaders → (number len : ℕ) → List ℕ
pseudo_between (Ipv4 h e) number len = pseudo_v4 h.source h.destination number len
pseudo_between (Ipv6 h e) number len = pseudo_v6 h.source h.destination number len

-- what a checksum covers before the message: of ICMP over IPv4 nothing (RFC 792)
abbrev pub covered_before : IpHeaders → TransportHeader → (len : ℕ) → List ℕ
covered_before ip (Udp h) len = pseudo_between ip 17 len
covered_before ip (Tcp h) len = pseudo_between ip 6 len
covered_before ip (Icmpv4 h) len = []
covered_before ip (Icmpv6 h) len = pseudo_between ip 58 len

-- all that the checksum of a message covers
abbrev pub checksum_text : IpHeaders → TransportHeader → (payload : List ℕ) → List ℕ
checksum_text ip transport payload =
    covered_before ip transport (transport_len transport + length payload)
    ++ transport_encoding transport ++ payload

-- addresses have the lengths of their version
abbrev pub HasAddresses : IpHeaders → Type 0
HasAddresses (Ipv4 h e) = (length h.source ≡ 4) × (length h.destination ≡ 4)
HasAddresses (Ipv6 h e) = (length h.source ≡ 16) × (length h.destination ≡ 16)

-- a TCP header's options are whole words
abbrev pub HasWholeOptions : TransportHeader → Type 0
HasWholeOptions (Udp h) = Unit {0}
HasWholeOptions (Tcp h) = IsTcpOptions h.options
HasWholeOptions (Icmpv4 h) = Unit {0}
HasWholeOptions (Icmpv6 h) = Unit {0}

-- a message whose header is sealed sums to all ones
abbrev pub SumsToAllOnes : IpHeaders → TransportHeader → (payload : List ℕ) → Type 0
SumsToAllOnes ip transport payload =
    seal_refusal ip transport ≡ None
    → IsTrue (all_ones (checksum_text ip (with_message_checksum ip payload transport) payload))
