-- Messages with the length and the checksum that belong to them (RFC 768; RFC 792; RFC 4443,
-- section 2.3; RFC 9293, section 3.1; RFC 8200, section 8.1).
use Rattle.std.specs.Prelude.{◌≡◌, ℕ, ⊤, ◌+◌, ◌≤◌, nat_lt, Bool, true, false, List, [], ◌∷◌, ◌++◌, length, Option}
use Rattle.etherparse.specs.base.Refusals.{first_refusal}
use Rattle.etherparse.specs.Built.{number_of}
use Rattle.etherparse.specs.icmp.Icmpv4 as icmpv4_spec
use Rattle.etherparse.specs.icmp.Icmpv6 as icmpv6_spec
use Rattle.etherparse.specs.icmp.declared.transport.icmpv6_type.Icmpv6Type.{Icmpv6Type}
use Rattle.etherparse.specs.packet.Transport.{transport_len, transport_encoding}
use Rattle.etherparse.specs.packet.declared.transport.transport_header.TransportHeader.{TransportHeader}
use Rattle.etherparse.specs.packet.declared.transport.transport_header.TransportHeader.TheVariants.{Udp, Tcp, Icmpv4}
use Rattle.etherparse.specs.packet.declared.transport.transport_header.TransportHeader.TheVariants.{Icmpv6}
use Rattle.etherparse.specs.tcpudp.Tcp.{header_len}
use Rattle.etherparse.specs.tcpudp.TcpChecksum as tcp_checksum
use Rattle.etherparse.specs.tcpudp.TcpOptions.{IsTcpOptions}
use Rattle.etherparse.specs.tcpudp.UdpChecksum as udp_checksum
use Rattle.etherparse.specs.packet.Readable.{tcp, udp}
use Rattle.checksum_verdicts.specs.Verdict.{pseudo}
use Rattle.etherparse.specs.packet.declared.addresses.Addresses.{Addresses}
use Rattle.etherparse.specs.packet.declared.addresses.Addresses.TheVariants.{V4, V6}
use Rattle.etherparse.specs.declared.defrag.ip_frag_version_spec_id.IpFragVersionSpecId.{IpFragVersionSpecId}
use Rattle.etherparse.specs.declared.defrag.ip_frag_version_spec_id.IpFragVersionSpecId.TheVariants.{Ipv4, Ipv6}
use Rattle.etherparse.specs.packet.declared.net.ip_headers.IpHeaders.{IpHeaders}
use Rattle.etherparse.specs.packet.declared.net.ip_headers.IpHeaders.TheVariants as packet
use Rattle.netlines.specs.declared.seal_error.SealError.{SealError}
use Rattle.netlines.specs.declared.seal_error.SealError.TheVariants.{IcmpOfOtherVersion, TooLong}

-- addresses of the length of their version
abbrev pub AddressesFit : Addresses → Type 0
AddressesFit (V4 source destination) = (length source ≡ 4) × (length destination ≡ 4)
AddressesFit (V6 source destination) = (length source ≡ 16) × (length destination ≡ 16)

-- the addresses between which messages with this identification go
abbrev pub addresses_of : IpFragVersionSpecId → Addresses
addresses_of (Ipv4 source destination identification) = V4 source destination
addresses_of (Ipv6 source destination identification) = V6 source destination

-- the addresses and the identification of packets with these headers. (An IPv6 header has no
-- identification: it is 0 here.)
abbrev pub version_id_of : IpHeaders → IpFragVersionSpecId
version_id_of (packet.Ipv4 h e) = Ipv4 h.source h.destination h.identification
version_id_of (packet.Ipv6 h e) = Ipv6 h.source h.destination 0

-- a header of a length that its type allows: options of TCP that fit, and 8 bytes of ICMPv6
abbrev pub HeaderFits : TransportHeader → Type 0
HeaderFits (Udp h) = ⊤
HeaderFits (Tcp h) = IsTcpOptions h.options
HeaderFits (Icmpv4 h) = ⊤
HeaderFits (Icmpv6 h) = length (icmpv6_spec.encoding h) ≡ 8

-- the header with the checksum that belongs to this payload between these addresses, and of UDP
-- with the length. ICMPv6 has no checksum over IPv4.
abbrev pub sealed_icmpv6 : Addresses → TransportHeader → Icmpv6Type → List ℕ → TransportHeader
sealed_icmpv6 (V4 source destination) header kind payload = header
sealed_icmpv6 (V6 source destination) header kind payload =
    Icmpv6 (icmpv6_spec.icmpv6_with_checksum source destination kind payload)

abbrev pub sealed_header : Addresses → TransportHeader → List ℕ → TransportHeader
sealed_header addresses (Udp h) payload =
    let header = record h { length = 8 + length payload } in
    Udp (record header {
      checksum = udp_checksum.right_checksum (pseudo addresses udp (8 + length payload)) header
          payload;
    })
sealed_header addresses (Tcp h) payload =
    Tcp (record h {
      checksum = tcp_checksum.right_checksum (pseudo addresses tcp (header_len h + length payload))
          h payload;
    })
sealed_header addresses (Icmpv4 h) payload = Icmpv4 (icmpv4_spec.icmpv4_with_checksum h.icmp_type
    payload)
sealed_header addresses (Icmpv6 h) payload = sealed_icmpv6 addresses (Icmpv6 h) h.icmp_type payload

-- the message's bytes
abbrev pub sealed_message_bytes : IpFragVersionSpecId → TransportHeader → List ℕ → List ℕ
sealed_message_bytes version_id header payload = transport_encoding
    (sealed_header (addresses_of version_id) header payload) ++ payload

-- ICMP over the version that it isn't made for
abbrev pub is_icmp_of_other_version : IpFragVersionSpecId → TransportHeader → Bool
is_icmp_of_other_version (Ipv4 source destination identification) (Icmpv6 h) = true
is_icmp_of_other_version (Ipv6 source destination identification) (Icmpv4 h) = true
is_icmp_of_other_version version_id header = false

-- there is such a message: between addresses of their length, ICMP over its own version, and UDP of
-- a length that fits 16 bits
pub record IsSealable (version_id : IpFragVersionSpecId) (header : TransportHeader)
    (payload : List ℕ) : Type 0 where
  pub addresses : AddressesFit (addresses_of version_id)
  pub fits : HeaderFits header
  pub version : is_icmp_of_other_version version_id header ≡ false
  pub reported : number_of header ≡ udp → 8 + length payload ≤ 65535

-- the first refusal, out of memory aside
abbrev pub seal_refusal : IpFragVersionSpecId → TransportHeader → List ℕ → Option SealError
seal_refusal version_id header payload = first_refusal (
    (is_icmp_of_other_version version_id header, IcmpOfOtherVersion)
    ∷ (nat_lt 65535 (transport_len header + length payload), TooLong) ∷ [])
