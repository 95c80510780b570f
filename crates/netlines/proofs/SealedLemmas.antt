-- The verdict on a sealed message.
use Rattle.std.proofs.lemmas.Bool.Decides.{nat_tests}
use Rattle.std.proofs.Common.{◌≡◌, ◌↔◌, ◌∙◌, sym, ap, refl, ℕ, ◌+◌, ◌%◌, ◌<◌, ◌≤◌, ◌==◌, Bool, true, false, IsTrue}
use Rattle.std.proofs.Common.{List, ◌++◌, length, Ok, Option, Some, None, arith, append_assoc, length-append}
use Rattle.std.specs.Prelude.{nat_lt, if◌then◌else◌}
use Rattle.std.proofs.lemmas.Bool.{le-ltb, ne_eqb}
use Rattle.std.proofs.lemmas.List.{take_all}
use Rattle.std.specs.Result.{result_map_both}
use Rattle.etherparse.specs.base.Sum.{all_ones, checksum, no_zero}
use Rattle.etherparse.specs.icmp.Icmpv4 as icmpv4_spec
use Rattle.etherparse.specs.icmp.Icmpv6 as icmpv6_spec
use Rattle.etherparse.specs.icmp.declared.transport.icmpv4_type.Icmpv4Type.{Icmpv4Type}
use Rattle.etherparse.specs.icmp.declared.transport.icmpv6_type.Icmpv6Type.{Icmpv6Type}
use Rattle.etherparse.specs.packet.declared.err.packet.slice_error.SliceError.TheVariants as slice_error
use Rattle.etherparse.specs.tcpudp.Tcp as tcp_spec
use Rattle.etherparse.specs.tcpudp.TcpChecksum as tcp_checksum
use Rattle.etherparse.specs.tcpudp.TcpOptions.{IsTcpOptions}
use Rattle.etherparse.specs.tcpudp.Udp as udp_spec
use Rattle.etherparse.specs.tcpudp.UdpChecksum as udp_checksum
use Rattle.etherparse.specs.tcpudp.UdpFault.{udp_at}
use Rattle.etherparse.specs.tcpudp.declared.transport.tcp_header.TcpHeader.{TcpHeader}
use Rattle.etherparse.specs.tcpudp.declared.transport.udp_header.UdpHeader.{UdpHeader}
use Rattle.etherparse.specs.packet.Readable.{ReadMessage, message_at}
use Rattle.etherparse.proofs.FrameTags.{two_bytes}
use Rattle.netlines.proofs.ChangedWordLemmas.{by_sum}
use Rattle.netlines.proofs.ReadLemmas.{icmpv6_is, segment_is}
use Rattle.etherparse.specs.packet.Readable.ReadMessage.{Udp}
use Rattle.etherparse.specs.icmp.declared.transport.icmpv4_header.Icmpv4Header.{Icmpv4Header}
use Rattle.etherparse.specs.icmp.declared.transport.icmpv6_header.Icmpv6Header.{Icmpv6Header}
use Rattle.etherparse.specs.Built.{number_of, with_message_checksum as built_header}
use Rattle.etherparse.specs.packet.Transport.{transport_encoding}
use Rattle.etherparse.specs.packet.declared.net.ip_headers.IpHeaders.{IpHeaders}
use Rattle.etherparse.specs.packet.declared.net.ip_headers.IpHeaders.TheVariants as packet
use Rattle.etherparse.specs.declared.defrag.ip_frag_version_spec_id.IpFragVersionSpecId.{IpFragVersionSpecId}
use Rattle.netlines.specs.declared.seal_error.SealError.{SealError}
use Rattle.netlines.specs.declared.seal_error.SealError.TheVariants.{IcmpOfOtherVersion, TooLong}
use Rattle.etherparse.specs.packet.declared.transport.transport_header.TransportHeader.{TransportHeader}
use Rattle.etherparse.specs.packet.declared.transport.transport_header.TransportHeader.TheVariants as header
use Rattle.netlines.specs.Sealed.{AddressesFit, HeaderFits, IsSealable, addresses_of, seal_refusal, sealed_header}
use Rattle.netlines.specs.Sealed.{sealed_message_bytes, version_id_of}
use Rattle.checksum_verdicts.specs.Verdict.{pseudo, verdict_of}
use Rattle.etherparse.specs.packet.declared.addresses.Addresses.{Addresses}
use Rattle.etherparse.specs.packet.declared.addresses.Addresses.TheVariants.{V4, V6}
use Rattle.checksum_verdicts.specs.declared.verdict.Verdict.TheVariants as verdict

-- a text of all ones is good
good_where : (text : List ℕ) → IsTrue (all_ones text) → by_sum text ≡ verdict.Good
good_where text is = rw is refl

-- a message after its pseudo header, header and payload together
joined : (prefix header payload : List ℕ) → IsTrue (all_ones (prefix ++ header ++ payload))
    → by_sum (prefix ++ (header ++ payload)) ≡ verdict.Good
joined prefix header payload is = ap by_sum (sym (append_assoc prefix header payload))
    ∙ good_where (prefix ++ header ++ payload) is

-- a checksum where 0 means that there is none
no_zero_fits : (n : ℕ) → n ≤ 65535 → (1 ≤ no_zero n) × (no_zero n ≤ 65535)
no_zero_fits n small = grind arith

-- a header that is whole words, after a pseudo header
pub even_pseudo : (addresses : Addresses) (number len : ℕ) → AddressesFit addresses
    → length (pseudo addresses number len) % 2 ≡ 0
even_pseudo addresses number len fit = grind (arith, length-append)

-- a datagram whose length field counts all of it
module _ (header : UdpHeader) (payload : List ℕ) (stated : header.length ≡ 8 + length payload)
    (fits : 8 + length payload ≤ 65535) where
  abbrev datagram : List ℕ
  datagram = udp_spec.encoding header ++ payload

  states : udp_spec.length_of datagram ≡ 8 + length payload
  states = two_bytes header.length (omega (arith, stated)) ∙ stated

  read_datagram : udp_at datagram ≡ Ok datagram
  read_datagram = grind (arith, le-ltb, states, ne_eqb, take_all)

-- what the laws of the protocols say of their sealed messages
pub record Laws : Type 0 where
  pub udp : udp_checksum.SealedUdpSumsToAllOnes
  pub tcp : tcp_checksum.SealedTcpSumsToAllOnes
  pub icmpv4 : (kind : Icmpv4Type) (payload : List ℕ)
      → IsTrue (all_ones (icmpv4_spec.encoding (icmpv4_spec.icmpv4_with_checksum kind payload)
      ++ payload))
  pub icmpv6 : (kind : Icmpv6Type) (source destination payload : List ℕ) → length source ≡ 16
      → length destination ≡ 16
      → IsTrue (all_ones (icmpv6_spec.pseudo source destination (8 + length payload)
      ++ icmpv6_spec.encoding (icmpv6_spec.icmpv6_with_checksum source destination kind payload)
      ++ payload))

udp_is_good : Laws → (addresses : Addresses) (h : UdpHeader) (payload : List ℕ) (read : ReadMessage)
    → AddressesFit addresses → 8 + length payload ≤ 65535
    → message_at 17 (transport_encoding (sealed_header addresses (header.Udp h) payload) ++ payload)
    ≡ Ok read → verdict_of addresses read ≡ verdict.Good
udp_is_good laws addresses h payload read fit fits is =
    let prefix : List ℕ = pseudo addresses 17 (8 + length payload) in
    let unchecked : UdpHeader = record h { length = 8 + length payload } in
    let right : ℕ = udp_checksum.right_checksum prefix unchecked payload in
    let sealed : UdpHeader = record unchecked { checksum = right } in
    let bytes : List ℕ = udp_spec.encoding sealed ++ payload in
    let within =
    no_zero_fits
    (checksum (prefix ++ udp_spec.encoding (record unchecked { checksum = 0 }) ++ payload))
    (omega arith) in
    let stored : udp_spec.checksum_of bytes ≡ right = two_bytes right within.1 in
    let some : (udp_spec.checksum_of bytes == 0) ≡ false =
    grind arith in
    let len : length bytes ≡ 8 + length payload = omega arith in
    let same : Ok (Udp bytes) ≡ Ok read =
    sym (ap (result_map_both (λ m. Udp m) (λ e. slice_error.Len e))
    (read_datagram sealed payload refl fits)) ∙ is in
    let is_read : Udp bytes ≡ read = cc in
    let good : verdict_of addresses (Udp bytes) ≡ verdict.Good =
    rw some
    (ap (λ (n : ℕ). by_sum (pseudo addresses 17 n ++ bytes)) len
    ∙ joined prefix (udp_spec.encoding sealed) payload
    (laws.udp prefix payload unchecked (even_pseudo addresses 17 (8 + length payload) fit))) in
    grind arith

tcp_is_good : Laws → (addresses : Addresses) (h : TcpHeader) (payload : List ℕ) (read : ReadMessage)
    → AddressesFit addresses → IsTcpOptions h.options
    → message_at 6 (transport_encoding (sealed_header addresses (header.Tcp h) payload) ++ payload)
    ≡ Ok read → verdict_of addresses read ≡ verdict.Good
tcp_is_good laws addresses h payload read fit options is =
    let prefix : List ℕ = pseudo addresses 6 (tcp_spec.header_len h + length payload) in
    let sealed : TcpHeader = record h { checksum = tcp_checksum.right_checksum prefix h payload } in
    let bytes : List ℕ = tcp_spec.encoding sealed ++ payload in
    let len : length bytes ≡ tcp_spec.header_len h + length payload =
    omega (arith, length-append h.options payload) in
    ap (verdict_of addresses) (segment_is bytes read is)
    ∙ ap (λ (n : ℕ). by_sum (pseudo addresses 6 n ++ bytes)) len
    ∙ joined prefix (tcp_spec.encoding sealed) payload
    (laws.tcp prefix payload h
    (even_pseudo addresses 6 (tcp_spec.header_len h + length payload) fit) options)

icmpv4_is_good : Laws → (source destination : List ℕ) (h : Icmpv4Header)
    (payload : List ℕ) (read : ReadMessage)
    → message_at 1 (icmpv4_spec.encoding (icmpv4_spec.icmpv4_with_checksum h.icmp_type payload)
    ++ payload)
    ≡ Ok read → verdict_of (V4 source destination) read ≡ verdict.Good
icmpv4_is_good laws source destination h payload read is = grind (arith, nat_tests)

icmpv6_is_good : Laws → (source destination : List ℕ) (h : Icmpv6Header) (payload : List ℕ)
    (read : ReadMessage) → AddressesFit (V6 source destination)
    → length (icmpv6_spec.encoding h) ≡ 8
    → message_at 58
    (icmpv6_spec.encoding (icmpv6_spec.icmpv6_with_checksum source destination h.icmp_type payload)
    ++ payload)
    ≡ Ok read → verdict_of (V6 source destination) read ≡ verdict.Good
icmpv6_is_good laws source destination h payload read fit eight is =
    let header : List ℕ = icmpv6_spec.encoding
    (icmpv6_spec.icmpv6_with_checksum source destination h.icmp_type payload) in
    let bytes : List ℕ = header ++ payload in
    let size : length header ≡ 8 = eight in
    let len : length bytes ≡ 8 + length payload =
    omega (arith, size, length-append header payload) in
    ap (verdict_of (V6 source destination)) (icmpv6_is bytes read is)
    ∙ ap (λ (n : ℕ). by_sum (pseudo (V6 source destination) 58 n ++ bytes)) len
    ∙ joined (icmpv6_spec.pseudo source destination (8 + length payload)) header payload
    (laws.icmpv6 h.icmp_type source destination payload fit.0 fit.1)

-- which refusal applies, by the version and by the length of all
abbrev refusal : Bool → Bool → Option SealError
refusal other long = if other then Some IcmpOfOtherVersion
    else (if long then Some TooLong else None)

no_refusal : (other long : Bool) → refusal other long ≡ None → (other ≡ false) × (long ≡ false)
no_refusal other long is = grind arith

pub sealed_where : (other : Bool) (len : ℕ)
    → (refusal other (nat_lt 65535 len) ≡ None) ↔ ((other ≡ false) × (len ≤ 65535))
sealed_where other len = grind arith

pub other_where : (other long : Bool)
    → (refusal other long ≡ Some IcmpOfOtherVersion) ↔ (other ≡ true)
other_where other long = grind arith

pub long_where : (other : Bool) (len : ℕ)
    → (refusal other (nat_lt 65535 len) ≡ Some TooLong) ↔ ((other ≡ false) × (65535 < len))
long_where other len = grind arith

pub unrefused : (version_id : IpFragVersionSpecId) (h : TransportHeader) (payload : List ℕ)
    → AddressesFit (addresses_of version_id) → HeaderFits h → seal_refusal version_id h payload ≡ None
    → IsSealable version_id h payload
unrefused version_id h payload addresses fits is = grind arith

pub sealed_good : Laws → (version_id : IpFragVersionSpecId) (h : TransportHeader) (payload : List ℕ)
    (read : ReadMessage) → IsSealable version_id h payload
    → message_at (number_of h) (sealed_message_bytes version_id h payload) ≡ Ok read
    → verdict_of (addresses_of version_id) read ≡ verdict.Good
sealed_good laws version_id h payload read sealable is =
    grind (arith, udp_is_good, tcp_is_good, icmpv4_is_good, icmpv6_is_good)

-- what the builder writes is the same
built_same : (ip : IpHeaders) (h : TransportHeader) (payload : List ℕ)
    → transport_encoding (built_header ip payload h) ++ payload
    ≡ sealed_message_bytes (version_id_of ip) h payload
built_same ip h payload = grind arith

pub built_good : Laws → (ip : IpHeaders) (h : TransportHeader) (payload : List ℕ)
    (read : ReadMessage) → IsSealable (version_id_of ip) h payload
    → message_at (number_of h) (transport_encoding (built_header ip payload h) ++ payload) ≡ Ok read
    → verdict_of (addresses_of (version_id_of ip)) read ≡ verdict.Good
built_good laws ip h payload read sealable is =
    sealed_good laws (version_id_of ip) h payload read sealable
    (ap (message_at (number_of h)) (sym (built_same ip h payload)) ∙ is)
