-- The checksum of UDP (RFC 768; RFC 8200, section 8.1).
use Rattle.std.specs.Prelude.{◌≡◌, ℕ, ◌%◌, List, ◌++◌, length, IsTrue}
use Rattle.ep_base.specs.Sum.{all_ones, checksum, no_zero}
use Rattle.ep_ip.specs.Pseudo.{pseudo_v4, pseudo_v6}
use Rattle.ep_tcpudp.specs.Udp.{encoding, unchecked_header}
use Rattle.ep_tcpudp.specs.declared.transport.udp_header.UdpHeader.{UdpHeader}

-- the checksum with this pseudo header: over it, the header with its checksum as 0, and the
-- payload. Instead of 0, which says that there is none, it is ffff.
abbrev pub right_checksum : (pseudo : List ℕ) → UdpHeader → (payload : List ℕ) → ℕ
right_checksum pseudo h payload =
    no_zero (checksum (pseudo ++ encoding (record h { checksum = 0 }) ++ payload))

-- over IPv4 and over IPv6, between these addresses; the pseudo header has the length that the
-- header has
abbrev pub checksum_v4 : (source destination : List ℕ) → UdpHeader → (payload : List ℕ) → ℕ
checksum_v4 source destination h payload =
    right_checksum (pseudo_v4 source destination 17 h.length) h payload

abbrev pub checksum_v6 : (source destination : List ℕ) → UdpHeader → (payload : List ℕ) → ℕ
checksum_v6 source destination h payload =
    right_checksum (pseudo_v6 source destination 17 h.length) h payload

-- the header of a payload, with its length and checksum
abbrev pub sealed_v4 : (source_port destination_port : ℕ)
    → (source destination payload : List ℕ) → UdpHeader
sealed_v4 source_port destination_port source destination payload =
    let header = unchecked_header source_port destination_port (length payload) in
    record header { checksum = checksum_v4 source destination header payload }

abbrev pub sealed_v6 : (source_port destination_port : ℕ)
    → (source destination payload : List ℕ) → UdpHeader
sealed_v6 source_port destination_port source destination payload =
    let header = unchecked_header source_port destination_port (length payload) in
    record header { checksum = checksum_v6 source destination header payload }

-- a pseudo header, a header with the right checksum and its payload sum to all ones
abbrev pub SealedUdpSumsToAllOnes : Type 0
SealedUdpSumsToAllOnes = (pseudo payload : List ℕ) (h : UdpHeader) → length pseudo % 2 ≡ 0
    → IsTrue (all_ones (pseudo ++ encoding (record h { checksum = right_checksum pseudo h payload })
    ++ payload))
