-- The checksum of TCP (RFC 9293, section 3.1; RFC 8200, section 8.1).
use Rattle.std.specs.Prelude.{◌≡◌, ◌≤◌, ℕ, ◌+◌, ◌%◌, List, ◌++◌, length, take, drop, IsTrue}
use Rattle.std.specs.Int.{w16, to_be_bytes}
use Rattle.ep_base.specs.Sum.{all_ones, checksum}
use Rattle.ep_ip.specs.Pseudo.{pseudo_v4, pseudo_v6}
use Rattle.ep_tcpudp.specs.Tcp.{encoding, header_len}
use Rattle.ep_tcpudp.specs.TcpOptions.{IsTcpOptions}
use Rattle.ep_tcpudp.specs.declared.transport.tcp_header.TcpHeader.{TcpHeader}

-- the checksum with this pseudo header: over it, the header with its checksum as 0, and the payload
abbrev pub right_checksum : (pseudo : List ℕ) → TcpHeader → (payload : List ℕ) → ℕ
right_checksum pseudo h payload =
    checksum (pseudo ++ encoding (record h { checksum = 0 }) ++ payload)

-- over IPv4 and over IPv6, between these addresses
abbrev pub checksum_v4 : (source destination : List ℕ) → TcpHeader → (payload : List ℕ) → ℕ
checksum_v4 source destination h payload =
    right_checksum (pseudo_v4 source destination 6 (header_len h + length payload)) h payload

abbrev pub checksum_v6 : (source destination : List ℕ) → TcpHeader → (payload : List ℕ) → ℕ
checksum_v6 source destination h payload =
    right_checksum (pseudo_v6 source destination 6 (header_len h + length payload)) h payload

-- the bytes of a header, or of a whole segment, with this checksum in them
abbrev pub with_checksum : List ℕ → ℕ → List ℕ
with_checksum bytes value = take 16 bytes ++ to_be_bytes w16 value ++ drop 18 bytes

-- the checksum of a segment with this pseudo header: over both, with the segment's own as 0.
-- Reserved bits are summed as they are.
abbrev pub segment_checksum : (pseudo segment : List ℕ) → ℕ
segment_checksum pseudo segment = checksum (pseudo ++ with_checksum segment 0)

-- over IPv4 and over IPv6, between these addresses
abbrev pub segment_checksum_v4 : (source destination segment : List ℕ) → ℕ
segment_checksum_v4 source destination segment =
    segment_checksum (pseudo_v4 source destination 6 (length segment)) segment

abbrev pub segment_checksum_v6 : (source destination segment : List ℕ) → ℕ
segment_checksum_v6 source destination segment =
    segment_checksum (pseudo_v6 source destination 6 (length segment)) segment

-- a pseudo header, a header with the right checksum and its payload sum to all ones
abbrev pub SealedTcpSumsToAllOnes : Type 0
SealedTcpSumsToAllOnes = (pseudo payload : List ℕ) (h : TcpHeader) → length pseudo % 2 ≡ 0
    → IsTcpOptions h.options
    → IsTrue (all_ones (pseudo ++ encoding (record h { checksum = right_checksum pseudo h payload })
    ++ payload))

-- so do a pseudo header and a segment with the checksum that belongs to it
abbrev pub SealedSegmentSumsToAllOnes : Type 0
SealedSegmentSumsToAllOnes = (pseudo segment : List ℕ) → length pseudo % 2 ≡ 0 → 18 ≤ length segment
    → IsTrue (all_ones (pseudo ++ with_checksum segment (segment_checksum pseudo segment)))
