-- Headers with their checksums in them.
use Rattle.std.proofs.Common.{◌≡◌, ◌≤◌, ℕ, ◌+◌, ◌*◌, ◌%◌, List, ◌∷◌, ◌++◌, length, take, drop, length-append}
use Rattle.std.proofs.Common.{append_assoc, arith}
use Rattle.std.specs.Int.{w16, w32, to_be_bytes}
use Rattle.std.proofs.lemmas.List.{length-take-le}
use Rattle.ep_base.specs.MessageSum.{ChecksumSumsToAllOnes, NoZeroSumsToAllOnes}
use Rattle.ep_tcpudp.specs.Tcp as tcp
use Rattle.ep_tcpudp.specs.Tcp.{data_offset, flags}
use Rattle.ep_tcpudp.specs.TcpChecksum as tcp_checksum
use Rattle.ep_tcpudp.specs.TcpChecksum.{SealedTcpSumsToAllOnes, SealedSegmentSumsToAllOnes, segment_checksum}
use Rattle.ep_tcpudp.specs.declared.transport.tcp_header.TcpHeader.{TcpHeader}
use Rattle.ep_tcpudp.specs.Udp.{encoding}
use Rattle.ep_tcpudp.proofs.TcpSums.{segment_around}
use Rattle.ep_tcpudp.specs.UdpChecksum.{SealedUdpSumsToAllOnes, right_checksum}
use Rattle.ep_tcpudp.specs.declared.transport.udp_header.UdpHeader.{UdpHeader}
use Rattle.ep_base.specs.Bytes.{flag}

-- the six bytes before the checksum
prefix_of : List ℕ → UdpHeader → List ℕ
prefix_of pseudo h =
    pseudo ++ (to_be_bytes w16 h.source_port ++ to_be_bytes w16 h.destination_port
    ++ to_be_bytes w16 h.length)

-- where the checksum is
around : (pseudo payload : List ℕ) (h : UdpHeader) (c : ℕ)
    → pseudo ++ encoding (record h { checksum = c }) ++ payload ≡ prefix_of pseudo h
    ++ (to_be_bytes w16 c ++ payload)
unfolding prefix_of
around pseudo payload h c = simp append_assoc

even_prefix : (pseudo : List ℕ) (h : UdpHeader) → length pseudo % 2 ≡ 0
    → length (prefix_of pseudo h) % 2 ≡ 0
unfolding prefix_of
even_prefix pseudo h even = grind (arith, length-append)

pub sealed_udp : NoZeroSumsToAllOnes → SealedUdpSumsToAllOnes
sealed_udp sums pseudo payload h even =
    let all = sums (prefix_of pseudo h) payload (even_prefix pseudo h even) in
    rw (around pseudo payload h (right_checksum pseudo h payload), around pseudo payload h 0) all

-- the sixteen bytes before TCP's checksum, and what follows it
tcp_prefix : List ℕ → TcpHeader → List ℕ
tcp_prefix pseudo h =
    pseudo ++ (to_be_bytes w16 h.source_port ++ to_be_bytes w16 h.destination_port
    ++ to_be_bytes w32 h.sequence_number
    ++ to_be_bytes w32 h.acknowledgment_number ++ (data_offset h * 16 + flag h.ns 1) ∷ flags h ∷
    to_be_bytes w16 h.window_size)

tcp_rest : TcpHeader → List ℕ → List ℕ
tcp_rest h payload = to_be_bytes w16 h.urgent_pointer ++ (h.options ++ payload)

tcp_around : (pseudo payload : List ℕ) (h : TcpHeader) (c : ℕ)
    → pseudo ++ tcp.encoding (record h { checksum = c }) ++ payload ≡ tcp_prefix pseudo h
    ++ (to_be_bytes w16 c ++ tcp_rest h payload)
unfolding tcp_prefix tcp_rest
tcp_around pseudo payload h c = simp append_assoc

even_tcp : (pseudo : List ℕ) (h : TcpHeader) → length pseudo % 2 ≡ 0
    → length (tcp_prefix pseudo h) % 2 ≡ 0
unfolding tcp_prefix
even_tcp pseudo h even = grind (arith, length-append)

pub sealed_tcp : ChecksumSumsToAllOnes → SealedTcpSumsToAllOnes
sealed_tcp sums pseudo payload h even words =
    let all = sums (tcp_prefix pseudo h) (tcp_rest h payload) (even_tcp pseudo h even) in
    rw (
      tcp_around pseudo payload h (tcp_checksum.right_checksum pseudo h payload),
      tcp_around
          pseudo payload h 0,
    ) all

even_segment : (pseudo segment : List ℕ) → length pseudo % 2 ≡ 0 → 18 ≤ length segment
    → length (pseudo ++ take 16 segment) % 2 ≡ 0
even_segment pseudo segment even least = grind (arith, length-append, length-take-le)

pub sealed_segment : ChecksumSumsToAllOnes → SealedSegmentSumsToAllOnes
sealed_segment sums pseudo segment even least =
    let all = sums (pseudo ++ take 16 segment) (drop 18 segment)
    (even_segment pseudo segment even least) in
    rw (
      ← segment_around pseudo segment (segment_checksum pseudo segment),
      ← segment_around pseudo segment 0,
    ) all
