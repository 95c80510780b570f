-- The sums of segments, added part by part.
use Rattle.std.proofs.Common.{◌≡◌, ℕ, ◌%◌, ◌≤◌, List, ◌++◌, length, take, drop, arith, length-append, append_assoc}
use Rattle.std.proofs.lemmas.List.{length-take-le, take-append-le, drop-append-le, length-drop}
use Rattle.std.specs.Int.{w16, to_be_bytes}
use Rattle.ep_base.specs.MessageSum.{with_word}
use Rattle.ep_base.specs.Sum.{AddsText, fold, total}
use Rattle.ep_tcpudp.specs.TcpChecksum.{with_checksum}

-- a segment after its pseudo header, with the checksum as a word in it
pub segment_around : (prefix segment : List ℕ) (value : ℕ)
    → with_word (prefix ++ take 16 segment) value (drop 18 segment) ≡ prefix
    ++ with_checksum segment value
segment_around prefix segment value = simp append_assoc

-- a payload is added after a header
pub header_added : (sum last : ℕ) (prefix header payload : List ℕ)
    → length prefix % 2 ≡ 0 → 18 ≤ length header
    → length header % 2 ≡ 0 → sum ≡ fold (total (prefix ++ with_checksum header 0))
    → AddsText sum payload last
    → last ≡ fold (total (prefix ++ with_checksum (header ++ payload) 0))
header_added sum last prefix header payload even least words sums adds =
    let size = length-take-le 16 header (omega arith) in
    let rest = length-drop 18 header in
    let around = length-append (take 16 header) (to_be_bytes w16 0) in
    let whole = length-append (take 16 header ++ to_be_bytes w16 0) (drop 18 header) in
    let all = length-append prefix (with_checksum header 0) in
    grind (arith, take-append-le, drop-append-le, append_assoc)

-- so it is after the two parts of a header, its fixed fields and its options
pub parts_added : (sum last : ℕ) (prefix fixed options payload header : List ℕ)
    → length prefix % 2 ≡ 0 → length fixed ≡ 20 → length options % 4 ≡ 0
    → fixed ++ options ≡ header → sum ≡ fold (total (prefix ++ fixed ++ options))
    → AddsText sum payload last
    → last ≡ fold (total (prefix ++ header ++ payload))
parts_added sum last prefix fixed options payload header even size words is sums adds =
    grind (arith, length-append, append_assoc)
