-- What is found at the start of bytes is there.
use Rattle.std.proofs.Common.{◌≡◌, ◌∙◌, ap, subst, refl, ℕ, zero, suc, ◌-◌, ◌≤◌, ◌<◌, [], ◌==◌, Bool, true, false, List}
use Rattle.std.proofs.Common.{◌∷◌, ◌++◌, length, take, drop, get_or, Option, Some, None, Result, Ok, Err, arith, ◌+◌}
use Rattle.std.proofs.Common.{append_assoc, append-nil, length-append, take-append-drop}
use Rattle.std.specs.Prelude.{nat_lt, not, if◌then◌else◌}
use Rattle.std.proofs.lemmas.Bool.{ltb-false}
use Rattle.std.proofs.lemmas.Option.{none-some}
use Rattle.std.proofs.lemmas.List.{drop_at, get_or-take, length-drop, length-take-le}
use Rattle.std.specs.Option.{option_map, option_map_or}
use Rattle.std.specs.Result.{result_ok}
use Rattle.ep_base.proofs.Prefixes.{ok_same}
use Rattle.ep_base.specs.Bytes.{num}
use Rattle.ep_ext.specs.Chain.{Fault, IsPiece, Row, prefix_of, fault_of, fault_at}
use Rattle.ep_ext.specs.Slot.{Order}
use Rattle.ep_ext.specs.Value.{Piece, bytes_of, slots}
use Rattle.ep_base.specs.declared.err.slice_error.SliceError.{SliceError as HeaderSliceError}
use Rattle.ep_base.specs.LenError.{too_few_bytes}
use Rattle.ep_base.specs.declared.err.layer.Layer.TheVariants as layer
use Rattle.ep_base.specs.declared.err.len_error.LenError.{LenError}
use Rattle.ep_ext.specs.declared.err.ipv6_exts.header_error.HeaderError.{HeaderError}
use Rattle.ep_ext.specs.declared.net.ipv6_ext_slot.Ipv6ExtSlot.{Ipv6ExtSlot}
use Rattle.ep_ip.specs.Ipv6.{IsIpv6Header, next_header_of, payload_length_of}
use Rattle.ep_ip.specs.Ipv6Fault.{header_at}
use Rattle.ep_ip.specs.declared.err.ipv6.header_error.HeaderError.{HeaderError as HeaderFault}
use Rattle.ep_ip.specs.Ipv4.{version_of}
use Rattle.ep_ipslice.specs.Ipv6Exts.{view_order}
use Rattle.ep_ipslice.specs.Ipv6Fault.{of_exts_fault}
use Rattle.ep_ipslice.specs.Ipv6Packet.{body_of, extensions_of, ipv6_packet_at, number_after, packet_after}
use Rattle.ep_ipslice.specs.Ipv6Packet.{ipv6_packet_of, rest_after}
use Rattle.ep_ipslice.specs.Ipv6Walk.{piece_at_start, pieces_within}
use Rattle.ep_ipslice.specs.Packet.{Ipv6Packet, IsIpv6Packet, body_len, body_source}
use Rattle.ep_ipslice.specs.declared.err.ipv6.slice_error.SliceError.TheVariants.{Len}
use Rattle.ep_ipslice.specs.declared.err.ipv6.slice_error.SliceError.{SliceError}
use Rattle.ep_ext.proofs.Found.{prefix_begins}

-- the bytes start with these headers in a row, and no other follows them
pub record IsWalk (order : Order) (passed : List Ipv6ExtSlot) (number : ℕ) (bytes : List ℕ)
    (pieces : List Piece) : Type 0 where
  pub rest : List ℕ
  pub row : Row order passed number pieces (number_after number pieces)
  pub cut : bytes ≡ bytes_of pieces ++ rest
  pub ended : piece_at_start (order (passed ++ slots pieces) (number_after number pieces)) rest ≡ None

piece_len : (slot : Ipv6ExtSlot) (header : List ℕ) → IsPiece slot header → 0 < length header
piece_len slot header is = grind arith

-- a header that is found: its slot, and that the bytes start with it
pub record IsPrefix (slot : Option Ipv6ExtSlot) (bytes : List ℕ) (piece : Piece) : Type 0 where
  pub named : slot ≡ Some piece.0
  pub is : IsPiece piece.0 piece.1
  pub following : List ℕ
  pub cut : bytes ≡ piece.1 ++ following

prefix_at : (slot : Ipv6ExtSlot) (bytes : List ℕ)
    (r : Result (List ℕ) (HeaderSliceError HeaderError)) (piece : Piece) → prefix_of slot bytes ≡ r
    → option_map (λ header. (slot, header)) (result_ok r) ≡ Some piece
    → IsPrefix (Some slot) bytes piece
prefix_at slot bytes (Ok header) piece at is =
    let begins = prefix_begins slot bytes header at in
    grind arith
prefix_at slot bytes (Err e) piece at is = absurd (none-some piece is)

pub prefix_is : (slot : Option Ipv6ExtSlot) (bytes : List ℕ) (piece : Piece)
    → piece_at_start slot bytes ≡ Some piece → IsPrefix slot bytes piece
prefix_is None bytes piece is = absurd (none-some piece is)
prefix_is (Some slot) bytes piece is = prefix_at slot bytes (prefix_of slot bytes) piece refl is

walk_ends : (order : Order) (passed : List Ipv6ExtSlot) (number : ℕ) (bytes : List ℕ)
    → piece_at_start (order passed number) bytes ≡ None → IsWalk order passed number bytes []
walk_ends order passed number bytes none = grind (arith, append-nil)

walk_more : (order : Order) (passed : List Ipv6ExtSlot) (number : ℕ) (bytes : List ℕ)
    (piece : Piece) (pieces : List Piece) (prefix : IsPrefix (order passed number) bytes piece) →
    IsWalk order (passed ++ piece.0 ∷ []) (num piece.1 0 1) prefix.following pieces
    → IsWalk order passed number bytes (piece ∷ pieces)
walk_more order passed number bytes piece pieces prefix walk = record {
  rest = walk.rest;
  row = (prefix.named, prefix.is, walk.row);
  cut = grind (arith, append_assoc);
  ended = grind (arith, append_assoc);
}

walk_then : (order : Order) (passed : List Ipv6ExtSlot) (number : ℕ) (bytes : List ℕ) (most : ℕ) →
    ((ps : List Ipv6ExtSlot) (n : ℕ) (xs : List ℕ) → length xs ≤ most
    → IsWalk order ps n xs (pieces_within most order ps n xs)) → length bytes ≤ suc most →
    (o : Option Piece) → piece_at_start (order passed number) bytes ≡ o →
    IsWalk order passed number bytes
    (option_map_or (λ (piece : Piece). piece ∷
    pieces_within most order (passed ++ piece.0 ∷ []) (num piece.1 0 1)
    (drop (length piece.1) bytes)) o [])
walk_then order passed number bytes most further fits None at =
    walk_ends order passed number bytes at
walk_then order passed number bytes most further fits (Some piece) at =
    let prefix = prefix_is (order passed number) bytes piece at in
    let ps : List Ipv6ExtSlot = passed ++ piece.0 ∷ [] in
    let n : ℕ = num piece.1 0 1 in
    let left : drop (length piece.1) bytes ≡ prefix.following =
    grind (arith, drop_at) in
    let less : length prefix.following ≤ most =
    grind (arith, piece_len, length-append) in
    grind (arith, walk_more)

pub walk : (most : ℕ) (order : Order) (passed : List Ipv6ExtSlot) (number : ℕ) (bytes : List ℕ)
    → length bytes ≤ most → IsWalk order passed number bytes
    (pieces_within most order passed number bytes)
unfolding pieces_within
walk zero order passed number bytes fits = grind arith
walk (suc most) order passed number bytes fits =
    walk_then order passed number bytes most (walk most order) fits
    (piece_at_start (order passed number) bytes) refl

pub none_open : (slot : Option Ipv6ExtSlot) (last : ℕ) (rest : List ℕ) (offset : ℕ)
    → piece_at_start slot rest ≡ None → fault_at offset slot last rest ≡ None
    → (slot ≡ None) × ((last == 0) ≡ false)
none_open slot last rest offset none fault = grind arith

-- the header at the start of bytes
header_cases : (short six : Bool) (bytes header : List ℕ) (e f : HeaderSliceError HeaderFault)
    → nat_lt (length bytes) 40 ≡ short → (version_of bytes == 6) ≡ six →
    (if short then Err e else (if not six then Err f else Ok (take 40 bytes))) ≡ Ok header →
    IsIpv6Header header × (bytes ≡ header ++ drop 40 bytes)
header_cases true six bytes header e f fits version is = cc
header_cases false false bytes header e f fits version is = cc
header_cases false true bytes header e f fits version is =
    let same : take 40 bytes ≡ header =
    ok_same {E = HeaderSliceError HeaderFault} (take 40 bytes) header is in
    let first : get_or (take 40 bytes) 0 0 ≡ get_or bytes 0 0 =
    get_or-take 40 bytes 0 0 (omega arith) in (
      subst IsIpv6Header same
          (record {
            version = grind arith;
            whole = length-take-le 40 bytes (ltb-false (length bytes) 40 fits);
          }),
      cc (take-append-drop 40 bytes, same),
    )

pub header_found : (bytes header : List ℕ) → header_at bytes ≡ Ok header
    → IsIpv6Header header × (bytes ≡ header ++ drop 40 bytes)
header_found bytes header is = header_cases (nat_lt (length bytes) 40)
    (version_of bytes == 6) bytes header _ _ refl refl is

-- the fault at which extension headers end, if there is one
abbrev pub fault_after : (bytes header : List ℕ) → List Piece → Option Fault
fault_after bytes header pieces = fault_of view_order pieces
    (number_after (next_header_of header) pieces) (rest_after bytes header pieces)

-- fewer bytes are there than header and payload length
abbrev pub not_whole : List ℕ → ℕ → LenError
not_whole header found = too_few_bytes layer.Ipv6Packet (40 + payload_length_of header) found

-- the packet of these extension headers, if they don't end at a fault
abbrev pub packet_unless : (bytes header : List ℕ) → List Piece → Option Fault
    → Result Ipv6Packet SliceError
packet_unless bytes header pieces fault = option_map_or
    (λ (f : Fault). Err (of_exts_fault (body_source header (length bytes - 40)) f.0)) fault
    (Ok (ipv6_packet_of bytes header pieces))

-- the packet of this header and of these extension headers
abbrev pub packet_with : (bytes header : List ℕ) → List Piece → Result Ipv6Packet SliceError
packet_with bytes header pieces =
    if nat_lt (length bytes - 40) (body_len header (length bytes - 40))
    then Err (Len (not_whole header (length bytes)))
    else packet_unless bytes header pieces (fault_after bytes header pieces)

pub short_cases : (short : Bool) (bytes header : List ℕ) (pieces : List Piece) (packet : Ipv6Packet) →
    (if short then Err (Len (not_whole header (length bytes)))
    else packet_unless bytes header pieces (fault_after bytes header pieces)) ≡ Ok packet →
    (short ≡ false)
    × (packet_unless bytes header pieces (fault_after bytes header pieces) ≡ Ok packet)
short_cases true bytes header pieces packet is = cc
short_cases false bytes header pieces packet is = (refl, is)

pub unless_cases : (bytes header : List ℕ) (pieces : List Piece) (o : Option Fault)
    (packet : Ipv6Packet) → packet_unless bytes header pieces o ≡ Ok packet
    → (o ≡ None) × (ipv6_packet_of bytes header pieces ≡ packet)
unless_cases bytes header pieces None packet is = (refl, ok_same {E = SliceError} _ _ is)
unless_cases bytes header pieces (Some fault) packet is = cc

-- the packet of a header and of what is found after it
packet_stands : (bytes header : List ℕ) → IsIpv6Header header → bytes ≡ header ++ drop 40 bytes
    → nat_lt (length bytes - 40) (body_len header (length bytes - 40)) ≡ false →
    fault_after bytes header (extensions_of (next_header_of header) (body_of bytes header)) ≡ None
    → IsIpv6Packet bytes
    (ipv6_packet_of bytes header (extensions_of (next_header_of header) (body_of bytes header)))
packet_stands bytes header whole begins fits none =
    let first : ℕ = next_header_of header in
    let following : List ℕ = drop 40 bytes in
    let size : ℕ = body_len header (length bytes - 40) in
    let body : List ℕ = body_of bytes header in
    let pieces : List Piece = extensions_of first body in
    let exts : List ℕ = bytes_of pieces in
    let last : ℕ = number_after first pieces in
    let padding : List ℕ = drop size following in
    let found = walk (length body) view_order [] first body (omega arith) in
    let left : found.rest ≡ rest_after bytes header pieces =
    grind (arith, drop_at) in
    let closed = none_open (view_order (slots pieces) last) last found.rest
    (length exts) found.ended
    (ap (fault_at (length exts) (view_order (slots pieces) last) last) left ∙ none) in
    let parts : body ≡ exts ++ rest_after bytes header pieces =
    grind arith in
    let enough : size ≤ length following =
    omega (arith, ltb-false (length bytes - 40) size fits, length-drop 40 bytes) in
    record {
      pieces = pieces;
      last = last;
      padding = padding;
      cut = grind (arith, take-append-drop, append_assoc);
      header = whole;
      row = found.row;
      ended = grind arith;
      size = grind (arith, length-append, length-take-le);
      exts = refl;
      fields = refl;
    }

found_after : (bytes : List ℕ) (r : Result (List ℕ) (HeaderSliceError HeaderFault))
    (packet : Ipv6Packet) → header_at bytes ≡ r → packet_after bytes r ≡ Ok packet
    → IsIpv6Packet bytes packet
found_after bytes (Ok header) packet at is =
    let pieces : List Piece = extensions_of (next_header_of header) (body_of bytes header) in
    let begins = header_found bytes header at in
    let whole = short_cases (nat_lt (length bytes - 40) (body_len header (length bytes - 40))) bytes
    header pieces packet is in
    let none = unless_cases bytes header pieces (fault_after bytes header pieces) packet whole.1 in
    subst (IsIpv6Packet bytes) none.1
    (packet_stands bytes header begins.0 begins.1 whole.0 none.0)
found_after bytes (Err e) packet at is = cc

-- the packet that is found at the start of bytes is there
pub packet_found : (bytes : List ℕ) (packet : Ipv6Packet) → ipv6_packet_at bytes ≡ Ok packet
    → IsIpv6Packet bytes packet
packet_found bytes packet is = found_after bytes (header_at bytes) packet refl is
