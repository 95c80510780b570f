-- The IPv6 packet at the start of bytes is the one that is there, and the fault is the first.
use Rattle.std.proofs.Common.{◌≡◌, ◌∙◌, sym, ap, refl, ℕ, ◌+◌, ◌-◌, false, List, ◌∷◌, [], ◌++◌, length, drop, true}
use Rattle.std.proofs.Common.{Option, Some, None, Result, Ok, Err, IfOk, IfErr, arith, append-nil, append_assoc}
use Rattle.std.proofs.Common.{length-append}
use Rattle.std.specs.Prelude.{nat_lt}
use Rattle.std.proofs.lemmas.Bool.{le-ltb, lt-ltb}
use Rattle.std.proofs.lemmas.List.{take_at, drop_at}
use Rattle.std.specs.Option.{option_map}
use Rattle.std.specs.Result.{result_err, result_ok}
use Rattle.ep_base.specs.Bytes.{num}
use Rattle.ep_base.specs.declared.err.slice_error.SliceError.{SliceError as HeaderSliceError}
use Rattle.ep_ip.specs.Ipv6.{next_header_of}
use Rattle.ep_ip.proofs.Ipv6Prefix.{prefix_again}
use Rattle.ep_ip.specs.Ipv6Fault.{header_at}
use Rattle.ep_ext.specs.Chain.{Fault, Row, fault_of, fault_at, prefix_of}
use Rattle.ep_ext.specs.Value.{Piece, bytes_of, slots}
use Rattle.ep_ext.specs.declared.net.ipv6_ext_slot.Ipv6ExtSlot.{Ipv6ExtSlot}
use Rattle.ep_ext.specs.declared.err.ipv6_exts.header_error.HeaderError.{HeaderError}
use Rattle.ep_ipslice.specs.Ipv6Exts.{Ipv6Exts, view_order}
use Rattle.ep_ipslice.specs.Ipv6Fault.{IsIpv6Fault, OfHeader, OfLength, OfExtensions}
use Rattle.ep_ipslice.specs.Ipv6Packet.{body_of, extensions_in, extensions_of, ipv6_packet_at, packet_after}
use Rattle.ep_ipslice.specs.Ipv6Packet.{number_after, rest_after, ipv6_packet_of}
use Rattle.ep_ipslice.specs.Ipv6Walk.{piece_at_start}
use Rattle.ep_ipslice.specs.Packet.{Ipv6Packet, IsIpv6Packet, body_len}
use Rattle.ep_ipslice.specs.declared.err.ipv6.slice_error.SliceError.{SliceError}
use Rattle.ep_ipslice.proofs.Ipv6Parts.{no_fault_of}
use Rattle.ep_ipslice.proofs.Left.{HasLeast, IsFound, walk_is}
use Rattle.ep_ipslice.proofs.Found.{packet_unless, fault_after, packet_with, not_whole}
use Rattle.ep_ipslice.specs.declared.err.ipv6.slice_error.SliceError.TheVariants.{Len}

extensions_are : IsFound → HasLeast
    → (first : ℕ) (body : List ℕ) (pieces : List Piece) (last : ℕ) (rest : List ℕ)
    → Row view_order [] first pieces last →
    body ≡ bytes_of pieces ++ rest → piece_at_start (view_order (slots pieces) last) rest ≡ None
    → extensions_of first body ≡ pieces
extensions_are found least first body pieces last rest row cut closed =
    grind (arith, walk_is, length-append)

-- the number that a row names last
pub number_is : (passed : List Ipv6ExtSlot) (number : ℕ) (pieces : List Piece) (last : ℕ)
    → Row view_order passed number pieces last → number_after number pieces ≡ last
number_is passed number [] last row = row
number_is passed number (piece ∷ pieces) last row =
    number_is (passed ++ piece.0 ∷ []) (num piece.1 0 1) pieces last row.2

-- where a row ends at a fault, no header is found, though the number names one
no_header : (at : HeaderSliceError HeaderError → Fault) (slot : Ipv6ExtSlot)
    (r : Result (List ℕ) (HeaderSliceError HeaderError)) (fault : Fault)
    → option_map at (result_err r) ≡ Some fault
    → ◌≡◌ {A = Option Piece} (option_map (λ header. (slot, header)) (result_ok r)) None
no_header at slot (Ok header) fault is = cc
no_header at slot (Err e) fault is = refl

closed_at : (offset : ℕ) (slot : Option Ipv6ExtSlot) (last : ℕ) (rest : List ℕ) (fault : Fault)
    → fault_at offset slot last rest ≡ Some fault → piece_at_start slot rest ≡ None
closed_at offset None last rest fault is = refl
closed_at offset (Some slot) last rest fault is = no_header _ slot (prefix_of slot rest) fault is

-- the parts of a row in a body
pub record RowIn (bytes header : List ℕ) (pieces : List Piece) (last : ℕ) (rest : List ℕ) : Type 0 where
  pub pieces_are : extensions_of (next_header_of header) (body_of bytes header) ≡ pieces
  pub number : number_after (next_header_of header) pieces ≡ last
  pub left : rest_after bytes header pieces ≡ rest

pub row_in : IsFound → HasLeast
    → (bytes header : List ℕ) (pieces : List Piece) (last : ℕ) (rest : List ℕ)
    → Row view_order [] (next_header_of header) pieces last →
    body_of bytes header ≡ bytes_of pieces ++ rest
    → piece_at_start (view_order (slots pieces) last) rest ≡ None
    → RowIn bytes header pieces last rest
row_in found least bytes header pieces last rest row cut closed =
    grind (arith, extensions_are, number_is, drop_at)

pub fault_is : (bytes header : List ℕ) (pieces : List Piece) (last : ℕ) (rest : List ℕ)
    → RowIn bytes header pieces last rest
    → fault_after bytes header pieces ≡ fault_of view_order pieces last rest
fault_is bytes header pieces last rest row = grind arith

whole_is : (bytes header : List ℕ) (pieces : List Piece)
    → nat_lt (length bytes - 40) (body_len header (length bytes - 40)) ≡ false →
    packet_with bytes header pieces ≡ packet_unless bytes header pieces
    (fault_after bytes header pieces)
whole_is bytes header pieces whole = rw whole refl

short_is : (bytes header : List ℕ) (pieces : List Piece)
    → nat_lt (length bytes - 40) (body_len header (length bytes - 40)) ≡ true
    → packet_with bytes header pieces ≡ Err (Len (not_whole header (length bytes)))
short_is bytes header pieces short = rw short refl

-- bytes that start with a packet
pub packet_is : IsFound → HasLeast → (bytes : List ℕ) (packet : Ipv6Packet)
    → IsIpv6Packet bytes packet → ipv6_packet_at bytes ≡ Ok packet
packet_is found least bytes packet is =
    let header = packet.header in
    let payload = packet.payload.payload in
    let exts = bytes_of is.pieces in
    let parts : bytes ≡ header ++ (exts ++ payload ++ is.padding) =
    grind (arith, append_assoc) in
    let following : drop 40 bytes ≡ exts ++ payload ++ is.padding =
    ap (drop 40) parts ∙ drop_at header (exts ++ payload ++ is.padding) 40 is.header.whole in
    let body_size : body_len header (length bytes - 40) ≡ length (exts ++ payload) =
    grind (arith, length-append) in
    let body : body_of bytes header ≡ exts ++ payload =
    grind (arith, take_at) in
    let closed : piece_at_start (view_order (slots is.pieces) is.last) payload ≡ None =
    grind arith in
    let row = row_in found least bytes header is.pieces is.last payload is.row body closed in
    let all : length bytes ≡ 40 + (length exts + length payload + length is.padding) =
    grind (arith, length-append) in
    let whole : nat_lt (length bytes - 40) (body_len header (length bytes - 40)) ≡ false =
    grind arith in
    let at : header_at bytes ≡ Ok header =
    ap header_at parts ∙ prefix_again header (exts ++ payload ++ is.padding) is.header in
    let none : fault_after bytes header is.pieces ≡ None =
    fault_is bytes header is.pieces is.last payload row
    ∙ no_fault_of is.pieces is.last payload is.ended in
    let same : ipv6_packet_of bytes header is.pieces ≡ packet = grind arith in
    ap (packet_after bytes) at ∙ ap (packet_with bytes header) row.pieces_are
    ∙ whole_is bytes header is.pieces whole ∙ ap (packet_unless bytes header is.pieces) none
    ∙ ap Ok same

-- bytes that start with none
pub fault_agrees : IsFound → HasLeast → (bytes : List ℕ) (e : SliceError) → IsIpv6Fault bytes e
    → ipv6_packet_at bytes ≡ Err e
fault_agrees found least bytes e (OfHeader fault is error) =
    ap (packet_after bytes) is ∙ ap Err (sym error)
fault_agrees found least bytes e (OfLength header is short) =
    let size : nat_lt (length bytes - 40) (body_len header (length bytes - 40)) ≡ true =
    lt-ltb _ _ short.size in
    ap (packet_after bytes) is
    ∙ short_is bytes header (extensions_of (next_header_of header) (body_of bytes header)) size
    ∙ ap Err (sym short.error)
fault_agrees found least bytes e (OfExtensions header is row) =
    let closed = closed_at (length (bytes_of row.pieces))
    (view_order (slots row.pieces) row.last) row.last row.rest row.fault row.found in
    let parts = row_in found least bytes header row.pieces row.last row.rest row.chain.row
    row.chain.cut closed in
    let whole : nat_lt (length bytes - 40) (body_len header (length bytes - 40)) ≡ false =
    le-ltb _ _ row.size in
    ap (packet_after bytes) is ∙ ap (packet_with bytes header) parts.pieces_are
    ∙ whole_is bytes header row.pieces whole
    ∙ ap (packet_unless bytes header row.pieces)
    (fault_is bytes header row.pieces row.last row.rest parts ∙ row.found)
    ∙ ap Err (sym row.error)

-- what a call that reports every fault takes is what is there
pub found_exactly : IsFound → HasLeast → (bytes : List ℕ) (r : Result Ipv6Packet SliceError)
    → IfOk r (λ p. IsIpv6Packet bytes p) → IfErr r (λ e. IsIpv6Fault bytes e)
    → r ≡ ipv6_packet_at bytes
found_exactly found least bytes (Ok packet) taken refused =
    sym (packet_is found least bytes packet taken)
found_exactly found least bytes (Err e) taken refused = sym (fault_agrees found least bytes e refused)

-- the extension headers of a packet are those of its row
pub extensions_agree : IsFound → HasLeast
    → (bytes : List ℕ) (packet : Ipv6Packet) (is : IsIpv6Packet bytes packet)
    → extensions_in packet ≡ is.pieces
extensions_agree found least bytes packet is =
    let closed : piece_at_start (view_order (slots is.pieces) is.last) [] ≡ None =
    grind arith in
    extensions_are found least (next_header_of packet.header) packet.exts.slice is.pieces is.last
    [] is.row (ap (λ (e : Ipv6Exts). e.slice) is.exts
    ∙ sym (append-nil (bytes_of is.pieces))) closed
