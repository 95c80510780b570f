-- The walk of a view over extension headers in a row.
use Rattle.std.proofs.Common.{◌≡◌, ℕ, ◌-◌, Bool, true, ◌||◌, List, ◌∷◌, ◌++◌, length, [], take, Option, Some, Ok}
use Rattle.std.proofs.Common.{None, Err, Bor, arith, refl, sym, ap, ◌∙◌, length-append, append_assoc, Result}
use Rattle.std.proofs.lemmas.List.{take_at}
use Rattle.std.proofs.lemmas.List.Folds.{list_any-append}
use Rattle.std.specs.List.{list_any}
use Rattle.ep_base.specs.Bytes.{num}
use Rattle.ep_base.specs.declared.err.layer.Layer.{Layer}
use Rattle.ep_base.specs.declared.net.ip_number.IpNumber.{IpNumber}
use Rattle.ep_ext.specs.Chain.{Chain, Fault, IsEnd, IsPiece, Row, prefix_of, layer_of, fault_at}
use Rattle.ep_base.specs.SliceError.{offset_by}
use Rattle.ep_ext.specs.Slot.{Order}
use Rattle.ep_ext.specs.Value.{Piece, bytes_of, slots}
use Rattle.ep_base.specs.declared.err.slice_error.SliceError.{SliceError}
use Rattle.ep_base.proofs.Prefixes.{ok_same}
use Rattle.ep_ext.specs.declared.err.ipv6_exts.header_error.HeaderError.{HeaderError}
use Rattle.ep_ext.specs.declared.net.ipv6_ext_slot.Ipv6ExtSlot.{Ipv6ExtSlot}
use Rattle.ep_ext.proofs.Found.{prefix_begins}
use Rattle.ep_ipslice.specs.Ipv6Exts.{Ipv6Exts, IsViewOf, Stops, exts_of, is_started}
use Rattle.ep_ipslice.specs.Ipv6Exts.{is_fragmenting_piece, slot_after, view_order}
use Rattle.std.proofs.Math.Bool.{or-false}
use Rattle.ep_ipslice.specs.Ipv6Ext.{piece_of, ext_of, ext_at, some_ext}
use Rattle.ep_ipslice.specs.declared.net.ipv6_extension_slice.Ipv6ExtensionSlice.{Ipv6ExtensionSlice}

-- what the walk keeps: so far the bytes are headers in a row and the rest
pub record Kept (first : ℕ) (bytes : List ℕ) (has_header fragmented : Bool) (number : ℕ)
    (rest : List ℕ) : Type 0 where
  pub pieces : List Piece
  pub row : Row view_order [] first pieces number
  pub cut : bytes ≡ bytes_of pieces ++ rest
  pub started : has_header ≡ is_started pieces
  pub parted : fragmented ≡ list_any is_fragmenting_piece pieces

-- laws of rows, as they are called
abbrev pub RowGrows : Type 0
RowGrows =
    (order : Order) (first : ℕ) (pieces : List Piece) (last : ℕ)
    (slot : Ipv6ExtSlot) (header : List ℕ)
    → Row order [] first pieces last → order (slots pieces) last ≡ Some slot
    → IsPiece slot header
    → Row order [] first (pieces ++ (slot, header) ∷ []) (num header 0 1)

abbrev pub BytesGrow : Type 0
BytesGrow = (pieces : List Piece) (slot : Ipv6ExtSlot) (header : List ℕ)
    → bytes_of (pieces ++ (slot, header) ∷ []) ≡ bytes_of pieces ++ header

-- that some header came before is all that matters for the next slot
pub slot_shown : (pieces : List Piece) (number : ℕ)
    → slot_after (is_started pieces) number ≡ view_order (slots pieces) number
slot_shown pieces number = grind arith

slot_open : (pieces : List Piece) (has_header : Bool) (number : ℕ) (slot : Option Ipv6ExtSlot)
    → has_header ≡ is_started pieces → slot_after has_header number ≡ slot
    → view_order (slots pieces) number ≡ slot
slot_open pieces has_header number slot is following = grind arith

started_more : (pieces : List Piece) (piece : Piece) → true ≡ is_started (pieces ++ piece ∷ [])
started_more [] piece = refl
started_more (first ∷ pieces) piece = refl

parted_more : (pieces : List Piece) (piece : Piece)
    → list_any is_fragmenting_piece (pieces ++ piece ∷ [])
    ≡ (list_any is_fragmenting_piece pieces || is_fragmenting_piece piece)
parted_more pieces piece = grind (arith, list_any-append, or-false)

pub kept_more : RowGrows → BytesGrow
    → (first : ℕ) (bytes : List ℕ) (has_header fragmented : Bool) (number : ℕ) (rest : List ℕ) →
    (slot : Ipv6ExtSlot) (header following : List ℕ) (next : ℕ) (fragment_flag : Bool) →
    Kept first bytes has_header fragmented number rest → slot_after has_header number ≡ Some slot
    → IsPiece slot header →
    rest ≡ header ++ following → next ≡ num header 0 1
    → fragment_flag ≡ (fragmented || is_fragmenting_piece (slot, header)) →
    Kept first bytes true fragment_flag next following
kept_more grows lengthens first bytes has_header fragmented number rest slot header following next fragment_flag
    kept free piece cut named parted =
    let open_here : view_order (slots kept.pieces) number ≡ Some slot =
    slot_open kept.pieces has_header number (Some slot) kept.started free in record {
      pieces = kept.pieces ++ (slot, header) ∷ [];
      row = grind arith;
      cut =
          grind (arith, append_assoc);
      started = started_more kept.pieces (slot, header);
      parted = grind (arith, parted_more);
    }

-- how many bytes the headers have
pub passed_len : (first : ℕ) (bytes : List ℕ) (has_header fragmented : Bool) (number : ℕ) (rest : List ℕ)
    (kept : Kept first bytes has_header fragmented number rest) →
    length bytes - length rest ≡ length (bytes_of kept.pieces)
passed_len first bytes has_header fragmented number rest kept = grind (arith, length-append)

pub passed_bytes : (first : ℕ) (bytes : List ℕ) (has_header fragmented : Bool) (number : ℕ)
    (rest : List ℕ) (kept : Kept first bytes has_header fragmented number rest) (len : ℕ) →
    len ≡ length bytes - length rest → take len bytes ≡ bytes_of kept.pieces
passed_bytes first bytes has_header fragmented number rest kept len is =
    ap (take len) kept.cut ∙ take_at (bytes_of kept.pieces) rest len
    (sym (is ∙ passed_len first bytes has_header fragmented number rest kept))

pub view_of : (first : IpNumber) (bytes : List ℕ) (has_header fragmented : Bool) (number : ℕ)
    (rest prefix : List ℕ) (kept : Kept first.0 bytes has_header fragmented number rest) →
    prefix ≡ bytes_of kept.pieces → IsViewOf first has_header fragmented prefix
view_of first bytes has_header fragmented number rest prefix kept is = grind arith

abbrev pub Answer : Type 0
Answer = Ipv6Exts × IpNumber × Bor (List ℕ) × Option Fault

abbrev pub Found : ℕ → List ℕ → Answer → Type 0
Found first bytes answer = (pieces : List Piece) × (last : ℕ) × (rest : List ℕ)
    × Chain view_order first bytes pieces last rest × Stops first pieces last rest answer

abbrev pub EndsClosed : Type 0
EndsClosed = (order : Order) (passed : List Ipv6ExtSlot) (last : ℕ) (rest : List ℕ)
    → order passed last ≡ None → IsEnd order passed last rest

abbrev pub EndsAtFault : Type 0
EndsAtFault =
    (order : Order) (passed : List Ipv6ExtSlot) (last : ℕ) (rest : List ℕ) (slot : Ipv6ExtSlot)
    (error : SliceError HeaderError)
    → order passed last ≡ Some slot → prefix_of slot rest ≡ Err error
    → IsEnd order passed last rest

pub found_closed : EndsClosed
    → (first : ℕ) (bytes : List ℕ) (has_header fragmented : Bool) (number : IpNumber)
    (rest : Bor (List ℕ)) (view : Ipv6Exts) (fault : Option Fault) →
    (kept : Kept first bytes has_header fragmented number.0 rest.now)
    → slot_after has_header number.0 ≡ None → view ≡ exts_of first kept.pieces
    → fault ≡ fault_at 0 None number.0 [] →
    Found first bytes (view, number, rest, fault)
found_closed ends first bytes has_header fragmented number rest view fault kept closed seen is =
    grind arith

pub found_fault : EndsAtFault
    → (first : ℕ) (bytes : List ℕ) (has_header fragmented : Bool) (number : IpNumber)
    (rest : Bor (List ℕ)) (view : Ipv6Exts) (slot : Ipv6ExtSlot)
    (error far : SliceError HeaderError) (offset : ℕ) (layer : Layer) →
    (kept : Kept first bytes has_header fragmented number.0 rest.now)
    → slot_after has_header number.0 ≡ Some slot → view ≡ exts_of first kept.pieces
    → prefix_of slot rest.now ≡ Err error →
    offset ≡ length bytes - length rest.now → far ≡ offset_by error offset → layer ≡ layer_of slot
    →
    Found first bytes (view, number, rest, Some (far, layer))
found_fault ends first bytes has_header fragmented number rest view slot error far offset layer kept
    free seen fault offset_is far_is layer_is =
    let open_here : view_order (slots kept.pieces) number.0 ≡ Some slot =
    slot_open kept.pieces has_header number.0 (Some slot) kept.started free in
    let start : offset ≡ length (bytes_of kept.pieces) =
    offset_is ∙ passed_len first bytes has_header fragmented number.0 rest.now kept in
    let moved_is : far ≡ offset_by error (length (bytes_of kept.pieces)) =
    grind arith in (
      kept.pieces,
      number.0,
      rest.now,
      record {
        row = kept.row;
        cut = kept.cut;
        ended = ends view_order (slots kept.pieces) number.0 rest.now slot error open_here fault;
      },
      grind arith,
    )

abbrev pub ChainAlone : Type 0
ChainAlone =
    (order : Order) (first : ℕ) (bytes : List ℕ) (p q : List Piece) (m n : ℕ) (r s : List ℕ)
    → Chain order first bytes p m r → Chain order first bytes q n s → (p ≡ q) × (m ≡ n) × (r ≡ s)

-- the answer is that of every chain
pub stops_same : ChainAlone
    → (first : ℕ) (bytes : List ℕ) (p q : List Piece) (m n : ℕ) (r s : List ℕ) (answer : Answer) →
    Chain view_order first bytes p m r → Chain view_order first bytes q n s
    → Stops first p m r answer → Stops first q n s answer
stops_same alone first bytes p q m n r s answer chain other stops =
    let same = alone view_order first bytes p q m n r s chain other in grind arith

bytes_are : (slot : Ipv6ExtSlot) (header : List ℕ) → (piece_of (ext_of slot header)).1 ≡ header
bytes_are slot header = grind arith

ext_by : (slot : Ipv6ExtSlot) (bytes : List ℕ) (ext : Ipv6ExtensionSlice)
    (r : Result (List ℕ) (SliceError HeaderError)) → prefix_of slot bytes ≡ r
    → Ok ext ≡ some_ext slot r
    → IsPiece slot (piece_of ext).1 × ((rest : List ℕ) × (bytes ≡ (piece_of ext).1 ++ rest))
ext_by slot bytes ext (Ok header) at is =
    let same : (piece_of ext).1 ≡ header =
    ap (λ (x : Ipv6ExtensionSlice). (piece_of x).1) (ok_same _ _ is) ∙ bytes_are slot header in
    rw same (prefix_begins slot bytes header at)
ext_by slot bytes ext (Err e) at is = cc

-- what is found in a slot is a header, with which the bytes start
pub ext_found : (slot : Ipv6ExtSlot) (bytes : List ℕ) (ext : Ipv6ExtensionSlice)
    → Ok ext ≡ ext_at slot bytes
    → IsPiece slot (piece_of ext).1 × ((rest : List ℕ) × (bytes ≡ (piece_of ext).1 ++ rest))
ext_found slot bytes ext is = ext_by slot bytes ext (prefix_of slot bytes) refl is
