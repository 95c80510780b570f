-- The headers that an iterator has left.
use Rattle.std.proofs.Common.{◌≡◌, ℕ, suc, zero, ◌≤◌, ◌==◌, Bool, true, false, cond, List, [], ◌∷◌, ◌++◌, length, drop}
use Rattle.std.proofs.Common.{Option, Some, None, Result, Ok, Err, refl, sym, ap, ◌∙◌, subst, append-nil, append_assoc}
use Rattle.std.proofs.Common.{length-append, arith}
use Rattle.std.proofs.lemmas.List.{drop_at, get_or_append_left}
use Rattle.std.specs.Option.{option_map}
use Rattle.std.specs.Result.{result_ok}
use Rattle.std.proofs.lemmas.Bool.Decides.{nat_tests}
use Rattle.ep_base.specs.Bytes.{num}
use Rattle.ep_base.specs.declared.net.ip_number.IpNumber.{IpNumber}
use Rattle.ep_ext.specs.Auth.{IsAuth, auth_len}
use Rattle.ep_ext.specs.Chain.{Chain, IsPiece, Row, prefix_of}
use Rattle.ep_ext.specs.Slot.{Order, at_start}
use Rattle.ep_ext.specs.Raw.{IsRawExt, raw_len}
use Rattle.ep_ext.specs.Value.{Piece, bytes_of, slots}
use Rattle.ep_ext.specs.declared.net.ipv6_ext_slot.Ipv6ExtSlot.{Ipv6ExtSlot}
use Rattle.ep_ext.specs.declared.net.ipv6_ext_slot.Ipv6ExtSlot.TheVariants.{HopByHop}
use Rattle.ep_base.specs.declared.err.slice_error.SliceError.{SliceError}
use Rattle.ep_ext.specs.declared.err.ipv6_exts.header_error.HeaderError.{HeaderError}
use Rattle.ep_ipslice.specs.Ipv6Ext.{ext_len, ext_of, piece_of}
use Rattle.ep_ipslice.specs.Ipv6Exts.{Ipv6Exts, IsView, exts_of, slot_after, view_order}
use Rattle.ep_ipslice.specs.Ipv6Walk.{IsLeft, any_order, piece_at_start, pieces_left, pieces_within}
use Rattle.ep_ext.proofs.Found.{prefix_begins}

-- laws of whole headers, as they are called
abbrev pub IsFound : Type 0
IsFound = (slot : Ipv6ExtSlot) (header rest : List ℕ) → IsPiece slot header
    → prefix_of slot (header ++ rest) ≡ Ok header

abbrev pub HasLeast : Type 0
HasLeast = (slot : Ipv6ExtSlot) (header : List ℕ) → IsPiece slot header → 8 ≤ length header

-- no header starts where there are no bytes
none_at_end : (slot : Option Ipv6ExtSlot) → piece_at_start slot [] ≡ None
none_at_end slot = grind arith

no_more : (most : ℕ) (order : Order) (passed : List Ipv6ExtSlot) (number : ℕ) (rest : List ℕ)
    → piece_at_start (order passed number) rest ≡ None
    → pieces_within most order passed number rest ≡ []
unfolding pieces_within
no_more most order passed number rest closed = grind arith

one_more : (most : ℕ) (order : Order) (passed : List Ipv6ExtSlot) (number : ℕ) (bytes : List ℕ)
    (piece : Piece) → piece_at_start (order passed number) bytes ≡ Some piece →
    pieces_within (suc most) order passed number bytes ≡ piece ∷
    pieces_within most order (passed ++ piece.0 ∷ []) (num piece.1 0 1)
    (drop (length piece.1) bytes)
unfolding pieces_within
one_more most order passed number bytes piece prefix = grind arith

pub prefix_open : IsFound → (order : Order) (passed : List Ipv6ExtSlot) (number : ℕ) (piece : Piece)
    (rest : List ℕ) → order passed number ≡ Some piece.0 → IsPiece piece.0 piece.1 →
    piece_at_start (order passed number) (piece.1 ++ rest) ≡ Some piece
prefix_open found order passed number piece rest slot whole = grind arith

-- headers in a row are those that the walk finds, where no header is found after them
pub walk_is : IsFound → HasLeast
    → (most : ℕ) (order : Order) (passed : List Ipv6ExtSlot) (number : ℕ) (pieces : List Piece)
    (last : ℕ) (rest : List ℕ) → Row order passed number pieces last →
    length (bytes_of pieces) ≤ most → piece_at_start (order (passed ++ slots pieces) last) rest ≡ None
    → pieces_within most order passed number (bytes_of pieces ++ rest) ≡ pieces
walk_is found least most order passed number [] last rest row fits closed =
    grind (arith, no_more, append-nil)
walk_is found least zero order passed number (piece ∷ pieces) last rest row fits closed =
    grind (arith, length-append)
walk_is found least (suc most) order passed number (piece ∷ pieces) last rest row fits closed =
    let shorter : length (bytes_of pieces) ≤ most =
    omega (arith, fits, length-append piece.1 (bytes_of pieces), least piece.0 piece.1 row.1) in
    let passed_here : (passed ++ piece.0 ∷ []) ++ slots pieces ≡ passed ++ piece.0 ∷
    slots pieces = append_assoc passed (piece.0 ∷ []) (slots pieces) in
    ap (pieces_within (suc most) order passed number) (append_assoc piece.1 (bytes_of pieces) rest)
    ∙ one_more most order passed number (piece.1 ++ (bytes_of pieces ++ rest)) piece
    (prefix_open found order passed number piece (bytes_of pieces ++ rest) row.0 row.1)
    ∙ ap (λ (xs : List ℕ). piece ∷ pieces_within most order (passed ++ piece.0 ∷ [])
    (num piece.1 0 1) xs) (drop_at piece.1 (bytes_of pieces ++ rest) (length piece.1) refl)
    ∙ ap (λ (ps : List Piece). piece ∷ ps)
    (walk_is found least most order (passed ++ piece.0 ∷ [])
    (num piece.1 0 1) pieces last rest row.2 shorter
    (ap (λ (ps : List Ipv6ExtSlot). piece_at_start (order ps last) rest) passed_here ∙ closed))

-- where the rest starts with no whole header, none is found
none_whole : (slot : Ipv6ExtSlot) (rest : List ℕ) (r : Result (List ℕ) (SliceError HeaderError))
    → prefix_of slot rest ≡ r
    → ((header following : List ℕ) → IsPiece slot header → rest ≡ header ++ following → ⊥) →
    ◌≡◌ {A = Option Piece} (option_map (λ header. (slot, header)) (result_ok r)) None
none_whole slot rest (Ok header) is ended =
    let begins = prefix_begins slot rest header is in
    absurd (ended header begins.1.0 begins.0 begins.1.1)
none_whole slot rest (Err e) is ended = refl

none_found : (slot : Option Ipv6ExtSlot) (rest : List ℕ)
    → ((p : Ipv6ExtSlot) (header following : List ℕ) → slot ≡ Some p → IsPiece p header
    → rest ≡ header ++ following → ⊥) → piece_at_start slot rest ≡ None
none_found slot rest ended = grind (arith, none_whole)

-- headers in a row, as far as the order has a slot for one, are those that the walk finds
pub row_found : IsFound → HasLeast
    → (order : Order) (first : ℕ) (bytes : List ℕ) (pieces : List Piece) (last : ℕ) (rest : List ℕ)
    → Chain order first bytes pieces last rest →
    pieces_within (length bytes) order [] first bytes ≡ pieces
row_found found least order first bytes pieces last rest chain =
    grind (arith, walk_is, length-append, none_found)

any_step : (zero : Bool) (passed : List Ipv6ExtSlot) (r : Option Ipv6ExtSlot)
    (slot : Ipv6ExtSlot) → cond zero (at_start passed) r ≡ Some slot
    → cond zero (Some HopByHop) r ≡ Some slot
any_step true [] r slot open_here = open_here
any_step true (p ∷ ps) r slot open_here = cc
any_step false passed r slot open_here = open_here

-- a header that has a slot has it after any others
row_any : (passed other : List Ipv6ExtSlot) (number : ℕ) (pieces : List Piece) (last : ℕ)
    → Row view_order passed number pieces last → Row any_order other number pieces last
row_any passed other number [] last row = row
row_any passed other number (piece ∷ pieces) last row = (
  any_step (number == 0) passed _ piece.0 row.0,
  row.1,
  row_any (passed ++ piece.0 ∷ [])
      (other ++ piece.0 ∷ []) (num piece.1 0 1) pieces last row.2,
)

-- what is left is the row whose bytes are left
pub left_is : IsFound → HasLeast → (number : ℕ) (bytes : List ℕ) (left : IsLeft number bytes)
    → pieces_left number bytes ≡ left.1
left_is found least number bytes left =
    ap (pieces_left number) (left.4 ∙ sym (append-nil (bytes_of left.1)))
    ∙ walk_is found least (length (bytes_of left.1 ++ [])) any_order [] number left.1 left.2 []
    (row_any left.0 [] number left.1 left.2 left.3)
    (omega (arith, length-append (bytes_of left.1) []))
    (none_at_end (any_order (slots left.1) left.2))

-- the first of the headers that are left
pub record First (number : ℕ) (bytes : List ℕ) : Type 0 where
  pub passed : List Ipv6ExtSlot
  pub piece : Piece
  pub pieces : List Piece
  pub last : ℕ
  pub row : Row view_order passed number (piece ∷ pieces) last
  pub cut : bytes ≡ piece.1 ++ bytes_of pieces

first_in : (number : ℕ) (bytes : List ℕ) (passed : List Ipv6ExtSlot) (pieces : List Piece)
    (last : ℕ) → Row view_order passed number pieces last → bytes ≡ bytes_of pieces →
    (length bytes ≡ 0 → ⊥) → First number bytes
first_in number bytes passed [] last row cut some = absurd (some (ap length cut))
first_in number bytes passed (piece ∷ pieces) last row cut some = grind arith

pub first_of : (number : ℕ) (bytes : List ℕ) → IsLeft number bytes
    → (length bytes ≡ 0 → ⊥) → First number bytes
first_of number bytes left some = first_in number bytes left.0 left.1 left.2 left.3 left.4 some

pub first_has_slot : (number : ℕ) (bytes : List ℕ) (first : First number bytes)
    → slot_after false number ≡ Some first.piece.0
first_has_slot number bytes first = any_step (number == 0) first.passed _ first.piece.0 first.row.0

len_raw : (header rest : List ℕ) → IsRawExt header → raw_len (header ++ rest) ≡ length header
len_raw header rest raw = grind (arith, get_or_append_left)

len_auth : (header rest : List ℕ) → IsAuth header → auth_len (header ++ rest) ≡ length header
len_auth header rest auth = grind (arith, get_or_append_left)

-- a whole header has the length that its own field says, whatever follows it
len_again : (slot : Ipv6ExtSlot) (header rest : List ℕ) → IsPiece slot header
    → ext_len slot (header ++ rest) ≡ length header
len_again slot header rest piece = grind (arith, len_raw, len_auth)

pub first_len : (number : ℕ) (bytes : List ℕ) (first : First number bytes)
    → ext_len first.piece.0 bytes ≡ length first.piece.1
first_len number bytes first = grind (arith, len_again)

-- the first header lies within the bytes that are left
pub first_fits : (number : ℕ) (bytes : List ℕ) (first : First number bytes)
    → length first.piece.1 ≤ length bytes
first_fits number bytes first = grind (arith, length-append)

pub first_piece : (number : ℕ) (bytes : List ℕ) (first : First number bytes)
    → piece_of (ext_of first.piece.0 first.piece.1) ≡ first.piece
first_piece number bytes first = grind arith

pub first_left : IsFound → HasLeast → (number : ℕ) (bytes : List ℕ) (first : First number bytes)
    → pieces_left number bytes ≡ first.piece ∷ first.pieces
first_left found least number bytes first =
    left_is found least number bytes
    (first.passed, first.piece ∷ first.pieces, first.last, first.row, first.cut)

pub row_after_first : (number : ℕ) (bytes : List ℕ) (first : First number bytes)
    → Row view_order (first.passed ++ first.piece.0 ∷ [])
    (num first.piece.1 0 1) first.pieces first.last
row_after_first number bytes first = first.row.2

pub none_left : (number : ℕ) (bytes : List ℕ) → length bytes ≡ 0 → pieces_left number bytes ≡ []
unfolding pieces_within
none_left number bytes len = ap (λ (n : ℕ). pieces_within n any_order [] number bytes) len

pub some_slot : (x y : Ipv6ExtSlot) → ◌≡◌ {A = Option Ipv6ExtSlot} (Some x) (Some y) → x ≡ y
some_slot x y h = cc

-- after the first of the headers that are left come the others
pub left_after : IsFound → HasLeast
    → (number : ℕ) (bytes : List ℕ) (first : First number bytes) (piece : Piece)
    (next : ℕ) (following : List ℕ) →
    piece ≡ first.piece → next ≡ num first.piece.1 0 1 → following ≡ bytes_of first.pieces →
    (pieces_left number bytes ≡ piece ∷ pieces_left next following) × IsLeft next following
left_after found least number bytes first piece next following same named cut =
    let row : Row view_order (first.passed ++ first.piece.0 ∷ []) next first.pieces first.last =
    grind arith in
    let left : IsLeft next following =
    (first.passed ++ first.piece.0 ∷ [], first.pieces, first.last, row, cut) in (
      first_left found least number bytes first
          ∙ (λ i. (sym same i) ∷ (sym (left_is found least next following left) i)),
      left,
    )

first_named : (number : ℕ) (pieces : List Piece) (first : IpNumber)
    → (exts_of number pieces).first_header ≡ Some first → number ≡ first.0
first_named number pieces first is = grind arith

-- an iterator that starts has all headers of its view left
pub view_left : (exts : Ipv6Exts) (first : IpNumber) → IsView exts → exts.first_header ≡ Some first
    → IsLeft first.0 exts.slice
view_left exts first view is = grind (arith, first_named)

pub none_named : (number : ℕ) (pieces : List Piece) → (exts_of number pieces).first_header ≡ None
    → pieces ≡ []
none_named number [] is = refl
none_named number (piece ∷ pieces) is = grind (arith, nat_tests)

-- the headers of a view are those that are left
pub view_pieces : IsFound → HasLeast
    → (exts : Ipv6Exts) (number : IpNumber) (first : ℕ) (pieces : List Piece) (last : ℕ)
    → exts.first_header ≡ Some number →
    Row view_order [] first pieces last → exts ≡ exts_of first pieces
    → pieces_left number.0 exts.slice ≡ pieces
view_pieces found least exts number first pieces last is row seen =
    let named : first ≡ number.0 = grind arith in
    left_is found least number.0 exts.slice (
      [],
      pieces,
      last,
      subst (λ (n : ℕ). Row view_order [] n pieces last) named row,
      ap
          (λ (e : Ipv6Exts). e.slice) seen,
    )
