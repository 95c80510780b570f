-- A value that is parsed from headers in a row holds them, encoded again, and names them in that row.
use Rattle.std.proofs.Common.{◌≡◌, ℕ, Bool, true, false, cond, eqb, is_some, ◌||◌, List, ◌∷◌, [], ◌++◌, Option, Some}
use Rattle.std.proofs.Common.{None, Result, IsOkAnd, get_or, arith, refl, sym, ap, ◌∙◌, subst}
use Rattle.std.specs.Prelude.{⊤}
use Rattle.std.proofs.lemmas.Bool.{eq-eqb}
use Rattle.std.proofs.lemmas.List.{length-drop}
use Rattle.std.specs.Option.{option_map, option_and_then}
use Rattle.ep_base.specs.declared.net.ip_number.IpNumber.{IpNumber}
use Rattle.ep_ext.specs.Raw.{IsRawExt, raw_of, raw_encoding}
use Rattle.ep_ext.specs.Fragment.{fragment_header_of, fragment_encoding}
use Rattle.ep_ext.specs.Auth.{auth_of, auth_encoding}
use Rattle.ep_ext.specs.Slot.{rank, is_passed, is_same, slot_of}
use Rattle.ep_ext.specs.Value.{Piece, slots, piece_at, value_of}
use Rattle.ep_ext.specs.Chain.{IsPiece, Row}
use Rattle.ep_ext.specs.Follow.{header_in, AreHeld, Follows, Names, walk_fault, is_left}
use Rattle.ep_ext.specs.declared.err.ipv6_exts.exts_walk_error.ExtsWalkError.{ExtsWalkError}
use Rattle.ep_ext.specs.declared.net.ipv6_ext_slot.Ipv6ExtSlot.{Ipv6ExtSlot}
use Rattle.ep_ext.specs.declared.net.ipv6_ext_slot.Ipv6ExtSlot.TheVariants.{HopByHop, Destination, Routing, Fragment}
use Rattle.ep_ext.specs.declared.net.ipv6_ext_slot.Ipv6ExtSlot.TheVariants.{Authentication, FinalDestination}
use Rattle.ep_ext.specs.declared.net.ipv6_extensions.Ipv6Extensions.{Ipv6Extensions}
use Rattle.ep_ext.specs.declared.net.ipv6_routing_extensions.Ipv6RoutingExtensions.{Ipv6RoutingExtensions}
use Rattle.ep_ext.proofs.Values.{open_free, slot_open, piece_none, passed_same, passed_more, final_after_row}
use Rattle.ep_ext.proofs.Values.{IsFinalAfterRouting, routing_from}
use Rattle.ep_ext.proofs.Linking.{no_left, left_none}

-- the bytes of a header of this slot, encoded again from its fields
abbrev pub reencoded : Ipv6ExtSlot → List ℕ → List ℕ
reencoded HopByHop h = raw_encoding (raw_of h)
reencoded Destination h = raw_encoding (raw_of h)
reencoded Routing h = raw_encoding (raw_of h)
reencoded Fragment h = fragment_encoding (fragment_header_of h)
reencoded Authentication h = auth_encoding (auth_of h)
reencoded FinalDestination h = raw_encoding (raw_of h)

raw_reencoded : (h : List ℕ) → IsRawExt h → IsRawExt (raw_encoding (raw_of h))
raw_reencoded h piece = record {
  least = omega (arith, length-drop 2 h, piece.least);
  whole = omega (arith, length-drop 2 h, piece.least, piece.whole);
}

pub reencoded_piece : (p : Ipv6ExtSlot) (h : List ℕ) → IsPiece p h → IsPiece p (reencoded p h)
reencoded_piece HopByHop h piece = raw_reencoded h piece
reencoded_piece Destination h piece = raw_reencoded h piece
reencoded_piece Routing h piece = raw_reencoded h piece
reencoded_piece Fragment h piece = record { whole = refl }
reencoded_piece Authentication h piece = record {
  least = omega arith;
  whole = omega (arith, length-drop 12 h, piece.least, piece.whole);
}
reencoded_piece FinalDestination h piece = raw_reencoded h piece

first_same : (p : Ipv6ExtSlot) (h : List ℕ) → get_or (reencoded p h) 0 0 ≡ get_or h 0 0
first_same p h = grind arith

abbrev pub reencode : List Piece → List Piece
reencode [] = []
reencode (x ∷ xs) = (x.0, reencoded x.0 x.1) ∷ reencode xs

pub slots_reencode : (xs : List Piece) → slots (reencode xs) ≡ slots xs
slots_reencode [] = refl
slots_reencode (x ∷ xs) = ap (λ (ps : List Ipv6ExtSlot). x.0 ∷ ps) (slots_reencode xs)

pub row_reencode : (passed : List Ipv6ExtSlot) (number : ℕ) (xs : List Piece) (last : ℕ)
    → Row slot_of passed number xs last → Row slot_of passed number (reencode xs) last
row_reencode passed number [] last row = row
row_reencode passed number (x ∷ xs) last row = (
  row.0,
  reencoded_piece x.0 x.1 row.1,
  subst (λ (n : ℕ). Row slot_of (passed ++ x.0 ∷ []) n (reencode xs) last)
      (sym (first_same x.0 x.1)) (row_reencode (passed ++ x.0 ∷ []) _ xs last row.2),
)

-- the header in the slot of each list element is that element's
abbrev AreAt : List Piece → List Piece → Type 0
AreAt all [] = ⊤
AreAt all (x ∷ xs) = (piece_at all x.0 ≡ Some x.1) × AreAt all xs

apart : (passed : List Ipv6ExtSlot) (q p : Ipv6ExtSlot) (b : Bool) → eqb (rank q) (rank p) ≡ b
    → is_passed passed q ≡ true → is_passed passed p ≡ false → b ≡ false
apart passed q p b e there free = grind arith

at_more : (passed : List Ipv6ExtSlot) (number : ℕ) (x : Piece) (all xs : List Piece) (last : ℕ)
    → Row slot_of passed number xs last → is_passed passed x.0 ≡ true
    → AreAt all xs → AreAt (x ∷ all) xs
at_more passed number x all [] last row there at = tt
at_more passed number x all (y ∷ ys) last row there at =
    let free = open_free passed y.0 (slot_open passed number y.0 row.0) in
    let other : eqb (rank x.0) (rank y.0) ≡ false =
    apart passed x.0 y.0 (eqb (rank x.0) (rank y.0)) refl there free in (
      ap (λ (b : Bool). cond b (Some x.1) (piece_at all y.0)) other ∙ at.0,
      at_more (passed ++ y.0 ∷ []) _ x all ys last row.2 (kept_passed passed y.0 x.0 there) at.1,
    )
  where
    kept_passed : (passed : List Ipv6ExtSlot) (p q : Ipv6ExtSlot) → is_passed passed q ≡ true
        → is_passed (passed ++ p ∷ []) q ≡ true
    kept_passed passed p q e = passed_more passed p q ∙ ap (λ (b : Bool). is_same p q || b) e
        ∙ or_true (is_same p q)
      where
        or_true : (b : Bool) → (b || true) ≡ true
        or_true true = refl
        or_true false = refl

row_at : (passed : List Ipv6ExtSlot) (number : ℕ) (xs : List Piece) (last : ℕ)
    → Row slot_of passed number xs last → AreAt xs xs
row_at passed number [] last row = tt
row_at passed number (x ∷ xs) last row = (
  grind arith,
  grind (arith, row_at (passed ++ x.0 ∷ []) _ xs last row.2, at_more, passed_same, eq-eqb),
)

final_read : (r f : Option (List ℕ)) → (is_some f ≡ true → is_some r ≡ true) →
    option_and_then {T = Ipv6RoutingExtensions}
    (λ x. option_map raw_encoding x.final_destination_options) (routing_from r f)
    ≡ option_map (λ h. raw_encoding (raw_of h)) f
final_read r f following = grind arith

raw_read : (o : Option (List ℕ)) → option_map raw_encoding (option_map raw_of o)
    ≡ option_map (λ h. raw_encoding (raw_of h)) o
raw_read o = grind arith

fragment_read : (o : Option (List ℕ))
    → option_map fragment_encoding (option_map fragment_header_of o)
    ≡ option_map (λ h. fragment_encoding (fragment_header_of h)) o
fragment_read o = grind arith

auth_read : (o : Option (List ℕ)) → option_map auth_encoding (option_map auth_of o)
    ≡ option_map (λ h. auth_encoding (auth_of h)) o
auth_read o = grind arith

some_passed : (pieces : List Piece) (q : Ipv6ExtSlot)
    → is_some (piece_at pieces q) ≡ is_passed (slots pieces) q
some_passed [] q = refl
some_passed (x ∷ xs) q = grind (arith, some_passed xs q)

-- what the value of some headers holds is these headers, encoded again
pub held_read : (pieces : List Piece) (p : Ipv6ExtSlot) → IsFinalAfterRouting (slots pieces)
    → header_in (value_of pieces) p ≡ option_map (reencoded p) (piece_at pieces p)
held_read pieces HopByHop following = raw_read (piece_at pieces HopByHop)
held_read pieces Destination following = raw_read (piece_at pieces Destination)
held_read pieces Routing following = grind arith
held_read pieces Fragment following = fragment_read (piece_at pieces Fragment)
held_read pieces Authentication following = auth_read (piece_at pieces Authentication)
held_read pieces FinalDestination following =
    final_read (piece_at pieces Routing) (piece_at pieces FinalDestination)
    (λ e. some_passed pieces Routing ∙ following (sym (some_passed pieces FinalDestination) ∙ e))

held_reencode : (all xs : List Piece) → IsFinalAfterRouting (slots all) → AreAt all xs
    → AreHeld (value_of all) (reencode xs)
held_reencode all [] following at = tt
held_reencode all (x ∷ xs) following at = (
  grind (arith, held_read),
  held_reencode all xs following at.1,
)

not_there : (pieces : List Piece) (q : Ipv6ExtSlot) → IsFinalAfterRouting (slots pieces)
    → is_passed (slots pieces) q ≡ false → header_in (value_of pieces) q ≡ None
not_there pieces q following e = grind (arith, held_read, piece_none)

pub follows_read : (first : ℕ) (pieces : List Piece) (last : ℕ) → Row slot_of [] first pieces last
    → Follows (value_of pieces) first (reencode pieces) last
follows_read first pieces last row =
    let following : IsFinalAfterRouting (slots pieces) = final_after_row [] first pieces last row (λ e. e) in
    record {
      row = row_reencode [] first pieces last row;
      headers = held_reencode pieces pieces following (row_at [] first pieces last row);
      ended = grind (arith, not_there, slots_reencode, open_free, slot_open);
    }

pub whole_read : (first : ℕ) (pieces : List Piece) (last : ℕ) → Row slot_of [] first pieces last
    → walk_fault (value_of pieces) (reencode pieces) last ≡ None
whole_read first pieces last row =
    let following : IsFinalAfterRouting (slots pieces) = final_after_row [] first pieces last row (λ e. e) in
    no_left (is_left (value_of pieces) (slots (reencode pieces))) last
    (λ p. left_none (header_in (value_of pieces) p) (is_passed (slots (reencode pieces)) p)
    (λ e. not_there pieces p following
    (sym (ap (λ (ps : List Ipv6ExtSlot). is_passed ps p) (slots_reencode pieces)) ∙ e)))

pub named_ok : (value : Ipv6Extensions) (pieces : List Piece) (last : ℕ)
    (answer : Result IpNumber ExtsWalkError) → Names value pieces last answer
    → walk_fault value pieces last ≡ None → IsOkAnd answer (λ n. n.0 ≡ last)
named_ok value pieces last answer names none = grind arith

pub read_named : (value : Ipv6Extensions) (first : ℕ) (answer : Result IpNumber ExtsWalkError) →
    ((pieces : List Piece) (last : ℕ) → Follows value first pieces last
    → Names value pieces last answer) →
    (pieces : List Piece) (last : ℕ) → Row slot_of [] first pieces last → value ≡ value_of pieces
    → IsOkAnd answer (λ n. n.0 ≡ last)
read_named value first answer only pieces last row is =
    let follows : Follows value first (reencode pieces) last =
    grind (arith, is, follows_read first pieces last row) in
    let whole : walk_fault value (reencode pieces) last ≡ None =
    grind (arith, whole_read) in
    named_ok value (reencode pieces) last answer (only (reencode pieces) last follows) whole
