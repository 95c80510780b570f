-- Headers in slots of one value, as a view takes them.
use Rattle.std.proofs.Common.{arith, ◌≡◌, ◌∙◌, ℕ, ◌==◌, ◌||◌, Bool, true, false, cond, List, ◌∷◌, ◌++◌, [], Some, None}
use Rattle.std.proofs.Common.{refl, ap, subst}
use Rattle.std.specs.Option.{option_map, option_map_or}
use Rattle.std.proofs.lemmas.List.Folds.{list_any-append}
use Rattle.std.specs.List.{list_any}
use Rattle.ep_base.specs.Bytes.{num}
use Rattle.ep_ext.specs.Chain.{IsPiece, Row}
use Rattle.ep_ext.specs.Fragment.{fragment_header_of, fragments}
use Rattle.ep_ext.specs.Slot.{is_passed, slot_of, at_start}
use Rattle.ep_ext.specs.Value.{Piece, bytes_of, piece_at}
use Rattle.ep_ext.specs.declared.net.ipv6_ext_slot.Ipv6ExtSlot.{Ipv6ExtSlot}
use Rattle.ep_ext.specs.declared.net.ipv6_ext_slot.Ipv6ExtSlot.TheVariants.{HopByHop, Destination, Routing, Fragment}
use Rattle.ep_ext.specs.declared.net.ipv6_ext_slot.Ipv6ExtSlot.TheVariants.{Authentication, FinalDestination}
use Rattle.ep_ipslice.specs.Ipv6Exts.{view_order, is_fragmenting_piece}

-- a view has one slot for destination options
seen_at : Ipv6ExtSlot → Ipv6ExtSlot
seen_at HopByHop = HopByHop
seen_at Destination = Destination
seen_at Routing = Routing
seen_at Fragment = Fragment
seen_at Authentication = Authentication
seen_at FinalDestination = Destination

seen_slots : List Ipv6ExtSlot → List Ipv6ExtSlot
seen_slots [] = []
seen_slots (p ∷ ps) = seen_at p ∷ seen_slots ps

seen : List Piece → List Piece
seen [] = []
seen (piece ∷ pieces) = (seen_at piece.0, piece.1) ∷ seen pieces

seen_piece : (slot : Ipv6ExtSlot) (header : List ℕ) → IsPiece slot header
    → IsPiece (seen_at slot) header
unfolding seen_at
seen_piece HopByHop header is = is
seen_piece Destination header is = is
seen_piece Routing header is = is
seen_piece Fragment header is = is
seen_piece Authentication header is = is
seen_piece FinalDestination header is = is

seen_more : (passed : List Ipv6ExtSlot) (slot : Ipv6ExtSlot)
    → seen_slots (passed ++ slot ∷ []) ≡ seen_slots passed ++ seen_at slot ∷ []
unfolding seen_slots
seen_more [] slot = refl
seen_more (p ∷ ps) slot = ap (λ (xs : List Ipv6ExtSlot). seen_at p ∷ xs) (seen_more ps slot)

once_is : (taken : Bool) (slot found : Ipv6ExtSlot)
    → cond taken None (Some slot) ≡ Some found → slot ≡ found
once_is taken slot found is = grind arith

prefix_is : (passed : List Ipv6ExtSlot) (found : Ipv6ExtSlot) → at_start passed ≡ Some found
    → at_start (seen_slots passed) ≡ Some (seen_at found)
unfolding seen_slots seen_at
prefix_is passed found is = grind arith

-- a slot that a value has for a number is one that a view has
slot_seen_at : (zero routing fragment auth destination following : Bool) (r f a fd d : Bool)
    (passed : List Ipv6ExtSlot) (found : Ipv6ExtSlot) →
    cond zero (at_start passed)
    (cond routing (cond r None (Some Routing))
    (cond fragment (cond f None (Some Fragment))
    (cond auth (cond a None (Some Authentication))
    (cond destination (cond following (cond fd None (Some FinalDestination))
    (cond d None (Some Destination))) None)))) ≡ Some found →
    cond zero (at_start (seen_slots passed))
    (cond routing (Some Routing)
    (cond fragment (Some Fragment)
    (cond auth (Some Authentication) (cond destination (Some Destination) None))))
    ≡ Some (seen_at found)
unfolding seen_at
slot_seen_at zero routing fragment auth destination following r f a fd d passed found is =
    grind (arith, prefix_is, seen_at, once_is)

slot_seen : (passed : List Ipv6ExtSlot) (number : ℕ) (found : Ipv6ExtSlot)
    → slot_of passed number ≡ Some found
    → view_order (seen_slots passed) number ≡ Some (seen_at found)
slot_seen passed number found is =
    slot_seen_at (number == 0) (number == 43) (number == 44) (number == 51) (number == 60)
    (is_passed passed Routing) (is_passed passed Routing) (is_passed passed Fragment)
    (is_passed passed Authentication)
    (is_passed passed FinalDestination) (is_passed passed Destination) passed found is

row_seen : (passed : List Ipv6ExtSlot) (number : ℕ) (pieces : List Piece) (last : ℕ)
    → Row slot_of passed number pieces last
    → Row view_order (seen_slots passed) number (seen pieces) last
unfolding seen
row_seen passed number [] last row = row
row_seen passed number (piece ∷ pieces) last row = (
  slot_seen passed number piece.0 row.0,
  seen_piece piece.0 piece.1 row.1,
  subst (λ (ps : List Ipv6ExtSlot). Row view_order ps (num piece.1 0 1) (seen pieces) last)
      (seen_more passed piece.0)
      (row_seen (passed ++ piece.0 ∷ []) (num piece.1 0 1) pieces last row.2),
)

bytes_seen : (pieces : List Piece) → bytes_of (seen pieces) ≡ bytes_of pieces
unfolding seen
bytes_seen [] = refl
bytes_seen (piece ∷ pieces) = ap (λ (xs : List ℕ). piece.1 ++ xs) (bytes_seen pieces)

passed_more : (passed : List Ipv6ExtSlot) (slot : Ipv6ExtSlot) → is_passed passed Fragment ≡ true
    → is_passed (passed ++ slot ∷ []) Fragment ≡ true
passed_more passed slot is = grind (arith, list_any-append)

passed_last : (passed : List Ipv6ExtSlot) → is_passed (passed ++ Fragment ∷ []) Fragment ≡ true
passed_last passed = grind (arith, list_any-append)

or_none : (b : Bool) → (b || false) ≡ b
or_none b = grind arith

none_after : (passed : List Ipv6ExtSlot) (number : ℕ) (pieces : List Piece) (last : ℕ)
    → is_passed passed Fragment ≡ true → Row slot_of passed number pieces last
    → list_any is_fragmenting_piece (seen pieces) ≡ false
unfolding seen seen_at
none_after passed number [] last taken row = refl
none_after passed number ((HopByHop, header) ∷ pieces) last taken row =
    grind (arith, none_after (passed ++ HopByHop ∷ []) (num header 0 1) pieces last)
none_after passed number ((Destination, header) ∷ pieces) last taken row =
    none_after (passed ++ Destination ∷ []) (num header 0 1) pieces last
    (passed_more passed Destination taken) row.2
none_after passed number ((Routing, header) ∷ pieces) last taken row =
    grind (arith, none_after (passed ++ Routing ∷ []) (num header 0 1) pieces last, passed_more)
none_after passed number ((Fragment, header) ∷ pieces) last taken row = grind arith
none_after passed number ((Authentication, header) ∷ pieces) last taken row =
    none_after (passed ++ Authentication ∷ []) (num header 0 1) pieces last
    (passed_more passed Authentication taken) row.2
none_after passed number ((FinalDestination, header) ∷ pieces) last taken row =
    none_after (passed ++ FinalDestination ∷ []) (num header 0 1) pieces last
    (passed_more passed FinalDestination taken) row.2

abbrev IsSaid : List Piece → Type 0
IsSaid pieces = list_any is_fragmenting_piece (seen pieces)
    ≡ option_map_or fragments (option_map fragment_header_of (piece_at pieces Fragment)) false

fragments_seen : (passed : List Ipv6ExtSlot) (number : ℕ) (pieces : List Piece) (last : ℕ)
    → Row slot_of passed number pieces last → IsSaid pieces
unfolding seen seen_at
fragments_seen passed number [] last row = refl
fragments_seen passed number ((HopByHop, header) ∷ pieces) last row =
    fragments_seen (passed ++ HopByHop ∷ []) (num header 0 1) pieces last row.2
fragments_seen passed number ((Destination, header) ∷ pieces) last row =
    fragments_seen (passed ++ Destination ∷ []) (num header 0 1) pieces last row.2
fragments_seen passed number ((Routing, header) ∷ pieces) last row =
    fragments_seen (passed ++ Routing ∷ []) (num header 0 1) pieces last row.2
fragments_seen passed number ((Fragment, header) ∷ pieces) last row =
    ap (λ (b : Bool). fragments (fragment_header_of header) || b)
    (none_after (passed ++ Fragment ∷ []) (num header 0 1) pieces last
    (passed_last passed) row.2) ∙ or_none (fragments (fragment_header_of header))
fragments_seen passed number ((Authentication, header) ∷ pieces) last row =
    fragments_seen (passed ++ Authentication ∷ []) (num header 0 1) pieces last row.2
fragments_seen passed number ((FinalDestination, header) ∷ pieces) last row =
    fragments_seen (passed ++ FinalDestination ∷ []) (num header 0 1) pieces last row.2

-- headers in slots of one value are headers of a view
pub row_in_slots : (first : ℕ) (pieces : List Piece) (last : ℕ) → Row slot_of [] first pieces last →
    (q : List Piece) × Row view_order [] first q last × (bytes_of q ≡ bytes_of pieces)
    × (list_any is_fragmenting_piece q ≡ option_map_or fragments
    (option_map fragment_header_of (piece_at pieces Fragment)) false)
unfolding seen_slots
row_in_slots first pieces last row = grind (arith, seen, row_seen, bytes_seen, fragments_seen)
