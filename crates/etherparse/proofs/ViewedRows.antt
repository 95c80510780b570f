-- The linked extension headers of a value, as a view reads them.
use Rattle.std.proofs.Common.{arith, ◌≡◌, ◌∙◌, ℕ, ◌||◌, Bool, true, false, List, [], ◌∷◌, ◌++◌, Option, Some}
use Rattle.std.proofs.Common.{None, refl, ap, subst}
use Rattle.std.specs.Option.{option_map_or}
use Rattle.std.specs.List.{list_any}
use Rattle.ep_base.specs.Bytes.{num}
use Rattle.ep_ext.specs.Chain.{IsPiece, Row}
use Rattle.ep_ext.specs.Follow.{header_in}
use Rattle.ep_ext.specs.Link.{all_slots, piece_if, pieces_in}
use Rattle.ep_ext.specs.Slot.{slot_of, at_start}
use Rattle.ep_ext.specs.Value.{Piece, bytes_of, piece_at}
use Rattle.ep_ext.specs.declared.net.ipv6_ext_slot.Ipv6ExtSlot.{Ipv6ExtSlot}
use Rattle.ep_ext.specs.declared.net.ipv6_ext_slot.Ipv6ExtSlot.TheVariants.{HopByHop, Destination, Routing, Fragment}
use Rattle.ep_ext.specs.declared.net.ipv6_ext_slot.Ipv6ExtSlot.TheVariants.{Authentication, FinalDestination}
use Rattle.ep_ext.specs.declared.net.ipv6_extensions.Ipv6Extensions.{Ipv6Extensions}
use Rattle.ep_ext.specs.Fragment.{fragments, fragment_header_of}
use Rattle.ep_ipslice.specs.Ipv6Exts.{view_order, is_fragmenting_piece}

-- a view has one slot for destination options
abbrev pub viewed_at : Ipv6ExtSlot → Ipv6ExtSlot
viewed_at HopByHop = HopByHop
viewed_at Destination = Destination
viewed_at Routing = Routing
viewed_at Fragment = Fragment
viewed_at Authentication = Authentication
viewed_at FinalDestination = Destination

abbrev viewed_slots : List Ipv6ExtSlot → List Ipv6ExtSlot
viewed_slots [] = []
viewed_slots (p ∷ ps) = viewed_at p ∷ viewed_slots ps

abbrev pub viewed : List Piece → List Piece
viewed [] = []
viewed (piece ∷ pieces) = (viewed_at piece.0, piece.1) ∷ viewed pieces

viewed_piece : (slot : Ipv6ExtSlot) (header : List ℕ) → IsPiece slot header
    → IsPiece (viewed_at slot) header
viewed_piece HopByHop header is = is
viewed_piece Destination header is = is
viewed_piece Routing header is = is
viewed_piece Fragment header is = is
viewed_piece Authentication header is = is
viewed_piece FinalDestination header is = is

viewed_more : (passed : List Ipv6ExtSlot) (slot : Ipv6ExtSlot)
    → viewed_slots (passed ++ slot ∷ []) ≡ viewed_slots passed ++ viewed_at slot ∷ []
viewed_more [] slot = refl
viewed_more (p ∷ ps) slot = grind (arith, viewed_more ps slot)

prefix_is : (passed : List Ipv6ExtSlot) (found : Ipv6ExtSlot) → at_start passed ≡ Some found
    → at_start (viewed_slots passed) ≡ Some (viewed_at found)
prefix_is passed found is = grind arith

slot_viewed : (passed : List Ipv6ExtSlot) (number : ℕ) (found : Ipv6ExtSlot)
    → slot_of passed number ≡ Some found
    → view_order (viewed_slots passed) number ≡ Some (viewed_at found)
slot_viewed passed number found is = grind arith

row_after : (passed : List Ipv6ExtSlot) (number : ℕ) (pieces : List Piece) (last : ℕ)
    → Row slot_of passed number pieces last
    → Row view_order (viewed_slots passed) number (viewed pieces) last
row_after passed number [] last row = row
row_after passed number (piece ∷ pieces) last row = (
  slot_viewed passed number piece.0 row.0,
  viewed_piece piece.0 piece.1 row.1,
  subst (λ (ps : List Ipv6ExtSlot). Row view_order ps (num piece.1 0 1) (viewed pieces) last)
      (viewed_more passed piece.0)
      (row_after (passed ++ piece.0 ∷ []) (num piece.1 0 1) pieces last row.2),
)

-- headers at slots of one value are headers of a view, with the same bytes
pub row_viewed : (first : ℕ) (pieces : List Piece) (last : ℕ) → Row slot_of [] first pieces last
    → Row view_order [] first (viewed pieces) last
row_viewed first pieces last row = row_after [] first pieces last row

pub bytes_viewed : (pieces : List Piece) → bytes_of (viewed pieces) ≡ bytes_of pieces
bytes_viewed [] = refl
bytes_viewed (piece ∷ pieces) = ap (λ (xs : List ℕ). piece.1 ++ xs) (bytes_viewed pieces)

-- the fragment header among them is the value's, and only it marks a fragment
abbrev fragment_at : List Piece → Option (List ℕ)
fragment_at pieces = piece_at (viewed pieces) Fragment

abbrev pub Reported : List Piece → Option (List ℕ) → Type 0
Reported pieces header = (fragment_at pieces ≡ header)
    × (list_any is_fragmenting_piece (viewed pieces) ≡ option_map_or (λ h. fragments (fragment_header_of h)) header false)

after_hop : (o : Option (List ℕ)) (pieces : List Piece) (header : Option (List ℕ))
    → Reported pieces header → Reported (piece_if HopByHop o pieces) header
after_hop None pieces header stated = stated
after_hop (Some h) pieces header stated = stated

after_destination : (o : Option (List ℕ)) (pieces : List Piece) (header : Option (List ℕ))
    → Reported pieces header → Reported (piece_if Destination o pieces) header
after_destination None pieces header stated = stated
after_destination (Some h) pieces header stated = stated

after_routing : (o : Option (List ℕ)) (pieces : List Piece) (header : Option (List ℕ))
    → Reported pieces header → Reported (piece_if Routing o pieces) header
after_routing None pieces header stated = stated
after_routing (Some h) pieces header stated = stated

at_fragment : (o : Option (List ℕ)) (pieces : List Piece) → Reported pieces None
    → Reported (piece_if Fragment o pieces) o
at_fragment None pieces stated = stated
at_fragment (Some h) pieces stated = (
  refl,
  ap (λ b. fragments (fragment_header_of h) || b) stated.1
      ∙ or_none (fragments (fragment_header_of h)),
)
  where
    or_none : (b : Bool) → (b || false) ≡ b
    or_none true = refl
    or_none false = refl

after_auth : (o : Option (List ℕ)) (pieces : List Piece) (header : Option (List ℕ))
    → Reported pieces header → Reported (piece_if Authentication o pieces) header
after_auth None pieces header stated = stated
after_auth (Some h) pieces header stated = stated

after_final : (o : Option (List ℕ)) → Reported (piece_if FinalDestination o []) None
after_final None = (refl, refl)
after_final (Some h) = (refl, refl)

pub stated_by : (value : Ipv6Extensions)
    → Reported (pieces_in value all_slots) (header_in value Fragment)
stated_by value =
    after_hop (header_in value HopByHop) _ _
    (after_destination (header_in value Destination) _ _
    (after_routing (header_in value Routing) _ _
    (at_fragment (header_in value Fragment) _
    (after_auth (header_in value Authentication) _ None
    (after_final (header_in value FinalDestination))))))
