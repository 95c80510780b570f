-- The extension headers of an IPv6 packet, as a view reads them (RFC 8200, sections 4 and 4.1).
use Rattle.std.specs.Prelude.{◌≡◌, ℕ, ◌==◌, if◌then◌else◌, Bool, true, false, List, [], ◌∷◌, Option, Some, None, Result}
use Rattle.std.specs.Prelude.{Ok, Err, length}
use Rattle.std.specs.Borrow.{Bor}
use Rattle.std.specs.List.{list_any}
use Rattle.ep_base.specs.declared.err.layer.Layer.{Layer}
use Rattle.ep_base.specs.declared.net.ip_number.IpNumber.{IpNumber}
use Rattle.ep_ext.specs.Chain.{Row, Fault, fault_of}
use Rattle.ep_ext.specs.Fragment.{fragment_header_of, fragments}
use Rattle.ep_ext.specs.Slot.{Order, at_start}
use Rattle.ep_ext.specs.Value.{Piece, bytes_of}
use Rattle.ep_base.specs.declared.err.slice_error.SliceError.{SliceError}
use Rattle.ep_ext.specs.declared.err.ipv6_exts.header_error.HeaderError.{HeaderError}
use Rattle.ep_ext.specs.declared.net.ipv6_ext_slot.Ipv6ExtSlot.{Ipv6ExtSlot}
use Rattle.ep_ext.specs.declared.net.ipv6_ext_slot.Ipv6ExtSlot.TheVariants.{HopByHop, Destination, Routing, Fragment}
use Rattle.ep_ext.specs.declared.net.ipv6_ext_slot.Ipv6ExtSlot.TheVariants.{Authentication, FinalDestination}

-- the order of a view: hop-by-hop options before all others, and every other header as often as it
-- is named
abbrev pub view_order : Order
view_order passed number =
    if number == 0 then at_start passed else (
    if number == 43 then Some Routing else (
    if number == 44 then Some Fragment else (
    if number == 51 then Some Authentication else (
    if number == 60 then Some Destination else None))))

-- the same slot, where all that matters of the headers before is whether there are any
abbrev pub slot_after : Bool → ℕ → Option Ipv6ExtSlot
slot_after has_header number =
    if number == 0 then (if has_header then None else Some HopByHop) else (
    if number == 43 then Some Routing else (
    if number == 44 then Some Fragment else (
    if number == 51 then Some Authentication else (
    if number == 60 then Some Destination else None))))

abbrev pub is_started : List Piece → Bool
is_started [] = false
is_started (piece ∷ pieces) = true

-- the fragment header of a fragment
abbrev pub is_fragmenting_piece : Piece → Bool
is_fragmenting_piece (HopByHop, header) = false
is_fragmenting_piece (Destination, header) = false
is_fragmenting_piece (Routing, header) = false
is_fragmenting_piece (Fragment, header) = fragments (fragment_header_of header)
is_fragmenting_piece (Authentication, header) = false
is_fragmenting_piece (FinalDestination, header) = false

-- what a view shows: the number of the first header, where there is one, whether a header is the
-- fragment header of a fragment, and the bytes of all headers
pub record Ipv6Exts : Type 0 where
  pub first_header : Option IpNumber
  pub fragmented : Bool
  pub slice : List ℕ

-- the view of these headers, of which the first has this number
abbrev pub exts_of : ℕ → List Piece → Ipv6Exts
exts_of first pieces = record {
  first_header = if length pieces == 0 then None else Some (record { 0 = first });
  fragmented = list_any is_fragmenting_piece pieces;
  slice = bytes_of pieces;
}

-- it is the view of some headers in a row
abbrev pub IsView : Ipv6Exts → Type 0
IsView exts = (first : ℕ) × (pieces : List Piece) × (last : ℕ) × Row view_order [] first pieces last
    × (exts ≡ exts_of first pieces)

-- the parts of a view are those of some headers in a row
abbrev pub IsViewOf : IpNumber → Bool → Bool → List ℕ → Type 0
IsViewOf first has_header fragmented bytes =
    (pieces : List Piece) × (last : ℕ) × Row view_order [] first.0 pieces last
    × (bytes ≡ bytes_of pieces)
    × (has_header ≡ is_started pieces) × (fragmented ≡ list_any is_fragmenting_piece pieces)

-- the results of a call that stops at a fault, and of one that refuses it
pub record Stops (first : ℕ) (pieces : List Piece) (last : ℕ) (rest : List ℕ)
    (answer : Ipv6Exts × IpNumber × Bor (List ℕ) × Option Fault) : Type 0 where
  pub view : answer.0 ≡ exts_of first pieces
  pub number : answer.1.0 ≡ last
  pub left : answer.2.now ≡ rest
  pub fault : answer.3 ≡ fault_of view_order pieces last rest

abbrev pub Answers : ℕ → List Piece → ℕ → List ℕ
    → Result (Ipv6Exts × IpNumber × Bor (List ℕ)) (SliceError HeaderError) → Type 0
Answers first pieces last rest (Ok r) =
    (r.0 ≡ exts_of first pieces) × (r.1.0 ≡ last) × (r.2.now ≡ rest)
    × (fault_of view_order pieces last rest ≡ None)
Answers first pieces last rest (Err e) = (layer : Layer)
    × (fault_of view_order pieces last rest ≡ Some (e, layer))
