-- The headers that a walk over a slice has found, as the code keeps them.
use Rattle.std.specs.Prelude.{◌≡◌, ℕ, if◌then◌else◌, List, Option, Some}
use Rattle.std.specs.Borrow.{Bor}
use Rattle.ep_base.specs.declared.net.ip_number.IpNumber.{IpNumber}
use Rattle.ep_ext.specs.Chain.{Fault, fault_of}
use Rattle.ep_ext.specs.Slot.{is_same, slot_of}
use Rattle.ep_ext.specs.Value.{Piece, piece_at}
use Rattle.ep_ext.specs.declared.net.borrowed_extensions.BorrowedExtensions.{BorrowedExtensions}
use Rattle.ep_ext.specs.declared.net.ipv6_ext_slot.Ipv6ExtSlot.{Ipv6ExtSlot}
use Rattle.ep_ext.specs.declared.net.ipv6_ext_slot.Ipv6ExtSlot.TheVariants.{HopByHop, Destination, Routing, Fragment}
use Rattle.ep_ext.specs.declared.net.ipv6_ext_slot.Ipv6ExtSlot.TheVariants.{Authentication, FinalDestination}

-- each of the headers in its slot
abbrev pub headers_of : List Piece → BorrowedExtensions
headers_of pieces = record {
  hop_by_hop_options = piece_at pieces HopByHop;
  destination_options = piece_at pieces Destination;
  routing = piece_at pieces Routing;
  fragment = piece_at pieces Fragment;
  auth = piece_at pieces Authentication;
  final_destination_options = piece_at pieces FinalDestination;
}

abbrev pub Holds : BorrowedExtensions → List Piece → Type 0
Holds headers pieces = headers ≡ headers_of pieces

-- these with this header in this slot
abbrev pub with_slice_at : BorrowedExtensions → Ipv6ExtSlot → List ℕ → BorrowedExtensions
with_slice_at headers slot header = record {
  hop_by_hop_options = if is_same slot HopByHop then Some header else headers.hop_by_hop_options;
  destination_options = if is_same slot Destination then Some header
      else headers.destination_options;
  routing = if is_same slot Routing then Some header else headers.routing;
  fragment = if is_same slot Fragment then Some header else headers.fragment;
  auth = if is_same slot Authentication then Some header else headers.auth;
  final_destination_options = if is_same slot FinalDestination then Some header
      else headers.final_destination_options;
}

-- the walk over these headers has found them and stopped
pub record Finds (pieces : List Piece) (last : ℕ) (rest : List ℕ) (headers : BorrowedExtensions)
    (answer : IpNumber × Bor (List ℕ) × Option Fault) : Type 0 where
  pub held : Holds headers pieces
  pub number : answer.0.0 ≡ last
  pub left : answer.1.now ≡ rest
  pub fault : answer.2 ≡ fault_of slot_of pieces last rest
