-- The borrowed headers that a walk over a slice has found, with one more of them.
use Rattle.std.proofs.Common.{arith, ◌≡◌, ℕ, List, ◌∷◌, ◌++◌, []}
use Rattle.ep_ext.specs.Borrowed.{Holds, headers_of, with_slice_at}
use Rattle.ep_ext.specs.Value.{Piece, slots}
use Rattle.ep_ext.specs.declared.net.borrowed_extensions.BorrowedExtensions.{BorrowedExtensions}
use Rattle.ep_ext.specs.declared.net.ipv6_ext_slot.Ipv6ExtSlot.{Ipv6ExtSlot}
use Rattle.ep_ext.proofs.Values.{IsOpen, piece_more}

-- one more header, in a slot that is free
pub holds_more : (headers : BorrowedExtensions) (pieces : List Piece) (slot : Ipv6ExtSlot)
    (header : List ℕ) → Holds headers pieces → IsOpen (slots pieces) slot
    → Holds (with_slice_at headers slot header) (pieces ++ (slot, header) ∷ [])
holds_more headers pieces slot header held free =
    let more = piece_more pieces slot header free in
    let all : with_slice_at (headers_of pieces) slot header ≡ headers_of (pieces ++ (
      slot,
      header,
    ) ∷ []) =
    grind arith in
    grind arith
