-- The extension headers at the start of bytes, one by one (RFC 8200, section 4).
use Rattle.std.specs.Prelude.{◌≡◌, false, ℕ, zero, suc, List, [], ◌∷◌, ◌++◌, length, drop, Option, Some, None}
use Rattle.std.specs.Option.{option_map, option_map_or}
use Rattle.std.specs.Result.{result_ok}
use Rattle.ep_base.specs.Bytes.{num}
use Rattle.ep_ext.specs.Chain.{Row, prefix_of}
use Rattle.ep_ext.specs.Slot.{Order}
use Rattle.ep_ext.specs.Value.{Piece, bytes_of}
use Rattle.ep_ext.specs.declared.net.ipv6_ext_slot.Ipv6ExtSlot.{Ipv6ExtSlot}
use Rattle.ep_ipslice.specs.Ipv6Exts.{slot_after, view_order}

-- the whole header of a slot at the start of the bytes
abbrev pub piece_at_start : Option Ipv6ExtSlot → List ℕ → Option Piece
piece_at_start None bytes = None
piece_at_start (Some slot) bytes =
    option_map (λ header. (slot, header)) (result_ok (prefix_of slot bytes))

-- headers in a row after others, at most so many
unfoldable pub pieces_within : ℕ → Order → List Ipv6ExtSlot → ℕ → List ℕ → List Piece
pieces_within zero order passed number bytes = []
pieces_within (suc most) order passed number bytes =
    option_map_or (λ (piece : Piece). piece ∷
    pieces_within most order (passed ++ piece.0 ∷ []) (num piece.1 0 1)
    (drop (length piece.1) bytes)) (piece_at_start (order passed number) bytes) []

-- the order of headers after others, where none is out of place
abbrev pub any_order : Order
any_order passed number = slot_after false number

-- the headers whose bytes these are: none is empty, so that they are no more than the bytes
abbrev pub pieces_left : ℕ → List ℕ → List Piece
pieces_left number bytes = pieces_within (length bytes) any_order [] number bytes

-- what an iterator over headers holds: the number of the first one that is left, and the bytes of all
-- that are
pub record HeadersLeft : Type 0 where
  pub next_header : ℕ
  pub rest : List ℕ

-- the headers themselves
abbrev pub headers_left : HeadersLeft → List Piece
headers_left left = pieces_left left.next_header left.rest

-- the bytes are headers of a view, in a row after others
abbrev pub IsLeft : ℕ → List ℕ → Type 0
IsLeft number bytes =
    (passed : List Ipv6ExtSlot) × (pieces : List Piece) × (last : ℕ)
    × Row view_order passed number pieces last × (bytes ≡ bytes_of pieces)
