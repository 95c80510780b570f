use Rattle.std.proofs.Common.{◌≡◌, ℕ, List, []}
use Rattle.ep_ext.specs.Chain.{Row}
use Rattle.ep_ext.specs.Value.{Piece, piece_at}
use Rattle.ep_ext.specs.declared.net.ipv6_ext_slot.Ipv6ExtSlot.TheVariants.{Fragment}
use Rattle.ep_ipslice.specs.Ipv6Exts.{exts_of, view_order}
use Rattle.ep_ipslice.specs.Ipv6Walk.{headers_left}
use Rattle.ep_ipslice.proofs.net.ipv6_extensions_slice.Ipv6ExtensionsSlice.first_fragment_header.Given as goal

-- the first fragment header is among the headers that are left
abbrev pub invariant-loop-header : goal.invariant-loop-header
invariant-loop-header l =
    (goal.iterator-loop-header).can_next l.header-iterator
    × (goal.iterator-loop-header).is_finite l.header-iterator
    × ((first : ℕ) (pieces : List Piece) (last : ℕ) → Row view_order [] first pieces last
    → l.self ≡ exts_of first pieces
    → piece_at pieces Fragment ≡ piece_at (headers_left l.header-iterator) Fragment)
