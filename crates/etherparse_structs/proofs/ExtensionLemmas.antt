-- The extension headers of an IPv6 packet's view.
use Rattle.std.proofs.Common.{◌≡◌, ◌∙◌, sym, ap, subst, refl, ℕ, ◌≤◌, ◌==◌, Bool, true, false, List, [], ◌∷◌, length, Option}
use Rattle.std.proofs.Common.{Some, None, arith, length-append}
use Rattle.std.specs.Prelude.{if◌then◌else◌}
use Rattle.std.proofs.lemmas.List.{append-nil}
use Rattle.std.specs.Option.{option_map}
use Rattle.etherparse.specs.ext.Chain.{Chain, IsEnd, IsPiece, Row}
use Rattle.etherparse.specs.ext.Slot.{Order}
use Rattle.etherparse.specs.ext.Value.{Piece, bytes_of, slots}
use Rattle.etherparse.specs.ext.declared.net.ipv6_ext_slot.Ipv6ExtSlot.{Ipv6ExtSlot}
use Rattle.etherparse.specs.ipslice.Ipv6Exts.{Ipv6Exts, IsView, exts_of, view_order}
use Rattle.etherparse.specs.ipslice.Ipv6Walk.{pieces_within}
use Rattle.etherparse.specs.ipslice.Packet.{fragment_fields, ipv6_fragment_fields}
use Rattle.etherparse_structs.specs.Net.{extensions_after, extensions_in, fragment_fields_in}

-- no header is empty
abbrev HasLeast : Type 0
HasLeast = (slot : Ipv6ExtSlot) (header : List ℕ) → IsPiece slot header → 8 ≤ length header

-- headers in a row before a rest are found
abbrev AreFound : Type 0
AreFound = (order : Order) (first : ℕ) (bytes : List ℕ) (pieces : List Piece) (last : ℕ)
    (rest : List ℕ) → Chain order first bytes pieces last rest
    → pieces_within (length bytes) order [] first bytes ≡ pieces

nothing_starts : HasLeast → (order : Order) (passed : List Ipv6ExtSlot) (last : ℕ)
    → IsEnd order passed last []
nothing_starts least order passed last slot header following taken is same =
    omega (arith, least slot header is, ap length same, length-append header following)

row_alone : HasLeast → (order : Order) (first : ℕ) (pieces : List Piece) (last : ℕ)
    → Row order [] first pieces last → Chain order first (bytes_of pieces) pieces last []
row_alone least order first pieces last row = record {
  row = row;
  cut = sym (append-nil (bytes_of pieces));
  ended = nothing_starts least order (slots pieces) last;
}

-- where a header stands, the number of the first one leads to all
started_extensions : (none : Bool) (first : ℕ) (bytes : List ℕ) (pieces : List Piece) → none ≡ false
    → pieces_within (length bytes) view_order [] first bytes ≡ pieces
    → extensions_after (if none then None else Some (record { 0 = first })) bytes ≡ pieces
started_extensions true first bytes pieces some found = cc
started_extensions false first bytes pieces some found = found

extensions_are : HasLeast → AreFound → (exts : Ipv6Exts) (first : ℕ) (pieces : List Piece) (last : ℕ)
    → Row view_order [] first pieces last → exts ≡ exts_of first pieces → extensions_in exts ≡ pieces
extensions_are least found exts first [] last row is =
    subst (λ (e : Ipv6Exts). extensions_in e ≡ []) (sym is) refl
extensions_are least found exts first (piece ∷ pieces) last row is =
    let some : (length (piece ∷ pieces) == 0) ≡ false = grind arith in
    subst (λ (e : Ipv6Exts). extensions_in e ≡ piece ∷ pieces) (sym is)
    (started_extensions (length (piece ∷ pieces) == 0) first (bytes_of (piece ∷ pieces)) (piece ∷ pieces)
    some (found view_order first (bytes_of (piece ∷ pieces)) (piece ∷ pieces) last []
    (row_alone least view_order first (piece ∷ pieces) last row)))

-- what the first fragment header of any row with this view says is what the view says
pub fragment_is : HasLeast → AreFound → (exts : Ipv6Exts) → IsView exts → (o : Option (ℕ × ℕ × Bool))
    → ((first : ℕ) (pieces : List Piece) (last : ℕ) → Row view_order [] first pieces last
    → exts ≡ exts_of first pieces → ipv6_fragment_fields pieces ≡ option_map fragment_fields o)
    → option_map fragment_fields o ≡ fragment_fields_in exts
fragment_is least found exts (first, pieces, last, row, is) o each =
    sym (each first pieces last row is)
    ∙ ap ipv6_fragment_fields (sym (extensions_are least found exts first pieces last row is))
