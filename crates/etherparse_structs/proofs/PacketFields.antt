-- The options and the extension headers of a packet, in its bytes.
use Rattle.std.proofs.Common.{◌≡◌, ◌∙◌, sym, ap, refl, ℕ, ◌+◌, ◌-◌, ◌^◌, ◌<◌, ◌≤◌, ◌==◌, Bool, true, false, List, []}
use Rattle.std.proofs.Common.{◌∷◌, ◌++◌, length, take, drop, Option, Some, Ok, arith}
use Rattle.std.specs.Option.{option_map, option_map_or}
use Rattle.std.specs.Prelude.{if◌then◌else◌}
use Rattle.std.specs.Result.{result_ok}
use Rattle.std.proofs.lemmas.Bool.Decides.{nat_tests}
use Rattle.std.proofs.lemmas.List.{drop-append-le, drop_at, drop-drop, length-drop, take-append-le, take_rest}
use Rattle.std.proofs.Math.Seq.{take-append_seam}
use Rattle.etherparse.specs.base.Bytes.{num}
use Rattle.etherparse.specs.ext.Chain.{IsPiece, Row, prefix_of}
use Rattle.etherparse.specs.ext.Slot.{at_start}
use Rattle.etherparse.specs.ext.Value.{Piece, bytes_of}
use Rattle.etherparse.specs.ext.declared.net.ipv6_ext_slot.Ipv6ExtSlot.{Ipv6ExtSlot}
use Rattle.etherparse.specs.ext.declared.net.ipv6_ext_slot.Ipv6ExtSlot.TheVariants.{HopByHop}
use Rattle.etherparse.specs.ip.Ipv4.{IsIpv4Header}
use Rattle.etherparse.specs.ipslice.Ipv6Exts.{slot_after, view_order}
use Rattle.etherparse.specs.ipslice.Ipv6Walk.{piece_at_start, pieces_left}
use Rattle.etherparse_structs.specs.Extension.{extensions_from, extensions_left}
use Rattle.etherparse_structs.specs.Part.{options_part, part_at, part_bytes}
use Rattle.etherparse_structs.proofs.NextExtension.{first_left, nothing_left}

-- what is taken of bytes that other bytes are before and after
middle : (before part after : List ℕ) → drop (length before) (before ++ (part ++ after)) ≡ part ++ after
middle before part after = drop_at before (part ++ after) (length before) refl

-- of a longer header, what follows its first bytes
after_is : (n size : ℕ) (before bytes after : List ℕ) → n ≤ size → size ≤ length bytes
    → take (size - n) (drop (length before + n) (before ++ (bytes ++ after)))
    ≡ take (size - n) (drop n bytes)
after_is n size before bytes after least fits =
    ap (take (size - n)) (sym (drop-drop n (length before) (before ++ (bytes ++ after)))
    ∙ ap (drop n) (middle before bytes after)
    ∙ drop-append-le n bytes after (omega (arith, least, fits)))
    ∙ take-append-le (size - n) (drop n bytes) after (omega (arith, length-drop n bytes, fits))

pub options_are : (n size : ℕ) (before bytes after : List ℕ) → n ≤ size → size ≤ length bytes
    → length before + n < 2 ^ 64
    → part_bytes (before ++ (bytes ++ after))
    (options_part n (record { offset = length before; len = size }))
    ≡ take (size - n) (drop n bytes)
options_are n size before bytes after least fits near =
    let known = after_is n size before bytes after least fits in grind (arith, nat_tests, known)

pub ipv4_options_are : (before header after : List ℕ) → IsIpv4Header header
    → length before + 20 < 2 ^ 64
    → part_bytes (before ++ (header ++ after)) (options_part 20 (part_at (length before) header))
    ≡ drop 20 header
ipv4_options_are before header after is near =
    options_are 20 (length header) before header after (omega (arith, is.minimum, is.whole))
    (omega arith) near
    ∙ take_rest header 20

-- the law of whole headers, as it is called
abbrev pub AreWhole : Type 0
AreWhole = (slot : Ipv6ExtSlot) (header rest : List ℕ) → IsPiece slot header
    → prefix_of slot (header ++ rest) ≡ Ok header

-- the slot that a view gives a number, whatever came before
slot_by : (is_zero : Bool) (passed : List Ipv6ExtSlot) (r : Option Ipv6ExtSlot) (slot : Ipv6ExtSlot)
    → (if is_zero then at_start passed else r) ≡ Some slot
    → (if is_zero then Some HopByHop else r) ≡ Some slot
slot_by true [] r slot named = named
slot_by true (p ∷ ps) r slot named = cc
slot_by false passed r slot named = named

first_is : AreWhole → (passed : List Ipv6ExtSlot) (number : ℕ) (piece : Piece) (rest : List ℕ)
    → view_order passed number ≡ Some piece.0 → IsPiece piece.0 piece.1
    → piece_at_start (slot_after false number) (piece.1 ++ rest) ≡ Some piece
first_is whole passed number piece rest named is =
    ap (λ (o : Option Ipv6ExtSlot). piece_at_start o (piece.1 ++ rest))
    (slot_by (number == 0) passed _ piece.0 named)
    ∙ ap (λ r. option_map (λ header. (piece.0, header)) (result_ok r)) (whole piece.0 piece.1 rest is)

-- the headers of a row are those that their bytes have left
row_left : AreWhole → (passed : List Ipv6ExtSlot) (number : ℕ) (pieces : List Piece) (last : ℕ)
    → Row view_order passed number pieces last → pieces_left number (bytes_of pieces) ≡ pieces
row_left whole passed number [] last row = nothing_left 0 [] number
row_left whole passed number (piece ∷ pieces) last row =
    let rest = bytes_of pieces in
    first_left number (piece.1 ++ rest)
    ∙ ap (λ (o : Option Piece). option_map_or (λ (p : Piece). p ∷
    pieces_left (num p.1 0 1) (drop (length p.1) (piece.1 ++ rest))) o [])
    (first_is whole passed number piece rest row.0 row.1)
    ∙ ap (λ (xs : List ℕ). piece ∷ pieces_left (num piece.1 0 1) xs)
    (drop_at piece.1 rest (length piece.1) refl)
    ∙ ap (λ (ps : List Piece). piece ∷ ps)
    (row_left whole (passed ++ piece.0 ∷ []) (num piece.1 0 1) pieces last row.2)

pub headers_are : AreWhole → (before after : List ℕ) (first : ℕ) (pieces : List Piece) (last : ℕ)
    → Row view_order [] first pieces last
    → extensions_left (before ++ (bytes_of pieces ++ after))
    (record { left = part_at (length before) (bytes_of pieces); next_header = first })
    ≡ extensions_from (length before) pieces
headers_are whole before after first pieces last row =
    ap (λ (xs : List ℕ). extensions_from (length before) (pieces_left first xs))
    (ap (take (length (bytes_of pieces))) (middle before (bytes_of pieces) after)
    ∙ take-append_seam (bytes_of pieces) after)
    ∙ ap (extensions_from (length before)) (row_left whole [] first pieces last row)
