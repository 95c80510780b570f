-- The extension headers that are left, one after the other.
use Rattle.std.proofs.Common.{◌≡◌, ◌∙◌, sym, ap, subst, refl, ℕ, zero, suc, ◌+◌, ◌<◌, ◌≤◌, false, List, [], ◌∷◌, ◌++◌}
use Rattle.std.proofs.Common.{length, take, drop, Option, Some, None, Result, Ok, Err, arith}
use Rattle.std.proofs.lemmas.List.{length-drop, length-take-le}
use Rattle.std.specs.Iterator.{YieldsFirst}
use Rattle.std.specs.Option.{option_map, option_map_or}
use Rattle.std.specs.Result.{result_ok}
use Rattle.etherparse.specs.base.Bytes.{num}
use Rattle.etherparse.specs.base.declared.err.slice_error.SliceError.{SliceError}
use Rattle.etherparse.specs.ext.Auth.{auth_len}
use Rattle.etherparse.specs.ext.Chain.{prefix_of}
use Rattle.etherparse.specs.ext.Raw.{raw_len}
use Rattle.etherparse.specs.ext.Value.{Piece}
use Rattle.etherparse.specs.ext.declared.err.ipv6_exts.header_error.HeaderError.{HeaderError as ExtsFault}
use Rattle.etherparse.specs.ext.declared.net.ipv6_ext_slot.Ipv6ExtSlot.{Ipv6ExtSlot}
use Rattle.etherparse.specs.ext.declared.net.ipv6_ext_slot.Ipv6ExtSlot.TheVariants as slot
use Rattle.etherparse.specs.ipslice.Ipv6Exts.{slot_after}
use Rattle.etherparse.specs.ipslice.Ipv6Walk.{any_order, piece_at_start, pieces_left, pieces_within}
use Rattle.etherparse_structs.specs.Extension.{extension_struct, extensions_from, extensions_left, first_piece, first_struct}
use Rattle.etherparse_structs.specs.Extension.{left_after, some_extension}
use Rattle.etherparse_structs.specs.Part.{part_bytes}
use Rattle.etherparse_structs.specs.declared.extension.EpExtension.{EpExtension}
use Rattle.etherparse_structs.specs.declared.extension.EpExtensions.{EpExtensions}
use Rattle.etherparse_structs.proofs.LaxNetParts.{auth_is, fragment_is, raw_is}
use Rattle.etherparse_structs.proofs.OptionLemmas.{after_first, part_most}

-- a header that is found has bytes, and they are there
abbrev Fits : List ℕ → List ℕ → Type 0
Fits bytes header = (0 < length header) × (length header ≤ length bytes)

sized : (n : ℕ) (bytes header : List ℕ) → 0 < n → (header ≡ take n bytes) × (n ≤ length bytes)
    → Fits bytes header
sized n bytes header some is =
    let size : length header ≡ n = ap length is.0 ∙ length-take-le n bytes is.1 in
    (omega (arith, size, some), omega (arith, size, is.1))

slot_fits : (slot : Ipv6ExtSlot) (bytes header : List ℕ) → prefix_of slot bytes ≡ Ok header
    → Fits bytes header
slot_fits slot.HopByHop bytes header at =
    sized (raw_len bytes) bytes header (omega arith) (raw_is bytes header (grind arith))
slot_fits slot.Destination bytes header at =
    sized (raw_len bytes) bytes header (omega arith) (raw_is bytes header (grind arith))
slot_fits slot.Routing bytes header at =
    sized (raw_len bytes) bytes header (omega arith) (raw_is bytes header (grind arith))
slot_fits slot.Fragment bytes header at =
    sized 8 bytes header (omega arith) (fragment_is bytes header (grind arith))
slot_fits slot.Authentication bytes header at =
    sized (auth_len bytes) bytes header (omega arith) (auth_is bytes header (grind arith))
slot_fits slot.FinalDestination bytes header at =
    sized (raw_len bytes) bytes header (omega arith) (raw_is bytes header (grind arith))

found_fits : (slot : Ipv6ExtSlot) (bytes : List ℕ) (r : Result (List ℕ) (SliceError ExtsFault))
    (piece : Piece) → prefix_of slot bytes ≡ r
    → ◌≡◌ {A = Option Piece} (option_map (λ header. (slot, header)) (result_ok r)) (Some piece)
    → Fits bytes piece.1
found_fits slot bytes (Ok header) piece at is =
    let found : (slot, header) ≡ piece = cc is in
    subst (λ (p : Piece). Fits bytes p.1) found (slot_fits slot bytes header at)
found_fits slot bytes (Err e) piece at is = cc

piece_fits : (o : Option Ipv6ExtSlot) (bytes : List ℕ) (piece : Piece)
    → piece_at_start o bytes ≡ Some piece → Fits bytes piece.1
piece_fits None bytes piece at = cc
piece_fits (Some slot) bytes piece at =
    found_fits slot bytes (prefix_of slot bytes) piece refl at

none_at_end : (slot : Option Ipv6ExtSlot) → piece_at_start slot [] ≡ None
none_at_end slot = grind arith

-- the headers after the first one
abbrev Following : Type 0
Following = Piece → List Piece

first_case : (o : Option Piece) (f g : Following) → ((piece : Piece) → o ≡ Some piece → f piece ≡ g piece)
    → option_map_or f o [] ≡ option_map_or g o []
first_case None f g each = refl
first_case (Some piece) f g each = each piece refl

pub nothing_left : (n : ℕ) (passed : List Ipv6ExtSlot) (number : ℕ)
    → pieces_within n any_order passed number [] ≡ []
unfolding pieces_within
nothing_left zero passed number = refl
nothing_left (suc n) passed number =
    ap (λ (o : Option Piece). option_map_or (λ piece. piece ∷
    pieces_within n any_order (passed ++ piece.0 ∷ []) (num piece.1 0 1) (drop (length piece.1) [])) o [])
    (none_at_end (any_order passed number))

-- however many steps there may be, if they are enough, and whatever was passed
any_enough : (n m : ℕ) (passed other : List Ipv6ExtSlot) (number : ℕ) (bytes : List ℕ)
    → length bytes ≤ n → length bytes ≤ m
    → pieces_within n any_order passed number bytes ≡ pieces_within m any_order other number bytes
unfolding pieces_within
any_enough n m passed other number [] p q =
    nothing_left n passed number ∙ sym (nothing_left m other number)
any_enough zero m passed other number (b ∷ bytes) p q = absurd (omega (arith, p))
any_enough (suc n) zero passed other number (b ∷ bytes) p q = absurd (omega (arith, q))
any_enough (suc n) (suc m) passed other number (b ∷ bytes) p q =
    first_case (piece_at_start (slot_after false number) (b ∷ bytes))
    (λ piece. piece ∷ pieces_within n any_order (passed ++ piece.0 ∷ []) (num piece.1 0 1)
    (drop (length piece.1) (b ∷ bytes)))
    (λ piece. piece ∷ pieces_within m any_order (other ++ piece.0 ∷ []) (num piece.1 0 1)
    (drop (length piece.1) (b ∷ bytes)))
    (λ piece at.
    let fits = piece_fits (slot_after false number) (b ∷ bytes) piece at in
    let less = length-drop (length piece.1) (b ∷ bytes) in
    ap (λ (pieces : List Piece). piece ∷ pieces)
    (any_enough n m (passed ++ piece.0 ∷ []) (other ++ piece.0 ∷ []) (num piece.1 0 1)
    (drop (length piece.1) (b ∷ bytes)) (omega (arith, fits.0, less, p)) (omega (arith, fits.0, less, q))))

-- the first header, and those that are left after it
pub first_left : (number : ℕ) (bytes : List ℕ) → pieces_left number bytes
    ≡ option_map_or (λ (piece : Piece). piece ∷
    pieces_left (num piece.1 0 1) (drop (length piece.1) bytes))
    (piece_at_start (slot_after false number) bytes) []
unfolding pieces_within
first_left number [] =
    ap (λ (o : Option Piece). option_map_or (λ (piece : Piece). piece ∷
    pieces_left (num piece.1 0 1) (drop (length piece.1) [])) o [])
    (sym (none_at_end (slot_after false number)))
first_left number (b ∷ bytes) =
    first_case (piece_at_start (slot_after false number) (b ∷ bytes))
    (λ piece. piece ∷ pieces_within (length bytes) any_order ([] ++ piece.0 ∷ []) (num piece.1 0 1)
    (drop (length piece.1) (b ∷ bytes)))
    (λ piece. piece ∷ pieces_left (num piece.1 0 1) (drop (length piece.1) (b ∷ bytes)))
    (λ piece at.
    let fits = piece_fits (slot_after false number) (b ∷ bytes) piece at in
    let less = length-drop (length piece.1) (b ∷ bytes) in
    ap (λ (pieces : List Piece). piece ∷ pieces)
    (any_enough (length bytes) (length (drop (length piece.1) (b ∷ bytes))) ([] ++ piece.0 ∷ []) []
    (num piece.1 0 1) (drop (length piece.1) (b ∷ bytes)) (omega (arith, fits.0, less)) (omega arith)))

-- each has a layer
struct_is : (place : ℕ) (piece : Piece)
    → some_extension (extension_struct place piece) ≡ Some (extension_struct place piece)
struct_is place (slot.HopByHop, header) = refl
struct_is place (slot.Destination, header) = refl
struct_is place (slot.Routing, header) = refl
struct_is place (slot.Fragment, header) = refl
struct_is place (slot.Authentication, header) = refl
struct_is place (slot.FinalDestination, header) = refl

-- the header that a step returns is the first of those that were left
step_case : (bytes : List ℕ) (left : EpExtensions) (o : Option Piece) → first_piece bytes left ≡ o
    → YieldsFirst (extensions_left bytes) left
    (some_extension (first_struct left.left.offset o)) (left_after o left)
step_case bytes left None at =
    let none : pieces_left left.next_header (part_bytes bytes left.left) ≡ [] =
    first_left left.next_header (part_bytes bytes left.left)
    ∙ ap (λ (o : Option Piece). option_map_or (λ (piece : Piece). piece ∷
    pieces_left (num piece.1 0 1) (drop (length piece.1) (part_bytes bytes left.left))) o []) at in
    let no_structs = ap (extensions_from left.left.offset) none in (no_structs, no_structs)
step_case bytes left (Some piece) at =
    let options = part_bytes bytes left.left in
    let fits = piece_fits (slot_after false left.next_header) options piece at in
    let after = left_after (Some piece) left in
    let moved : part_bytes bytes after.left ≡ drop (length piece.1) options =
    after_first bytes left.left (length piece.1) (omega (arith, fits.1, part_most bytes left.left)) in
    subst (λ (o : Option EpExtension). YieldsFirst (extensions_left bytes) left o after)
    (sym (struct_is left.left.offset piece))
    (ap (extensions_from left.left.offset)
    (first_left left.next_header options
    ∙ ap (λ (o : Option Piece). option_map_or (λ (piece : Piece). piece ∷
    pieces_left (num piece.1 0 1) (drop (length piece.1) options)) o []) at)
    ∙ ap (λ (xs : List ℕ). extension_struct left.left.offset piece ∷
    extensions_from (left.left.offset + length piece.1) (pieces_left (num piece.1 0 1) xs)) (sym moved))

pub extension_is_first : (bytes : List ℕ) (left after : EpExtensions) (extension : EpExtension)
    → extension ≡ first_struct left.left.offset (first_piece bytes left)
    → after ≡ left_after (first_piece bytes left) left
    → YieldsFirst (extensions_left bytes) left (some_extension extension) after
extension_is_first bytes left after extension is moved =
    subst (λ (e : EpExtension). YieldsFirst (extensions_left bytes) left (some_extension e) after) (sym is)
    (subst (λ (a : EpExtensions). YieldsFirst (extensions_left bytes) left
    (some_extension (first_struct left.left.offset (first_piece bytes left))) a) (sym moved)
    (step_case bytes left (first_piece bytes left) refl))

-- its bytes are among those of the part
pub piece_most : (number : ℕ) (bytes : List ℕ) (piece : Piece)
    → piece_at_start (slot_after false number) bytes ≡ Some piece
    → length piece.1 ≤ length bytes
piece_most number bytes piece at = (piece_fits (slot_after false number) bytes piece at).1

pub struct_len : (place : ℕ) (piece : Piece)
    → ((extension_struct place piece).header.len ≡ length piece.1)
    × ((extension_struct place piece).next_header ≡ num piece.1 0 1)
struct_len place (slot.HopByHop, header) = (refl, refl)
struct_len place (slot.Destination, header) = (refl, refl)
struct_len place (slot.Routing, header) = (refl, refl)
struct_len place (slot.Fragment, header) = (refl, refl)
struct_len place (slot.Authentication, header) = (refl, refl)
struct_len place (slot.FinalDestination, header) = (refl, refl)
