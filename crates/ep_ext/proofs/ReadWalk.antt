-- The walk over headers in a row that a reader gives.
use Rattle.std.proofs.lemmas.Bool.Decides.{nat_tests}
use Rattle.std.proofs.Common.{◌≡◌, ℕ, ◌+◌, ◌<◌, ◌≤◌, List, ◌∷◌, ◌++◌, length, Option, Some, [], get_or, arith}
use Rattle.std.proofs.Common.{refl, sym, ◌∙◌, subst}
use Rattle.std.proofs.KnownBytes.{Consumes-trans}
use Rattle.std.proofs.lemmas.List.{length-append}
use Rattle.std.specs.Io.KnownBytes.{Consumes}
use Rattle.ep_ext.specs.Limited.{Limited, Takes, at_next_layer}
use Rattle.ep_ext.specs.ReadsExts.{TakesRow, read_layer}
use Rattle.ep_ext.specs.Passed.{Shows, with_slot, slot_after}
use Rattle.ep_ext.specs.Slot.{slot_of}
use Rattle.ep_ext.specs.Value.{Piece, slots, bytes_of, value_of, with_header_in_slot}
use Rattle.ep_ext.specs.Chain.{IsPiece, Row}
use Rattle.ep_ext.specs.declared.net.ipv6_ext_slot.Ipv6ExtSlot.{Ipv6ExtSlot}
use Rattle.ep_ext.specs.declared.net.ipv6_extensions.Ipv6Extensions.{Ipv6Extensions}
use Rattle.ep_ext.specs.declared.net.passed.Passed.{Passed}
use Rattle.ep_ext.proofs.Rows.{row_more, slots_more, bytes_more}
use Rattle.ep_ext.proofs.Values.{open_free, slot_open, final_after_row, value_more}
use Rattle.ep_ext.proofs.PassedFlags.{shows_more}
use Rattle.ep_ext.proofs.Following.{weigh, weigh_added, flag_shown}

-- what the walk keeps: so far headers in a row were read, and P holds of them
pub record Given (P : List Piece → Type 0) (first : ℕ) (value : Ipv6Extensions) (passed : Passed)
    (number : ℕ) : Type 0 where
  pub pieces : List Piece
  pub row : Row slot_of [] first pieces number
  pub shown : Shows passed (slots pieces)
  pub count : length pieces + weigh (λ _. 1) passed ≡ 6
  pub value_is : value ≡ value_of pieces
  pub kept : P pieces

pub given_none : (P : List Piece → Type 0) (first : ℕ) (value : Ipv6Extensions) (passed : Passed) →
    Shows passed [] → value ≡ value_of [] → P [] → Given P first value passed first
given_none P first value passed is empty kept = grind arith

next_slot : (P : List Piece → Type 0) (first : ℕ) (value : Ipv6Extensions) (passed : Passed)
    (number : ℕ) (given : Given P first value passed number) (slot : Option Ipv6ExtSlot) →
    slot_after passed number ≡ slot → slot_of (slots given.pieces) number ≡ slot
next_slot P first value passed number given slot is = grind arith

weigh_less : (P : List Piece → Type 0) (first : ℕ) (value : Ipv6Extensions) (passed : Passed)
    (number : ℕ) (given : Given P first value passed number) (slot : Ipv6ExtSlot) →
    slot_after passed number ≡ Some slot
    → weigh (λ _. 1) (with_slot passed slot) + 1 ≡ weigh (λ _. 1) passed
weigh_less P first value passed number given slot free =
    let free_here = next_slot P first value passed number given (Some slot) free in
    weigh_added (λ _. 1) passed slot
    (flag_shown passed (slots given.pieces) given.shown slot
    ∙ open_free (slots given.pieces) slot
    (slot_open (slots given.pieces) number slot free_here))

pub given_fewer : (P : List Piece → Type 0) (first : ℕ) (value : Ipv6Extensions) (passed : Passed)
    (number : ℕ) (slot : Ipv6ExtSlot) →
    Given P first value passed number → slot_after passed number ≡ Some slot
    → weigh (λ _. 1) (with_slot passed slot) < weigh (λ _. 1) passed
given_fewer P first value passed number slot given free = grind (arith, nat_tests)

pub given_more : (P Q : List Piece → Type 0) (first : ℕ) (value : Ipv6Extensions)
    (passed : Passed) (number : ℕ) →
    (slot : Ipv6ExtSlot) (header : List ℕ) (next : ℕ) (new : Ipv6Extensions) →
    Given P first value passed number → slot_after passed number ≡ Some slot
    → IsPiece slot header →
    next ≡ get_or header 0 0 → new ≡ with_header_in_slot value slot header
    → ((pieces : List Piece) → P pieces → Q (pieces ++ (slot, header) ∷ [])) →
    Given Q first new (with_slot passed slot) next
given_more P Q first value passed number slot header next new given free piece named put_is more =
    let free_here = next_slot P first value passed number given (Some slot) free in
    let final = final_after_row [] first given.pieces number given.row (λ e. e) in
    record {
      pieces = given.pieces ++ (slot, header) ∷ [];
      row = grind (arith, row_more);
      shown = grind (arith, slots_more, shows_more);
      count = omega (
        arith,
        given.count,
        length-append given.pieces
            ((slot, header) ∷ []),
        weigh_less P first value passed number given slot free,
      );
      value_is = grind (arith, value_more, slot_open);
      kept = more given.pieces given.kept;
    }

pub given_most : (P : List Piece → Type 0) (first : ℕ) (value : Ipv6Extensions) (passed : Passed)
    (number : ℕ) (given : Given P first value passed number) → length given.pieces ≤ 6
given_most P first value passed number given = omega (arith, given.count)

pub given_slot : (P : List Piece → Type 0) (first : ℕ) (value : Ipv6Extensions) (passed : Passed)
    (number : ℕ) (given : Given P first value passed number) (slot : Option Ipv6ExtSlot) →
    slot_after passed number ≡ slot → slot_of (slots given.pieces) number ≡ slot
given_slot P first value passed number given slot is = grind arith

-- one more header that was consumed
pub consumes_more : (old between new : Option (List ℕ)) (slot : Ipv6ExtSlot) (header : List ℕ)
    → Consumes between new header →
    (pieces : List Piece) → Consumes old between (bytes_of pieces)
    → Consumes old new (bytes_of (pieces ++ (slot, header) ∷ []))
consumes_more old between new slot header more pieces kept =
    subst (Consumes old new) (sym (bytes_more pieces slot header))
    (Consumes-trans old between new (bytes_of pieces) header kept more)

-- one more header that was taken within the limit
pub takes_row_more : {T : Type 0} (remaining : T → Option (List ℕ)) (old between new : Limited T)
    (pieces : List Piece) (slot : Ipv6ExtSlot) (header : List ℕ) →
    TakesRow remaining old pieces between
    → Takes remaining (at_next_layer between (read_layer slot)) header new
    → TakesRow remaining old (pieces ++ (slot, header) ∷ []) new
takes_row_more {T = T} remaining old between new [] slot header row more = (
  new,
  subst (λ (r : Limited T). Takes remaining (at_next_layer r (read_layer slot)) header new)
      row more,
  refl,
)
takes_row_more remaining old between new (piece ∷ pieces) slot header row more =
    (row.0, row.1, takes_row_more remaining row.0 between new pieces slot header row.2 more)
