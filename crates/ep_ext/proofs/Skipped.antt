-- Headers in a row, as the walk that skips them sees them.
use Rattle.std.proofs.Common.{◌≡◌, ℕ, true, false, eqb, List, ◌∷◌, ◌++◌, Some, Result, Ok, [], Bor, IsOkAnd, length}
use Rattle.std.proofs.Common.{arith, refl, sym, ap, ◌∙◌, ⊎_elim}
use Rattle.std.specs.Prelude.{IsTrue}
use Rattle.std.specs.List.{concat}
use Rattle.std.proofs.lemmas.Bool.{eqb-true}
use Rattle.ep_base.specs.declared.err.len_error.LenError.{LenError}
use Rattle.ep_base.specs.declared.net.ip_number.IpNumber.{IpNumber}
use Rattle.ep_ip.specs.Skip.{IsWhole, Skips, Walk, Gives, is_skipped, outcome, skip}
use Rattle.ep_ext.specs.Slot.{Order, KeepsNumbers, slot_number, is_passed, once, at_start, slot_of}
use Rattle.ep_ext.specs.Value.{Piece, bytes_of}
use Rattle.ep_ext.specs.Chain.{IsPiece, Row, Chain}
use Rattle.ep_ext.specs.declared.net.ipv6_ext_slot.Ipv6ExtSlot.{Ipv6ExtSlot}
use Rattle.ep_ext.specs.declared.net.ipv6_ext_slot.Ipv6ExtSlot.TheVariants.{HopByHop, Destination, Routing, Fragment}
use Rattle.ep_ext.specs.declared.net.ipv6_ext_slot.Ipv6ExtSlot.TheVariants.{Authentication, FinalDestination}
use Rattle.std.proofs.lemmas.Option.{none-some}
use Rattle.ep_ext.proofs.Values.{one_of}

abbrev headers_of : List Piece → List (List ℕ)
headers_of [] = []
headers_of (piece ∷ pieces) = piece.1 ∷ headers_of pieces

concat_headers : (pieces : List Piece) → concat (headers_of pieces) ≡ bytes_of pieces
concat_headers [] = refl
concat_headers (piece ∷ pieces) = ap (λ (xs : List ℕ). piece.1 ++ xs) (concat_headers pieces)

skipped : (slot : Ipv6ExtSlot) → IsTrue (is_skipped (slot_number slot))
skipped slot = grind arith

whole : (slot : Ipv6ExtSlot) (header : List ℕ) → IsPiece slot header
    → IsWhole (slot_number slot) header
whole HopByHop header piece = record { started = omega (arith, piece.least); whole = piece.whole }
whole Destination header piece = record { started = omega (arith, piece.least); whole = piece.whole }
whole Routing header piece = record { started = omega (arith, piece.least); whole = piece.whole }
whole Fragment header piece = record { started = omega (arith, piece.whole); whole = piece.whole }
whole Authentication header piece =
    record { started = omega (arith, piece.least); whole = piece.whole }
whole FinalDestination header piece =
    record { started = omega (arith, piece.least); whole = piece.whole }

row_skips : (order : Order) (passed : List Ipv6ExtSlot) (number : ℕ) (pieces : List Piece)
    (last : ℕ) → KeepsNumbers order →
    Row order passed number pieces last → Skips number (headers_of pieces) last
row_skips order passed number [] last keeps row = row
row_skips order passed number (piece ∷ pieces) last keeps row =
    let is : slot_number piece.0 ≡ number = keeps passed number piece.0 row.0 in
    grind (arith, row_skips order (passed ++ piece.0 ∷ []) _ pieces last keeps row.2)

-- the walk gives the number and the rest of a chain
pub chain_skips : (order : Order) (first : ℕ) (bytes : List ℕ) (pieces : List Piece) (last : ℕ)
    (rest : List ℕ) →
    ((number : ℕ) (bytes : List ℕ) (headers : List (List ℕ)) (last : ℕ) (rest : List ℕ)
    → Walk number bytes headers last rest
    → skip number bytes ≡ outcome (length (concat headers)) last rest) → KeepsNumbers order
    → Chain order first bytes pieces last rest → is_skipped last ≡ false →
    skip first bytes ≡ Ok (last, rest)
chain_skips order first bytes pieces last rest follows keeps chain following =
    let walk : Walk first bytes (headers_of pieces) last rest =
    grind (arith, row_skips, concat_headers) in
    let ends : outcome (length (concat (headers_of pieces))) last rest ≡ Ok (last, rest) =
    rw following refl in
    follows first bytes (headers_of pieces) last rest walk ∙ ends
  where
    true_false : true ≡ false → ⊥
    true_false e = cc

-- the result of a call that returns what the walk does
pub skip_answer : (wanted : Result (ℕ × List ℕ) LenError) (last : ℕ) (rest : List ℕ)
    (answer : Result (IpNumber × Bor (List ℕ)) LenError) → Gives wanted answer
    → wanted ≡ Ok (last, rest) → IsOkAnd answer (λ r. (r.0.0 ≡ last) × (r.1.now ≡ rest))
skip_answer wanted last rest answer gives is = grind arith

number_from : (passed : List Ipv6ExtSlot) (number : ℕ) (p slot : Ipv6ExtSlot)
    → eqb number (slot_number p) ≡ true → once passed p ≡ Some slot → slot_number slot ≡ number
number_from passed number p slot is e = grind arith

at_start_number : (passed : List Ipv6ExtSlot) (slot : Ipv6ExtSlot)
    → at_start passed ≡ Some slot → slot_number slot ≡ 0
at_start_number passed slot e = grind arith

pub slot_numbers : KeepsNumbers slot_of
slot_numbers passed number slot e =
    ⊎_elim (λ hop. at_start_number passed slot hop.1 ∙ sym (eqb-true number 0 hop.0))
    (λ a. ⊎_elim (λ routing. number_from passed number Routing slot routing.0 routing.1)
    (λ b. ⊎_elim (λ fragment. number_from passed number Fragment slot fragment.0 fragment.1)
    (λ c. ⊎_elim (λ auth. number_from passed number Authentication slot auth.0 auth.1)
    (λ d. ⊎_elim (λ options. ⊎_elim
    (λ final. number_from passed number FinalDestination slot options.0 final.1)
    (λ before. number_from passed number Destination slot options.0 before.1)
    (one_of (is_passed passed Routing) (once passed FinalDestination) (once passed Destination)
    (Some slot) options.1))
    (λ other. absurd (none-some slot other.1))
    (one_of (eqb number 60) _ _ (Some slot) d.1))
    (one_of (eqb number 51) _ _ (Some slot) c.1))
    (one_of (eqb number 44) _ _ (Some slot) b.1))
    (one_of (eqb number 43) _ _ (Some slot) a.1))
    (one_of (eqb number 0) _ _ (Some slot) e)
