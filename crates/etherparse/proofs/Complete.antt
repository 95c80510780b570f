-- When a datagram is complete: an end and one section from 0 on.
use Rattle.std.proofs.Common.{◌≡◌, ℕ, zero, suc, ◌+◌, ◌-◌, ◌<◌, ◌≤◌, true, ◌↔◌, inl, inr, Option, IsSome, List, [], ◌∷◌, arith, refl}
use Rattle.std.proofs.Common.{sym, subst}
use Rattle.std.proofs.lemmas.Bool.{cases_lt, eq-eqb, false≢true, and_parts, and_from}
use Rattle.std.proofs.lemmas.Bool.Decides.{nat_tests}
use Rattle.std.proofs.lemmas.List.Folds.{Any-from_list_any, list_any-from_Any}
use Rattle.std.specs.Bool.{Decides}
use Rattle.std.specs.List.{Any, AllByRecursion, list_all, list_any, range_with_len}
use Rattle.etherparse.specs.declared.defrag.ip_frag_range.IpFragRange.{IpFragRange}
use Rattle.etherparse.specs.IpFragRange.{HasNumber, HasOffset, Apart, AreApart, is_one_from_zero}
use Rattle.etherparse.specs.Fragments.{Fragment, start_of, end_of, named_end, greatest_end, Holds, holds, Covered}
use Rattle.etherparse.specs.Fragments.{Complete, is_complete}
use Rattle.etherparse.specs.IpDefragBuf.{Contents, Shows, is_whole}
use Rattle.etherparse.proofs.ListElements.{AnyOf, AnyOf-from_Any, Any-from_AnyOf}

-- some range has the number
abbrev pub NumberOf : List IpFragRange → ℕ → Type 0
NumberOf rs n = AnyOf (λ r. HasNumber r n) rs

-- some range has the offset
abbrev pub OffsetOf : List IpFragRange → ℕ → Type 0
OffsetOf rs p = AnyOf (λ r. HasOffset r p) rs

abbrev TouchedBy : List Fragment → ℕ → Type 0
TouchedBy fs n = AnyOf (λ f. (start_of f ≤ n) × (n ≤ end_of f)) fs

greatest_touched : (f : Fragment) (fs : List Fragment) → TouchedBy (f ∷ fs) (greatest_end (f ∷ fs))
greatest_touched f [] = inl (omega arith, omega arith)
greatest_touched f (g ∷ fs) =
    elim (cases_lt (end_of f) (greatest_end (g ∷ fs))) [
      | inl h ↦ grind (arith, greatest_touched g fs)
      | inr h ↦ inl (omega arith, omega arith)
    ]

touched-le : (fs : List Fragment) (n : ℕ) → TouchedBy fs n → n ≤ greatest_end fs
touched-le [] n h = absurd h
touched-le (f ∷ fs) n (inl h) = omega arith
touched-le (f ∷ fs) n (inr h) = let k = touched-le fs n h in omega arith

-- no range that is apart from r has its end as an offset
no_gap : (r : IpFragRange) (rs : List IpFragRange) → r.start ≤ r.end
    → AllByRecursion (Apart r) rs → OffsetOf rs r.end → ⊥
no_gap r [] o all h = h
no_gap r (s ∷ rs) o all (inl h) = elim all.0 [ inl k ↦ omega arith | inr k ↦ omega arith ]
no_gap r (s ∷ rs) o all (inr h) = no_gap r rs o all.1 h

one_section : (rs : List IpFragRange) (top : ℕ) → AreApart rs → NumberOf rs top
    → ((n : ℕ) → NumberOf rs n → n ≤ top) → ((p : ℕ) → p < top → OffsetOf rs p)
    → is_one_from_zero rs ≡ true
one_section [] top all at below covered = absurd at
one_section (r ∷ []) top all at below covered =
    elim (cases_lt 0 r.start) [
      | inl h ↦ absurd
          (elim at [
            | inl k ↦ elim (covered (r.start - 1) (omega arith))
                [ inl m ↦ omega arith | inr m ↦ m ]
            | inr k ↦ k
          ])
      | inr h ↦ eq-eqb r.start 0 (omega arith)
    ]
one_section (r ∷ s ∷ rs) top all at below covered =
    absurd (elim all.1.0 [
      | inl h ↦
          let top_s = below s.start (inr (inl (omega arith, all.2.0))) in
          grind (arith, no_gap)
      | inr h ↦
          let top_r = below r.start (inl (omega arith, all.0)) in
          grind (arith, no_gap)
    ])

-- a range from 0 on has each offset below a number that it has
from_zero : (rs : List IpFragRange) (n p : ℕ) → is_one_from_zero rs ≡ true
    → NumberOf rs n → p < n → OffsetOf rs p
from_zero rs n p one h lt = grind arith

greatest_number : (fs : List Fragment) → IsSome (named_end fs) → TouchedBy fs (greatest_end fs)
greatest_number [] h = absurd (false≢true h)
greatest_number (f ∷ fs) h = greatest_touched f fs

-- an end and one section from 0 on: the datagram is complete
complete_if : {N : Type 0} (buf : Contents N) (fs : List Fragment) → Shows buf fs → IsSome buf.end
    → is_one_from_zero buf.sections ≡ true → Complete fs
complete_if buf fs shows ends one =
    let named = subst (λ (o : Option ℕ). IsSome o) shows.ended ends in
    let top : NumberOf buf.sections (greatest_end fs) =
    AnyOf-from_Any (λ s. HasNumber s (greatest_end fs)) buf.sections
    ((shows.numbers (greatest_end fs)).1 (Any-from_AnyOf _ fs (greatest_number fs named))) in
    record {
      ended = named;
      covered = λ p h. (shows.offsets p).0
          (Any-from_AnyOf (λ s. HasOffset s p) buf.sections
          (from_zero buf.sections (greatest_end fs) p one top h));
    }

-- and only then
complete_only : {N : Type 0} (buf : Contents N) (fs : List Fragment) → Shows buf fs → Complete fs
    → IsSome buf.end × (is_one_from_zero buf.sections ≡ true)
complete_only buf fs shows complete =
    let top : NumberOf buf.sections (greatest_end fs) =
    AnyOf-from_Any (λ s. HasNumber s (greatest_end fs)) buf.sections
    ((shows.numbers (greatest_end fs)).1
    (Any-from_AnyOf _ fs (greatest_number fs complete.ended))) in (
      subst (λ (o : Option ℕ). IsSome o) (sym shows.ended) complete.ended,
      one_section buf.sections (greatest_end fs) shows.apart top
          (λ n h. touched-le fs n
          (AnyOf-from_Any _ fs
          ((shows.numbers n).0 (Any-from_AnyOf (λ s. HasNumber s n) buf.sections h))))
          (λ p h. AnyOf-from_Any (λ s. HasOffset s p) buf.sections
          ((shows.offsets p).1 (complete.covered p h))),
    )

pub whole_iff : {N : Type 0} (buf : Contents N) (fs : List Fragment) → Shows buf fs
    → (is_whole buf ≡ true) ↔ Complete fs
whole_iff buf fs shows = (
  (λ h. let both = and_parts _ _ h in complete_if buf fs shows both.0 both.1),
  (λ h. let both = complete_only buf fs shows h in and_from _ _ both.0 both.1),
)

-- ---- the test

holds_Decides : (f : Fragment) (p : ℕ) → Decides (holds f p) (Holds f p)
holds_Decides f p = ((λ h. grind (arith, nat_tests)), (λ h. grind (arith, nat_tests)))

any_weaker : {X : Type 0} (P Q : X → Type 0) (xs : List X)
    → ((x : X) → P x → Q x) → Any P xs → Any Q xs
any_weaker P Q xs f h = (h.0, h.1, h.2, h.3, f h.1 h.4)

covered_Decides : (fs : List Fragment) (p : ℕ)
    → Decides (list_any (λ f. holds f p) fs) (Covered fs p)
covered_Decides fs p = (
  (λ h. any_weaker (λ f. holds f p ≡ true) (λ f. Holds f p) fs (λ f. (holds_Decides f p).0)
      (Any-from_list_any (λ f. holds f p) fs h)),
  grind (arith, list_any-from_Any, any_weaker, holds_Decides),
)

-- from a number on, so many offsets
range_Decides : (fs : List Fragment) (low n : ℕ)
    → Decides (list_all (λ p. list_any (λ f. holds f p) fs) (range_with_len low n))
    ((p : ℕ) → low ≤ p → p < low + n → Covered fs p)
range_Decides fs low zero = ((λ _ p from below. absurd (omega arith)), (λ _. refl))
range_Decides fs low (suc n) =
    let rest = range_Decides fs (low + 1) n in (
      (λ h p from below. elim (cases_lt low p) [
        | inl later ↦ rest.0 (and_parts _ _ h).1 p (omega arith) (omega arith)
        | inr first ↦
            let same : low ≡ p = omega arith in
            subst (Covered fs) same ((covered_Decides fs low).0 (and_parts _ _ h).0)
      ]),
      (λ h. and_from _ _ ((covered_Decides fs low).1 (h low (omega arith) (omega arith)))
          (rest.1 (λ p from below. h p (omega arith) (omega arith)))),
    )

-- the test decides the proposition
pub complete_Decides : (fs : List Fragment) → Decides (is_complete fs) (Complete fs)
complete_Decides fs =
    let range = range_Decides fs 0 (greatest_end fs) in (
      (λ h. record {
        ended = (and_parts _ _ h).0;
        covered = λ p below. range.0 (and_parts _ _ h).1 p (omega arith) (omega arith);
      }),
      (λ h. and_from _ _ h.ended (range.1 (λ p from below. h.covered p (omega arith)))),
    )
