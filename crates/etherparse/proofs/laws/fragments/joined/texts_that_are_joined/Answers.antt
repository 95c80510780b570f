use Rattle.std.proofs.Common.{◌≡◌, ◌∙◌, ap, arith, get_or, length, refl, inl, inr, sym, List, [], ◌∷◌, ℕ}
use Rattle.etherparse.specs.Fragments.{start_of}
use Rattle.etherparse.proofs.Complete.{complete_Decides}
use Rattle.etherparse.proofs.Joining.{no_overlap}
use Rattle.etherparse.proofs.Literals.{first_fragment, one_of_two, only_one}
use Rattle.etherparse.proofs.laws.fragments.joined.texts_that_are_joined.Goals as goal

pub returns-clause-from_the_end : goal.returns-clause-from_the_end
returns-clause-from_the_end c = no_overlap _ refl ((complete_Decides _).0 refl)

pub returns-clause-repeated : goal.returns-clause-repeated
returns-clause-repeated c = no_overlap _ refl ((complete_Decides _).0 refl)

some : (x : ℕ) (xs : List ℕ) → x ∷ xs ≡ [] → ⊥
some x xs is = let none = ap length is in omega arith

pub returns-clause-after_gap : goal.returns-clause-after_gap
returns-clause-after_gap c h =
    let first = first_fragment _ _ (some _ _) h in
    let start = ap start_of (only_one _ _ first.among) ∙ first.prefix in omega arith

pub returns-clause-filled_gap : goal.returns-clause-filled_gap
returns-clause-filled_gap c h =
    let first = first_fragment _ _ (some _ _) h in
    let start = ap start_of (only_one _ _ first.among) ∙ first.prefix in omega arith

pub returns-clause-mixed : goal.returns-clause-mixed
returns-clause-mixed c h =
    let first = first_fragment _ _ (some _ _) h in
    elim (one_of_two _ _ _ first.among) [
      | inl is ↦
          let text = rw (sym is) at first.text_is in
          let byte = ap (λ (xs : List ℕ). get_or xs 8 0) text in omega arith
      | inr is ↦ let start = ap start_of is ∙ first.prefix in omega arith
    ]

pub returns-clause-other_bytes : goal.returns-clause-other_bytes
returns-clause-other_bytes c h =
    let first = first_fragment _ _ (some _ _) h in
    let text = rw (sym (only_one _ _ first.among)) at first.text_is in
    let byte = ap (λ (xs : List ℕ). get_or xs 0 0) text in omega arith

pub returns-clause-no_fragment : goal.returns-clause-no_fragment
returns-clause-no_fragment c h =
    let first = first_fragment _ _ (some _ _) h in let below = first.among.1 in omega arith
