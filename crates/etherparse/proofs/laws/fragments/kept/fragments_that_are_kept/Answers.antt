use Rattle.std.proofs.Common.{◌≡◌, ◌∙◌, ap, arith, inl, inr, refl, zero, suc, ◌<◌, ℕ, true, false, get_or, replicate}
use Rattle.std.proofs.Common.{List, [], ◌∷◌}
use Rattle.std.specs.Prelude.{Contains}
use Rattle.std.specs.declared.cmp.Ordering.TheVariants.{Less}
use Rattle.etherparse.specs.declared.defrag.stored_fragment.StoredFragment.{StoredFragment}
use Rattle.etherparse.specs.Fragments.{Fragment, fragment}
use Rattle.etherparse.specs.StoredFragment.{stored_cmp, stored_of}
use Rattle.etherparse.proofs.AcceptedLists.{accepted_are_disjoint}
use Rattle.etherparse.proofs.Literals.{one_of_two}
use Rattle.etherparse.proofs.laws.fragments.kept.fragments_that_are_kept.Goals as goal

abbrev first : Fragment
first = fragment 0 true (replicate 8 1)

abbrev last : Fragment
last = fragment 1 false (replicate 2 2)

abbrev kept : List StoredFragment
kept = stored_of first ∷ stored_of last ∷ []

kept_at : (m : StoredFragment) (i : ℕ) (f : Fragment) → i < 3 → get_or (last ∷ first ∷ first ∷ []) i f ≡ f
    → stored_of f ≡ m → Contains kept m
kept_at m zero f lt at is = (1, omega arith, ap stored_of at ∙ is)
kept_at m (suc zero) f lt at is = (0, omega arith, ap stored_of at ∙ is)
kept_at m (suc (suc zero)) f lt at is = (0, omega arith, ap stored_of at ∙ is)
kept_at m (suc (suc (suc i))) f lt at is = absurd (omega arith)

in_order : (d : StoredFragment) (i j : ℕ) → i < j → j < 2
    → stored_cmp (get_or kept i d) (get_or kept j d) ≡ Less
in_order d zero zero low high = absurd (omega arith)
in_order d zero (suc zero) low high = refl
in_order d zero (suc (suc j)) low high = absurd (omega arith)
in_order d (suc i) zero low high = absurd (omega arith)
in_order d (suc i) (suc j) low high = absurd (omega arith)

pub returns-clause-kept : goal.returns-clause-kept
returns-clause-kept c = record {
  stored_fragments = λ m. (
    λ at. elim (one_of_two (stored_of first) (stored_of last) m at) [
      | inl is ↦ (1, first, omega arith, refl, is)
      | inr is ↦ (0, last, omega arith, refl, is)
    ],
    λ some. kept_at m some.0 some.1 some.2 some.3 some.4,
  );
  listed = λ i j d low high. in_order d i j low high;
  disjoint = accepted_are_disjoint (last ∷ first ∷ first ∷ []) refl;
}

pub returns-clause-other_order : goal.returns-clause-other_order
returns-clause-other_order c h =
    let order = h.listed 0 1 (stored_of first) (omega arith) (omega arith) in cc

pub returns-clause-other_fragment : goal.returns-clause-other_fragment
returns-clause-other_fragment c h =
    let some = (h.stored_fragments (stored_of first)).0 (0, omega arith, refl) in
    let within = some.2 in omega arith
