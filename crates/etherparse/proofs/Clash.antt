-- Whether a fragment is a repeat, and whether it clashes: the tests decide the propositions.
use Rattle.std.proofs.Common.{◌≡◌, ℕ, ◌<◌, ◌≤◌, Bool, true, false, not, ◌&&◌, ◌||◌, ltb, ◌⊎◌, inl, inr, List, max, min}
use Rattle.std.proofs.Common.{arith, sym, ◌∙◌, refl}
use Rattle.std.proofs.lemmas.Bool.{false≢true}
use Rattle.std.proofs.lemmas.Bool.Decides.{nat_tests, Decides-eqb}
use Rattle.std.proofs.lemmas.List.Folds.{Any-from_list_any, list_any-from_Any}
use Rattle.std.specs.Bool.{Decides, beq}
use Rattle.std.specs.Cmp.{booleans_Decides}
use Rattle.std.specs.Cmp.Lexicographic.{bytes_decides, pointwise}
use Rattle.std.specs.List.{list_any}
use Rattle.std.specs.Prelude.{◌==◌, nat_eq}
use Rattle.ep_base.proofs.Same.{field, last_field, record_same}
use Rattle.etherparse.specs.Fragments.{Fragment, start_of, end_of, Covered, IsRepeat, SharesOffset, EndsBelow, Clashes}
use Rattle.etherparse.specs.Fragments.{is_repeat, overlaps}
use Rattle.etherparse.specs.declared.defrag.overlap_rule.OverlapRule.TheVariants.{Refuses}

abbrev same_fragment : Fragment → Fragment → Bool
same_fragment f g = (f.offset == g.offset)
    && (beq f.more g.more && pointwise nat_eq f.bytes g.bytes)

same_fragment_Decides : (f g : Fragment) → Decides (same_fragment f g) (f ≡ g)
same_fragment_Decides f g = record_same
    (field Decides-eqb (λ f. f.offset)
    (field booleans_Decides (λ f. f.more) (last_field bytes_decides (λ f. f.bytes))))
    (λ offset more bytes i. record { offset = offset i; more = more i; bytes = bytes i })

pub repeat_Decides : (fs : List Fragment) (f : Fragment) → Decides (is_repeat fs f) (IsRepeat fs f)
repeat_Decides fs f = (
  (λ h. let k = Any-from_list_any (λ g. same_fragment g f) fs h in
      let same : k.1 ≡ f = (same_fragment_Decides k.1 f).0 k.4 in
      grind arith),
  grind (arith, list_any-from_Any, same_fragment_Decides),
)

-- whether it covers one of the offsets from a number on, up to another
abbrev holds_within : Fragment → ℕ → ℕ → Bool
holds_within f low high = ltb (max (start_of f) low) (min (end_of f) high)

-- some fragment covers one of them
abbrev pub SomeHolds : List Fragment → ℕ → ℕ → Type 0
SomeHolds fs low high = (p : ℕ) × (low ≤ p) × (p < high) × Covered fs p

within_Decides : (fs : List Fragment) (low high : ℕ)
    → Decides (list_any (λ g. holds_within g low high) fs) (SomeHolds fs low high)
within_Decides fs low high = (
  (λ h. let k = Any-from_list_any (λ g. holds_within g low high) fs h in
      let test = k.4 in
      let p = max (start_of k.1) low in
      let here : (start_of k.1 ≤ p) × (p < end_of k.1) × (low ≤ p) × (p < high) =
      grind (arith, nat_tests) in
      (p, here.2, here.3, (k.0, k.1, k.2, k.3, (here.0, here.1)))),
  grind (arith, list_any-from_Any),
)

after_Decides : (fs : List Fragment) (f : Fragment)
    → Decides (list_any (λ g. ltb (max (start_of g) (end_of f)) (end_of g)) fs) (EndsBelow fs f)
after_Decides fs f = (
  (λ h. let k = Any-from_list_any (λ g. ltb (max (start_of g) (end_of f)) (end_of g)) fs h in
      let test = k.4 in
      let p = max (start_of k.1) (end_of f) in
      let here : (start_of k.1 ≤ p) × (p < end_of k.1) × (end_of f ≤ p) =
      grind (arith, nat_tests) in
      (p, here.2, (k.0, k.1, k.2, k.3, (here.0, here.1)))),
  grind (arith, list_any-from_Any),
)

shares_Decides : (fs : List Fragment) (f : Fragment)
    → Decides (list_any (λ g. holds_within g (start_of f) (end_of f)) fs) (SharesOffset fs f)
shares_Decides fs f =
    let test = within_Decides fs (start_of f) (end_of f) in grind arith

-- from two tests to the test of the one without the other
without : {P Q : Type 0} (s t : Bool) → Decides s P → Decides t Q
    → Decides (not s && t) ((P → ⊥) × Q)
without true t p q = ((λ h. cc), (λ h. absurd (h.0 (p.0 refl))))
without false t p q = ((λ h. ((λ k. false≢true (p.1 k)), q.0 h)), (λ h. q.1 h.1))

unset : {Q : Type 0} (more t : Bool) → Decides t Q → Decides (not more && t) ((more ≡ false) × Q)
unset true t q = ((λ h. cc), (λ h. cc))
unset false t q = ((λ h. (refl, q.0 h)), (λ h. q.1 h.1))

one_of : {P Q : Type 0} (s t : Bool) → Decides s P → Decides t Q → Decides (s || t) (P ⊎ Q)
one_of true t p q = ((λ h. inl (p.0 refl)), (λ h. refl))
one_of false t p q = (
  (λ h. inr (q.0 h)),
  (λ h. elim h [ inl k ↦ absurd (false≢true (p.1 k)) | inr k ↦ q.1 k ]),
)

pub clashes_Decides : (fs : List Fragment) (f : Fragment)
    → Decides (overlaps Refuses fs f) (Clashes fs f)
clashes_Decides fs f = one_of _ _
    (without _ _ (repeat_Decides fs f) (shares_Decides fs f))
    (unset f.more _ (after_Decides fs f))

not_from_false : {P : Type 0} (b : Bool) → Decides b P → (P → ⊥) → b ≡ false
not_from_false true d h = absurd (h (d.0 refl))
not_from_false false d h = refl

pub no_clash : (fs : List Fragment) (f : Fragment) → (Clashes fs f → ⊥)
    → overlaps Refuses fs f ≡ false
no_clash fs f h = not_from_false (overlaps Refuses fs f) (clashes_Decides fs f) h

pub clash_is : (fs : List Fragment) (f : Fragment) → overlaps Refuses fs f ≡ false
    → Clashes fs f → ⊥
clash_is fs f is h = false≢true (sym is ∙ (clashes_Decides fs f).1 h)
