-- The names of entries in the order of their starts.
use Rattle.std.proofs.Common.{None, ap, cond, Option, ◌≡◌, ℕ, zero, suc, ◌-◌, ◌<◌, ◌≤◌, ◌≢◌, ◌⊎◌, inl, inr, Bool, true, false, not, List, [], ◌∷◌, ◌++◌}
use Rattle.std.proofs.Common.{length, arith, refl, sym, subst, ◌∙◌, get_or, take, set, Some}
use Rattle.std.proofs.lemmas.Bool.{cases_eq, cases_lt}
use Rattle.std.proofs.lemmas.Bool.Decides.{nat_tests}
use Rattle.std.proofs.lemmas.List.{get_or-take, get_or-set_same, get_or-set_other, length-set, length-take-le}
use Rattle.std.proofs.lemmas.Option.{slice_get-get_or, slice_get_within, get_or_from_slice_get}
use Rattle.std.proofs.lemmas.Map.Keys.{apart_from_distinct}
use Rattle.std.specs.Cmp.{IsEquivalence}
use Rattle.std.specs.Prelude.{is_some, ◌==◌, filter, slice_get, if◌then◌else◌}
use Rattle.std.proofs.lemmas.Map.Made.{is_some-lookup}
use Rattle.std.specs.Map.{keys_of, lookup}
use Rattle.std.specs.List.{list_any, IsDistinct, swap_remove}
use Rattle.etherparse.specs.StartOrder.{IsOrder, has, order_without, renamed, without}
use Rattle.etherparse.specs.Starts.{names_in}

module _ {K : Type 0} where
  -- one more name, which starts last
  slice_get-push_other : (ks : List K) (k : K) (slot : ℕ) → slot < length ks
      → slice_get (ks ++ k ∷ []) slot ≡ slice_get ks slot
  slice_get-push_other [] k slot h = grind arith
  slice_get-push_other (x ∷ ks) k zero h = refl
  slice_get-push_other (x ∷ ks) k (suc slot) h = slice_get-push_other ks k slot (omega arith)

  slice_get-push : (ks : List K) (k : K) → slice_get (ks ++ k ∷ []) (length ks) ≡ Some k
  slice_get-push [] k = refl
  slice_get-push (x ∷ ks) k = slice_get-push ks k

  pub names-push : (ks : List K) (k : K) (slots : List ℕ)
      → ((slot : ℕ) → has slot slots ≡ true → slot < length ks)
      → names_in (ks ++ k ∷ []) (slots ++ length ks ∷ []) ≡ names_in ks slots ++ k ∷ []
  names-push ks k [] h = grind (arith, slice_get-push ks k)
  names-push ks k (slot ∷ slots) h =
      grind (
        arith,
        nat_tests,
        slice_get-push_other ks k slot (h slot (grind (arith, nat_tests))),
        names-push ks k slots (λ s i. h s (grind (arith, nat_tests))),
      )

  module _ (test : K → Bool) (ks ks' : List K) (last slot : ℕ) (k : K) (mine : slice_get ks slot ≡ Some k)
      (passes : test k ≡ true)
      (others : (s : ℕ) → s < length ks → s ≢ slot → slice_get ks' (if s == last then slot else s) ≡ slice_get ks s)
      (apart : (s : ℕ) (q : K) → s ≢ slot → slice_get ks s ≡ Some q → test q ≡ false) where
    one_left : (s : ℕ) (ss : List ℕ) → (s ≡ slot) ⊎ (s ≢ slot) → s < length ks
        → names_in ks' (renamed last slot (without slot ss)) ≡ filter (λ q. not (test q)) (names_in ks ss)
        → names_in ks' (renamed last slot (without slot (s ∷ ss))) ≡ filter (λ q. not (test q)) (names_in ks (s ∷ ss))
    one_left s ss (inl e) within later = grind (arith, nat_tests)
    one_left s ss (inr e) within later =
        let i = slice_get-get_or ks s k within in
        let a = apart s (get_or ks s k) e i in
        let o = others s within e in
        grind (arith, nat_tests)

    pub names_left : (ss : List ℕ) → ((s : ℕ) → has s ss ≡ true → s < length ks)
        → names_in ks' (renamed last slot (without slot ss)) ≡ filter (λ q. not (test q)) (names_in ks ss)
    names_left [] h = refl
    names_left (s ∷ ss) h =
        one_left s ss (cases_eq s slot) (h s (grind (arith, nat_tests)))
        (names_left ss (λ t i. h t (grind (arith, nat_tests))))

  -- the last one takes the slot of one that is removed
  swap_removed_at : (ks : List K) (slot : ℕ) (k : K) (s t : ℕ) → slot < length ks → s < length ks → s ≢ slot
      → (s ≡ length ks - 1) × (t ≡ slot) ⊎ (s ≢ length ks - 1) × (t ≡ s)
      → slice_get (swap_remove ks slot k) t ≡ slice_get ks s
  swap_removed_at ks slot k s t within h apart c =
      let n = length ks - 1 in
      let moved = set ks slot (get_or ks n k) in
      let len : length (take n moved) ≡ n =
      length-take-le n moved (omega (arith, length-set ks slot (get_or ks n k))) in
      let inside : t < n = grind arith in
      let taken : get_or (take n moved) t k ≡ get_or moved t k = get_or-take n moved t k inside in
      let read = slice_get-get_or (take n moved) t k (omega arith) in
      let old = slice_get-get_or ks s k h in
      let value : get_or moved t k ≡ get_or ks s k =
      grind (arith, get_or-set_same ks slot (get_or ks n k) k, get_or-set_other ks slot t (get_or ks n k) k) in
      grind arith

  pub swap_removed_get : (ks : List K) (slot : ℕ) (k : K) (s : ℕ) → slot < length ks → s < length ks → s ≢ slot
      → slice_get (swap_remove ks slot k) (if s == length ks - 1 then slot else s) ≡ slice_get ks s
  swap_removed_get ks slot k s within h apart =
      swap_removed_at ks slot k s (if s == length ks - 1 then slot else s) within h apart (grind (arith, nat_tests))

  module _ (eq : K → K → Bool) (laws : IsEquivalence eq) where
    distinct_nodes : (ks : List K) (i j : ℕ) (a b : K) → IsDistinct eq ks → i ≢ j → slice_get ks i ≡ Some a
        → slice_get ks j ≡ Some b → eq a b ≡ false
    distinct_nodes ks i j a b d apart at at' =
        by (cases_lt i j)
      where
        one : get_or ks i a ≡ a
        one = get_or_from_slice_get ks i a a at

        two : get_or ks j a ≡ b
        two = get_or_from_slice_get ks j b a at'

        by : (i < j) ⊎ (j ≤ i) → eq a b ≡ false
        by (inl less) = rw (one, two) at (apart_from_distinct eq ks i j a d less (slice_get_within ks j b at'))
        by (inr more) =
            laws.symm a b
            ∙ rw (two, one) at (apart_from_distinct eq ks j i a d (omega arith) (slice_get_within ks i a at))

    -- the names, once an entry is removed
    pub names-swap_remove : (ks : List K) (slot : ℕ) (stored k d : K) (order : List ℕ) → IsDistinct eq ks
        → slice_get ks slot ≡ Some stored → eq k stored ≡ true → IsOrder order → length order ≡ length ks
        → names_in (swap_remove ks slot d) (order_without slot order)
        ≡ filter (λ q. not (eq k q)) (names_in ks order)
    names-swap_remove ks slot stored k d order apart at same o len =
        let within = slice_get_within ks slot stored at in
        subst (λ (n : ℕ). names_in (swap_remove ks slot d) (renamed (n - 1) slot (without slot order))
        ≡ filter (λ q. not (eq k q)) (names_in ks order)) (sym len)
        (names_left (eq k) ks (swap_remove ks slot d) (length ks - 1) slot stored at same
        (λ s h other. swap_removed_get ks slot d s within h other)
        (λ s q other at'. laws.congr k stored q same
        ∙ distinct_nodes ks slot s stored q apart (λ e. other (sym e)) at at')
        order (λ s h. grind (arith, nat_tests, o.members s)))

    others_stay : (ks : List K) (slot : ℕ) (stored : K) → IsDistinct eq ks → slice_get ks slot ≡ Some stored
        → (ss : List ℕ) → has slot ss ≡ false → ((s : ℕ) → has s ss ≡ true → s < length ks)
        → filter (λ q. not (eq stored q)) (names_in ks ss) ≡ names_in ks ss
    others_stay ks slot stored apart at [] h w = refl
    others_stay ks slot stored apart at (s ∷ ss) h w =
        let i = slice_get-get_or ks s stored (w s (grind (arith, nat_tests))) in
        let a = distinct_nodes ks slot s stored (get_or ks s stored) apart (λ e. grind (arith, nat_tests)) at i in
        let later = others_stay ks slot stored apart at ss (grind (arith, nat_tests))
        (λ t j. w t (grind (arith, nat_tests))) in
        grind (arith, later)

    -- the name that started first, and the others once it is removed
    pub names-oldest : (ks : List K) (slot : ℕ) (stored : K) (order : List ℕ) → IsDistinct eq ks
        → slice_get ks slot ≡ Some stored → IsOrder order → length order ≡ length ks
        → slice_get order 0 ≡ Some slot
        → names_in ks order ≡ stored ∷ names_in (swap_remove ks slot stored) (order_without slot order)
    names-oldest ks slot stored [] apart at o len first = grind arith
    names-oldest ks slot stored (s ∷ rest) apart at o len first =
        let e : s ≡ slot = cc first in
        let left = names-swap_remove ks slot stored stored stored (s ∷ rest) apart at (laws.refl stored) o len in
        let out : has slot rest ≡ false = rw e at o.distinct.0 in
        let stay = others_stay ks slot stored apart at rest out
        (λ t h. grind (arith, nat_tests, o.members t)) in
        let here : names_in ks (s ∷ rest) ≡ stored ∷ names_in ks rest = grind (arith, at, e) in
        let self = laws.refl stored in
        let gone : filter (λ q. not (eq stored q)) (names_in ks (s ∷ rest)) ≡ names_in ks rest = grind (arith, here, stay, self) in
        here ∙ ap (λ (qs : List K). stored ∷ qs) (sym gone ∙ sym left)

    -- each name is that of an entry
    pub names_known : {X : Type 0} (es : List (K × X)) (ss : List ℕ)
        → filter (λ q. is_some (lookup (eq q) es)) (names_in (keys_of es) ss) ≡ names_in (keys_of es) ss
    names_known es [] = refl
    names_known es (s ∷ ss) =
        known_one es s ss (slice_get (keys_of es) s) refl (names_known es ss)
      where
        there : (ks : List K) (i : ℕ) (k : K) → slice_get ks i ≡ Some k → list_any (eq k) ks ≡ true
        there [] i k h = grind arith
        there (x ∷ ks) zero k h = grind (arith, laws.refl k)
        there (x ∷ ks) (suc i) k h = grind (arith, there ks i k h)

        known_one : {X : Type 0} (es : List (K × X)) (s : ℕ) (ss : List ℕ) (o : Option K) → slice_get (keys_of es) s ≡ o
            → filter (λ q. is_some (lookup (eq q) es)) (names_in (keys_of es) ss) ≡ names_in (keys_of es) ss
            → filter (λ q. is_some (lookup (eq q) es)) (names_in (keys_of es) (s ∷ ss)) ≡ names_in (keys_of es) (s ∷ ss)
        known_one es s ss None at later = grind (arith, at, later)
        known_one es s ss (Some k) at later =
            let h : is_some (lookup (eq k) es) ≡ true = is_some-lookup (eq k) es ∙ there (keys_of es) s k at in
            grind (arith, at, later, h)

    -- one more test of names
    pub filter-more : {X : Type 0} (old new : List (K × X)) (k : K) (names : List K)
        → ((q : K) → lookup (eq q) new ≡ cond (eq k q) None (lookup (eq q) old))
        → filter (λ q. not (eq k q)) (filter (λ q. is_some (lookup (eq q) old)) names)
        ≡ filter (λ q. is_some (lookup (eq q) new)) names
    filter-more old new k [] gone = refl
    filter-more old new k (q ∷ names) gone =
        let g = gone q in let later = filter-more old new k names gone in grind (arith, g, later)
