-- Reassemblies that are tested one by one, where the last one takes the index of one that is
-- removed.
use Rattle.std.proofs.Common.{◌≡◌, ℕ, ◌+◌, ◌<◌, ◌⊎◌, Bool, true, false, cond, inl, inr, Option, Some, None, List}
use Rattle.std.proofs.Common.{length, get_or, arith, refl}
use Rattle.std.proofs.lemmas.List.{get_or-take, get_or-set_other}
use Rattle.std.proofs.lemmas.Option.{get_or_from_slice_get, slice_get_within}
use Rattle.std.proofs.lemmas.Map.Entries.{place_from_lookup}
use Rattle.std.specs.Cmp.{IsEquivalence}
use Rattle.std.specs.List.{slice_get, swap_remove}
use Rattle.std.specs.Map.{lookup}
use Rattle.etherparse.specs.declared.defrag.reassembly.Reassembly.{Reassembly}
use Rattle.etherparse.specs.ReassemblyTable.{Retained}

-- what is left of a reassembly before all are tested
abbrev pub MayStay : {T : Type 0} → (T → Bool → Type 0) → Option (Reassembly T)
    → Option (Reassembly T) → Type 0
MayStay answers None new = new ≡ None
MayStay answers (Some s) new = (new ≡ Some s) ⊎ (new ≡ None) × answers s.timestamp false

module _ {E : Type 0} (P : E → Type 0) where
  -- one more entry was tested
  pub tested_more : (es : List E) (i : ℕ) (e : E) → slice_get es i ≡ Some e → P e
      → ((k : ℕ) (d : E) → k < i → P (get_or es k d)) → (k : ℕ) (d : E)
      → k < i + 1 → P (get_or es k d)
  tested_more es i e at here below k d h = grind (arith, get_or_from_slice_get)

  -- the entries below the one that is removed stay
  pub tested_same : (es : List E) (i : ℕ) (e : E) → i < length es
      → ((k : ℕ) (d : E) → k < i → P (get_or es k d)) → (k : ℕ) (d : E) → k < i
      → P (get_or (swap_remove es i e) k d)
  tested_same es i e within below k d h = grind (arith, get_or-take, get_or-set_other)

module _ {K T : Type 0} {eq : K → K → Bool} (laws : IsEquivalence eq)
    (answers : T → Bool → Type 0) where
  goes : (s : Reassembly T) (old : Option (Reassembly T)) → answers s.timestamp false
      → MayStay answers old (Some s) → MayStay answers old None
  goes s None denied h = cc
  goes s (Some t) denied (inl h) = let same : s ≡ t = cc in
      grind arith
  goes s (Some t) denied (inr h) = inr (refl, h.1)

  -- a reassembly is removed for whose timestamp the test returned `false`
  pub one_goes : (first old new : List (K × Reassembly T)) (a : K) (s : Reassembly T)
      → answers s.timestamp false → lookup (eq a) old ≡ Some s
      → ((q : K) → lookup (eq q) new ≡ cond (eq a q) None (lookup (eq q) old))
      → ((q : K) → MayStay answers (lookup (eq q) first) (lookup (eq q) old)) → (q : K)
      → MayStay answers (lookup (eq q) first) (lookup (eq q) new)
  one_goes first old new a s denied at gone before q = grind arith

  stays : (old : Option (Reassembly T)) (new : Option (Reassembly T))
      → ((s : Reassembly T) → new ≡ Some s → answers s.timestamp true) → MayStay answers old new
      → Retained answers old new
  stays old new held h = grind arith

  -- once each reassembly that is left was tested
  pub all_tested : (first left : List (K × Reassembly T))
      → ((k : ℕ) (d : K × Reassembly T) → k < length left → answers (get_or left k d).1.timestamp true)
      → ((q : K) → MayStay answers (lookup (eq q) first) (lookup (eq q) left)) → (q : K)
      → Retained answers (lookup (eq q) first) (lookup (eq q) left)
  all_tested first left tested before q =
      stays (lookup (eq q) first) (lookup (eq q) left) (λ s h.
      let slot = place_from_lookup (eq q) left s h in
      let at = get_or_from_slice_get left slot.0 (slot.1, s) (slot.1, s) slot.2 in
      grind (arith, slice_get_within))
      (before q)

pub some_same : {E : Type 0} (a b : E) → Some a ≡ Some b → a ≡ b
some_same a b h = cc
