-- The names in the order of their starts, after a fragment.
use Rattle.std.proofs.Common.{◌≡◌, ℕ, ◌+◌, ◌-◌, ◌<◌, Bool, List, [], ◌∷◌, ◌++◌, length, Option, Some, None, arith, refl, ap, ◌∙◌}
use Rattle.std.proofs.lemmas.Bool.Decides.{nat_tests}
use Rattle.std.proofs.lemmas.List.{length-map}
use Rattle.std.proofs.lemmas.Option.{slice_get-map, slice_get_within}
use Rattle.std.specs.Cmp.{IsEquivalence}
use Rattle.std.specs.List.{IsDistinct, position_or_len, swap_remove}
use Rattle.etherparse.specs.StartOrder.{order_without}
use Rattle.std.specs.Map.{keys_of, lookup}
use Rattle.std.specs.Prelude.{cond, filter, is_some, not, slice_get, IsSome}
use Rattle.etherparse.specs.Starts.{Change, EntriesAfter, Tracks, change_of, names_after, names_in, order_after}
use Rattle.std.proofs.Common.{Result, Ok, Err}
use Rattle.etherparse.specs.declared.defrag.ip_defrag_error.IpDefragError.{IpDefragError}
use Rattle.etherparse.specs.Starts.Change.{Ends, Starts, Stays}
use Rattle.etherparse.specs.declared.defrag.reassembly.Reassembly.{Reassembly}
use Rattle.etherparse.proofs.StartNames.{filter-more, names-oldest, names-push, names-swap_remove}
use Rattle.etherparse.proofs.TableTotals.{found_at, keys-swap_remove, swap_removed}

module _ {K T : Type 0} (eq : K → K → Bool) (laws : IsEquivalence eq) (k : K) where
  names_ended : (s : Reassembly T) (order : List ℕ) (held : ℕ) (es : List (K × Reassembly T)) → Tracks order held es
      → IsDistinct eq (keys_of es) → lookup (eq k) es ≡ Some s → (order' : List ℕ) (new : List (K × Reassembly T))
      → order' ≡ order_after (position_or_len (eq k) (keys_of es)) Ends order → EntriesAfter (eq k) k Ends es new
      → names_in (keys_of new) order' ≡ names_after eq k Ends (names_in (keys_of es) order)
  names_ended s order held es t apart at order' new o e =
      let f = found_at (eq k) es s at in
      let r = swap_removed (eq k) es s at in
      let i = position_or_len (eq k) (keys_of es) in
      let within = slice_get_within es i _ f.at in
      let count = length-map es (λ (e : K × Reassembly T). e.0) in
      let stored : slice_get (keys_of es) i ≡ Some f.stored =
      slice_get-map (λ (e : K × Reassembly T). e.0) es i ∙ grind (arith, f.at) in
      let keys : keys_of new ≡ _ = ap (λ (xs : List (K × Reassembly T)). keys_of xs) (e ∙ r.1)
      ∙ keys-swap_remove (eq k) es i r.0 (omega (arith, within)) in
      rw (keys, o)
      (names-swap_remove eq laws (keys_of es) i f.stored k r.0.0 order apart stored f.passes t.is_order
      (omega (arith, t.count, count)))

  pub names_changed : (change : Change) (reassembly : Option (Reassembly T)) (order : List ℕ) (held : ℕ)
      (es : List (K × Reassembly T)) → Tracks order held es → IsDistinct eq (keys_of es)
      → lookup (eq k) es ≡ reassembly → (change ≡ Ends → IsSome reassembly) → (order' : List ℕ) (new : List (K × Reassembly T))
      → order' ≡ order_after (position_or_len (eq k) (keys_of es)) change order → EntriesAfter (eq k) k change es new
      → names_in (keys_of new) order' ≡ names_after eq k change (names_in (keys_of es) order)
  names_changed Starts reassembly order held es t apart at there order' new o e =
      let count = length-map es (λ (e : K × Reassembly T). e.0) in
      let same : length order ≡ length (keys_of es) = omega (arith, t.count, count) in
      rw (e, o, same) (names-push (keys_of es) k order (λ s h. grind (arith, nat_tests, t.is_order.members s)))
  names_changed Ends None order held es t apart at there order' new o e =
      let some = there refl in grind arith
  names_changed Ends (Some s) order held es t apart at there order' new o e =
      names_ended s order held es t apart at order' new o e
  names_changed Stays reassembly order held es t apart at there order' new o e = rw (e, o) refl

-- ---- an entry that is removed by its index

module _ {K T : Type 0} (eq : K → K → Bool) (laws : IsEquivalence eq) (order : List ℕ) (held : ℕ)
    (es : List (K × Reassembly T)) (t : Tracks order held es) (apart : IsDistinct eq (keys_of es)) (i : ℕ)
    (k : K) (s : Reassembly T) (at : slice_get es i ≡ Some (k, s)) where
  key_at : slice_get (keys_of es) i ≡ Some k
  key_at = slice_get-map (λ (e : K × Reassembly T). e.0) es i ∙ grind (arith, at)

  counted : length order ≡ length (keys_of es)
  counted = omega (arith, t.count, length-map es (λ (e : K × Reassembly T). e.0))

  keys_left : (new : List (K × Reassembly T)) → new ≡ swap_remove es i (k, s)
      → keys_of new ≡ swap_remove (keys_of es) i k
  keys_left new is =
      ap (λ (xs : List (K × Reassembly T)). keys_of xs) is
      ∙ keys-swap_remove (eq k) es i (k, s) (omega (arith, slice_get_within es i (k, s) at))

  -- each name that is kept so far, but this one
  pub names_kept : (first : List K) (order' : List ℕ) (new : List (K × Reassembly T)) → new ≡ swap_remove es i (k, s)
      → order' ≡ order_without i order
      → ((q : K) → lookup (eq q) new ≡ cond (eq k q) None (lookup (eq q) es))
      → names_in (keys_of es) order ≡ filter (λ q. is_some (lookup (eq q) es)) first
      → names_in (keys_of new) order' ≡ filter (λ q. is_some (lookup (eq q) new)) first
  names_kept first order' new is o gone before =
      let left = names-swap_remove eq laws (keys_of es) i k k k order apart key_at (laws.refl k) t.is_order counted in
      let more = filter-more eq laws es new k first gone in
      rw (keys_left new is, o) (left ∙ ap (λ (names : List K). filter (λ q. not (eq k q)) names) before ∙ more)

  -- the one that started first
  pub names_forgotten : (order' : List ℕ) (new : List (K × Reassembly T)) → new ≡ swap_remove es i (k, s)
      → order' ≡ order_without i order → slice_get order 0 ≡ Some i
      → names_in (keys_of es) order ≡ k ∷ names_in (keys_of new) order'
  names_forgotten order' new is o first =
      rw (keys_left new is, o)
      (names-oldest eq laws (keys_of es) i k order apart key_at t.is_order counted first)

-- only a reassembly that is there ends
pub change_ends : {X S : Type 0} (result : Result (Option X) IpDefragError) (old : Option S)
    → change_of result old ≡ Ends → IsSome old
change_ends (Err error) None e = grind arith
change_ends (Err error) (Some s) e = refl
change_ends (Ok None) None e = grind arith
change_ends (Ok None) (Some s) e = refl
change_ends (Ok (Some whole)) None e = grind arith
change_ends (Ok (Some whole)) (Some s) e = refl
