-- The keys and the sum of the entries of a table, after one is added, replaced or removed.
use Rattle.std.proofs.Common.{◌≡◌, ℕ, suc, ◌+◌, ◌-◌, ◌*◌, ◌<◌, ◌≤◌, Bool, true, false, cond, List, [], ◌∷◌, ◌++◌}
use Rattle.std.proofs.Common.{length, arith, refl, sym, ap, ◌∙◌, nat_lt, get_or, take, set, Option, Some, None}
use Rattle.std.proofs.lemmas.Bool.{cond-true}
use Rattle.std.proofs.lemmas.Bool.Decides.{nat_tests}
use Rattle.std.proofs.lemmas.List.{map-set, take-map, get_or-map, length-map, length-set, length-take}
use Rattle.std.proofs.lemmas.List.Sums.{sum_by-cons, sum_by-swap_remove}
use Rattle.std.proofs.lemmas.Option.{slice_get_within, get_or_from_slice_get}
use Rattle.std.specs.Prelude.{slice_get, position}
use Rattle.std.specs.List.{position_or_len, sum_by, swap_remove}
use Rattle.std.specs.Map.{keys_of, lookup}
use Rattle.std.specs.Option.{option_map_or}
use Rattle.indexmap.specs.IndexMap.{insert_entry, swap_remove_entry}

position_is : {K : Type 0} (test : K → Bool) (ks : List K) → position_or_len test ks < length ks
    → position test ks ≡ Some (position_or_len test ks)
position_is test ks h = cond-true (nat_lt (position_or_len test ks) (length ks)) _ _ (grind (arith, nat_tests))

module _ {K X : Type 0} (test : K → Bool) where
  -- where a value is found
  pub record FoundAt (es : List (K × X)) (i : ℕ) (s : X) : Type 0 where
    pub stored : K
    pub at : slice_get es i ≡ Some (stored, s)
    pub passes : test stored ≡ true

  found_one : (e : K × X) (es : List (K × X)) (s : X) (i : ℕ) (b : Bool) → test e.0 ≡ b
      → cond b (Some e.1) (lookup test es) ≡ Some s → i ≡ position_or_len test (keys_of es)
      → (lookup test es ≡ Some s → FoundAt es i s)
      → FoundAt (e ∷ es) (position_or_len test (keys_of (e ∷ es))) s
  found_one e es s i true h at is later =
      let here : position_or_len test (keys_of (e ∷ es)) ≡ 0 = grind (arith, h) in
      let same : e.1 ≡ s = cc at in
      record { stored = e.0; at = rw (here, same) refl; passes = h }
  found_one e es s i false h at is later =
      let here : position_or_len test (keys_of (e ∷ es)) ≡ suc i = grind (arith, h) in
      let f = later at in
      record { stored = f.stored; at = rw here f.at; passes = f.passes }

  pub found_at : (es : List (K × X)) (s : X) → lookup test es ≡ Some s
      → FoundAt es (position_or_len test (keys_of es)) s
  found_at [] s h = grind arith
  found_at (e ∷ es) s h = found_one e es s _ (test e.0) refl h refl (λ later. found_at es s later)

  -- what `swap_remove` of a key leaves
  pub swap_removed : (es : List (K × X)) (s : X) → lookup test es ≡ Some s
      → (d : K × X) × (swap_remove_entry test es ≡ swap_remove es (position_or_len test (keys_of es)) d)
  swap_removed [] s h = absurd (grind arith)
  swap_removed (e ∷ es) s h =
      let f = found_at (e ∷ es) s h in
      let within = slice_get_within (e ∷ es) _ _ f.at in
      let p = position_is test (keys_of (e ∷ es))
      (omega (arith, within, length-map (e ∷ es) (λ (e : K × X). e.0))) in
      (e, ap (λ (r : Option ℕ). option_map_or (λ (i : ℕ). swap_remove (e ∷ es) i e) r (e ∷ es)) p)

  pub keys-swap_remove : (es : List (K × X)) (i : ℕ) (d : K × X) → 0 < length es
      → keys_of (swap_remove es i d) ≡ swap_remove (keys_of es) i d.0
  keys-swap_remove es i d some =
      let g = λ (e : K × X). e.0 in
      let n = length es - 1 in
      let x = get_or es n d in
      sym (take-map g n (set es i x)) ∙ ap (take n) (map-set g es i x)
      ∙ rw (length-map es g, get_or-map g es n d d.0 (omega arith)) refl

  pub length-swap_removed : (es : List (K × X)) (s : X) → lookup test es ≡ Some s
      → length (swap_remove_entry test es) + 1 ≡ length es
  length-swap_removed es s h =
      let r = swap_removed es s h in
      let within = slice_get_within es _ _ (found_at es s h).at in
      let i = position_or_len test (keys_of es) in
      let x = get_or es (length es - 1) r.0 in
      rw r.1
      (omega (arith, within, length-take (length es - 1) (set es i x), length-set es i x))

module _ {K X : Type 0} (f : X → ℕ) where
  abbrev pub total : List (K × X) → ℕ
  total es = sum_by (λ e. f e.1) es

  pub total-swap_remove : (test : K → Bool) (es : List (K × X)) (s : X) → lookup test es ≡ Some s
      → total (swap_remove_entry test es) + f s ≡ total es
  total-swap_remove test es s h =
      let r = swap_removed test es s h in
      let at = found_at test es s h in
      let i = position_or_len test (keys_of es) in
      let within = slice_get_within es i _ at.at in
      let value : get_or es i r.0 ≡ (at.stored, s) = get_or_from_slice_get es i _ r.0 at.at in
      let w = sum_by-swap_remove (λ (e : K × X). f e.1) es i r.0 within in
      rw r.1 (rw value at w)

  module _ (eq : K → K → Bool) (k : K) (v : X) where
    pub total-new : (es : List (K × X)) → lookup (eq k) es ≡ None
        → total (insert_entry eq es k v) ≡ total es + f v
    total-new [] h = grind arith
    total-new (e ∷ es) h =
        let g = λ (e : K × X). f e.1 in
        grind (arith, total-new es, sum_by-cons g e es, sum_by-cons g e (insert_entry eq es k v))

    pub total-there : (es : List (K × X)) (s : X) → lookup (eq k) es ≡ Some s
        → total (insert_entry eq es k v) + f s ≡ total es + f v
    total-there [] s h = grind arith
    total-there (e ∷ es) s h =
        let g = λ (e : K × X). f e.1 in
        grind (
          arith,
          total-there es s,
          sum_by-cons g e es,
          sum_by-cons g (e.0, v) es,
          sum_by-cons g e (insert_entry eq es k v),
        )

    pub keys-new : (es : List (K × X)) → lookup (eq k) es ≡ None
        → keys_of (insert_entry eq es k v) ≡ keys_of es ++ k ∷ []
    keys-new [] h = grind arith
    keys-new (e ∷ es) h = grind (arith, keys-new es)

    pub keys-there : (es : List (K × X)) (s : X) → lookup (eq k) es ≡ Some s
        → keys_of (insert_entry eq es k v) ≡ keys_of es
    keys-there [] s h = grind arith
    keys-there (e ∷ es) s h = grind (arith, keys-there es s)

  pub total-lookup : (test : K → Bool) (es : List (K × X)) (s : X) → lookup test es ≡ Some s → f s ≤ total es
  total-lookup test es s h = omega (arith, total-swap_remove test es s h)

  pub total-le : ((x : X) → f x ≤ 65535) → (es : List (K × X)) → total es ≤ 65535 * length es
  total-le h [] = grind arith
  total-le h (e ∷ es) =
      let more = sum_by-cons (λ (e : K × X). f e.1) e es in omega (arith, more, total-le h es, h e.1)
