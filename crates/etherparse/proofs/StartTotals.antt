-- What the reassemblies of names hold, in the order of their starts.
use Rattle.std.proofs.Common.{◌≡◌, ℕ, zero, suc, ◌+◌, ◌<◌, ◌≤◌, Bool, true, false, List, [], ◌∷◌, length, arith, refl}
use Rattle.std.proofs.Common.{◌∙◌, sym, ap, Option, Some, None, nat_lt, get_or}
use Rattle.std.proofs.lemmas.Bool.{cond-true, cond-false}
use Rattle.std.proofs.lemmas.Bool.Decides.{nat_tests}
use Rattle.std.proofs.lemmas.List.{length-map}
use Rattle.std.proofs.lemmas.List.Sums.{sum_by-cons}
use Rattle.std.specs.Cmp.{IsEquivalence}
use Rattle.std.specs.Prelude.{◌==◌, slice_get}
use Rattle.std.specs.List.{AllByRecursion, IsDistinct, cons_option, filter_map, sum_by}
use Rattle.std.specs.Map.{keys_of, lookup}
use Rattle.etherparse.specs.ReassemblyTable.{Pool, reassembly_at}
use Rattle.etherparse.specs.Starts.{Tracks, bytes_held, names_in}
use Rattle.etherparse.specs.StartedBytes.{bytes_held_if, bytes_of}
use Rattle.etherparse.specs.declared.defrag.reassembly.Reassembly.{Reassembly}
use Rattle.etherparse.specs.StartOrder.{AreDistinct, IsOrder, has, without}

-- the sum over some numbers, and over all below one
abbrev sums : (ℕ → ℕ) → List ℕ → ℕ
sums g [] = 0
sums g (n ∷ ns) = g n + sums g ns

abbrev below : (ℕ → ℕ) → ℕ → ℕ
below g zero = 0
below g (suc n) = below g n + g n

none_without : (n : ℕ) (ns : List ℕ) → has n ns ≡ false → without n ns ≡ ns
none_without n [] h = refl
none_without n (m ∷ ns) h = grind (arith, nat_tests, none_without n ns)

sums_without : (g : ℕ → ℕ) (n : ℕ) (ns : List ℕ) → AreDistinct ns → has n ns ≡ true
    → sums g ns ≡ g n + sums g (without n ns)
sums_without g n [] d h = grind arith
sums_without g n (m ∷ ns) d h = grind (arith, nat_tests, none_without n ns, sums_without g n ns d.1)

has_without : (n s : ℕ) (ns : List ℕ) → has s (without n ns) ≡ true → has s ns ≡ true
has_without n s [] h = h
has_without n s (m ∷ ns) h = grind (arith, nat_tests, has_without n s ns)

has_others : (n s : ℕ) (ns : List ℕ) → (s == n) ≡ false → has s (without n ns) ≡ has s ns
has_others n s [] h = refl
has_others n s (m ∷ ns) h = grind (arith, nat_tests, has_others n s ns h)

has_none : (n : ℕ) (ns : List ℕ) → has n (without n ns) ≡ false
has_none n [] = refl
has_none n (m ∷ ns) = grind (arith, nat_tests, has_none n ns)

distinct_without : (n : ℕ) (ns : List ℕ) → AreDistinct ns → AreDistinct (without n ns)
distinct_without n [] d = tt
distinct_without n (m ∷ ns) d = grind (arith, nat_tests, distinct_without n ns d.1, has_others n m ns)

-- all numbers below one, each once, in whatever order
sums_all : (g : ℕ → ℕ) (n : ℕ) (ns : List ℕ) → AreDistinct ns → ((s : ℕ) → has s ns ≡ nat_lt s n)
    → sums g ns ≡ below g n
sums_all g zero [] d h = refl
sums_all g zero (m ∷ ns) d h = absurd (grind (arith, nat_tests, h m))
sums_all g (suc n) ns d h =
    let there : has n ns ≡ true = h n ∙ grind (arith, nat_tests) in
    let one = sums_without g n ns d there in
    let others = sums_all g n (without n ns) (distinct_without n ns d) (λ s. grind (arith, nat_tests, h s, has_others n s ns, has_none n ns)) in
    omega (arith, one, others)

abbrev of_value : {X : Type 0} → (X → ℕ) → Option X → ℕ
of_value f None = 0
of_value f (Some x) = f x

keys_at : {K X : Type 0} (es : List (K × X)) (i : ℕ) (e : K × X) → slice_get es i ≡ Some e
    → slice_get (keys_of es) i ≡ Some e.0
keys_at [] i e at = absurd (grind (arith, at))
keys_at (x ∷ es) zero e at = cc at
keys_at (x ∷ es) (suc i) e at = keys_at es i e at

none_within : {X : Type 0} (es : List X) (s : ℕ) → s < length es → slice_get es s ≡ None → ⊥
none_within [] s within at = omega (arith, within)
none_within (x ∷ es) zero within at = absurd (grind (arith, at))
none_within (x ∷ es) (suc s) within at = none_within es s (omega (arith, within)) at

module _ {K X : Type 0} (f : X → ℕ) where
  abbrev of_entry : Option (K × X) → ℕ
  of_entry None = 0
  of_entry (Some e) = f e.1

  below_more : (e : K × X) (es : List (K × X)) (n : ℕ)
      → below (λ i. of_entry (slice_get (e ∷ es) i)) (suc n) ≡ f e.1 + below (λ i. of_entry (slice_get es i)) n
  below_more e es zero = omega arith
  below_more e es (suc n) = omega (arith, below_more e es n)

  total_below : (es : List (K × X))
      → below (λ i. of_entry (slice_get es i)) (length es) ≡ sum_by (λ e. f e.1) es
  total_below [] = refl
  total_below (e ∷ es) = below_more e es (length es) ∙ omega (arith, total_below es, sum_by-cons (λ (e : K × X). f e.1) e es)

  module _ (eq : K → K → Bool) (laws : IsEquivalence eq) where
    apart_at : (k : K) (es : List (K × X)) (i : ℕ) (e : K × X)
        → AllByRecursion (λ y. eq k y ≡ false) (keys_of es) → slice_get es i ≡ Some e → eq k e.0 ≡ false
    apart_at k [] i e all at = absurd (grind (arith, at))
    apart_at k (x ∷ es) zero e all at = let same : x ≡ e = cc at in rw same at all.0
    apart_at k (x ∷ es) (suc i) e all at = apart_at k es i e all.1 at

    -- what is found under the name of an entry
    lookup_at : (es : List (K × X)) (i : ℕ) (e : K × X) → IsDistinct eq (keys_of es)
        → slice_get es i ≡ Some e → lookup (eq e.0) es ≡ Some e.1
    unfolding IsDistinct
    lookup_at [] i e d at = absurd (grind (arith, at))
    lookup_at (x ∷ es) zero e d at =
        let same : x ≡ e = cc at in
        rw same (cond-true (eq e.0 e.0) (Some e.1) (lookup (eq e.0) es) (laws.refl e.0))
    lookup_at (x ∷ es) (suc i) e d at =
        let other : eq e.0 x.0 ≡ false = laws.symm e.0 x.0 ∙ apart_at x.0 es i e d.0 at in
        cond-false (eq e.0 x.0) (Some x.1) (lookup (eq e.0) es) other ∙ lookup_at es i e d.1 at

    abbrev of_names : List (K × X) → List K → ℕ
    of_names es [] = 0
    of_names es (k ∷ ks) = of_value f (lookup (eq k) es) + of_names es ks

    one_name : (es : List (K × X)) (s : ℕ) (o : Option (K × X)) (names : List K) → slice_get es s ≡ o
        → s < length es → IsDistinct eq (keys_of es)
        → of_names es (cons_option (slice_get (keys_of es) s) names) ≡ of_entry (slice_get es s) + of_names es names
    one_name es s None names at within d = absurd (none_within es s within at)
    one_name es s (Some e) names at within d =
        rw (keys_at es s e at, at, lookup_at es s e d at) refl

    names_total : (es : List (K × X)) (order : List ℕ) → IsDistinct eq (keys_of es)
        → ((s : ℕ) → has s order ≡ true → s < length es)
        → of_names es (filter_map (λ slot. slice_get (keys_of es) slot) order)
        ≡ sums (λ i. of_entry (slice_get es i)) order
    names_total es [] d h = refl
    names_total es (s ∷ order) d h =
        let within = h s (grind (arith, nat_tests)) in
        let later = names_total es order d (λ t i. h t (grind (arith, nat_tests))) in
        let e = get_or es s in
        one_name es s (slice_get es s) (filter_map (λ slot. slice_get (keys_of es) slot) order) refl within d
        ∙ ap (λ (n : ℕ). of_entry (slice_get es s) + n) later

    -- what the reassemblies of all names hold, in the order of their starts
    pub of_starts : (es : List (K × X)) (order : List ℕ) → IsDistinct eq (keys_of es) → IsOrder order
        → length order ≡ length es
        → of_names es (filter_map (λ slot. slice_get (keys_of es) slot) order) ≡ sum_by (λ e. f e.1) es
    of_starts es order d o len =
        names_total es order d (λ s i. grind (arith, nat_tests, o.members s))
        ∙ sums_all (λ i. of_entry (slice_get es i)) (length es) order o.distinct
        (λ s. o.members s ∙ ap (nat_lt s) len)
        ∙ total_below es

names_length : {K : Type 0} (ks : List K) (order : List ℕ) → ((s : ℕ) → has s order ≡ true → s < length ks)
    → length (filter_map (λ slot. slice_get ks slot) order) ≡ length order
names_length ks [] h = refl
names_length {K = K} ks (s ∷ order) h =
    one (slice_get ks s) refl (names_length ks order (λ t i. h t (grind (arith, nat_tests))))
  where
    one : (o : Option K) → slice_get ks s ≡ o
        → length (filter_map (λ slot. slice_get ks slot) order) ≡ length order
        → length (cons_option (slice_get ks s) (filter_map (λ slot. slice_get ks slot) order)) ≡ suc (length order)
    one None at later = absurd (none_within ks s (h s (grind (arith, nat_tests))) at)
    one (Some k) at later = rw at (omega (arith, later))

-- there are as many names as entries
pub starts_length : {K : Type 0} (ks : List K) (order : List ℕ) → IsOrder order → length order ≡ length ks
    → length (filter_map (λ slot. slice_get ks slot) order) ≡ length ks
starts_length ks order o len = names_length ks order (λ s i. grind (arith, nat_tests, o.members s)) ∙ len

module _ {K T : Type 0} (eq : K → K → Bool) (laws : IsEquivalence eq) where
  names_hold : (pool : Pool K T) (names : List K)
      → bytes_of eq pool names ≡ of_names bytes_held eq laws pool.reassemblies names
  names_hold pool [] = refl
  names_hold pool (name ∷ names) = held (reassembly_at eq pool name) (names_hold pool names)
    where
      held : (s : Option (Reassembly T))
          → bytes_of eq pool names ≡ of_names bytes_held eq laws pool.reassemblies names
          → bytes_held_if s + bytes_of eq pool names
          ≡ of_value bytes_held s + of_names bytes_held eq laws pool.reassemblies names
      held None same = omega (arith, same)
      held (Some s) same = ap (λ (n : ℕ). bytes_held s + n) same

  -- what all reassemblies hold is what those of the names hold that started
  pub starts_hold : (es : List (K × Reassembly T)) (order : List ℕ) (held : ℕ) (pool : Pool K T)
      → pool.reassemblies ≡ es → pool.starts ≡ names_in (keys_of es) order → IsDistinct eq (keys_of es)
      → Tracks order held es → held ≡ bytes_of eq pool pool.starts
  starts_hold es order held pool same is d t =
      t.bytes ∙ sym (of_starts bytes_held eq laws es order d t.is_order t.count)
      ∙ ap (λ (entries : List (K × Reassembly T)). of_names bytes_held eq laws entries
      (names_in (keys_of es) order)) (sym same)
      ∙ sym (names_hold pool (names_in (keys_of es) order)) ∙ ap (bytes_of eq pool) (sym is)

-- and as many names started as there are reassemblies
pub starts_count : {K T : Type 0} (es : List (K × Reassembly T)) (order : List ℕ) (held : ℕ) → Tracks order held es
    → length es ≡ length (names_in (keys_of es) order)
starts_count {K} {T} es order held t =
    let keys = length-map es (λ (e : K × Reassembly T). e.0) in
    sym keys ∙ sym (starts_length (keys_of es) order t.is_order (t.count ∙ sym keys))
