-- How long a flow stays in the table.
use Rattle.std.proofs.Common.{◌≡◌, ◌∙◌, ℕ, zero, suc, ◌-◌, ◌<◌, ◌≤◌, Bool, true, false, cond, ◌||◌, List, [], ◌∷◌}
use Rattle.std.proofs.Common.{Option, Some, None, option_map, length, take, slice_get, refl, ap, sym, subst, true≢false, arith}
use Rattle.std.specs.Cmp.{IsEquivalence}
use Rattle.std.specs.List.{AllByRecursion, IsDistinct, list_any}
use Rattle.std.specs.Map.{keys_of, lookup, lookup_entry, remove_entry}
use Rattle.std.specs.Option.{option_map_or}
use Rattle.std.proofs.lemmas.Map.Made.{length-le_from_is_member}
use Rattle.tcp_streams.specs.declared.flow.Flow.{Flow}
use Rattle.tcp_streams.specs.Flows.{FlowsStay, IsKept, Keyed, Table, dropped_flow, is_flow_of, table_with}
use Rattle.lru.proofs.CallerLemmas.{Contains-lookup_entry}
use Rattle.tcp_streams.proofs.FlowLemmas.{apart, lookup_of_entry}

-- the keys of the entries before the first one whose key passes
abbrev before : {K X : Type 0} → (K → Bool) → List (K × X) → List K
before test [] = []
before test (e ∷ es) = cond (test e.0) [] (e.0 ∷ before test es)

module _ {K X : Type 0} (P : K → Type 0) where
  all_before : (test : K → Bool) (es : List (K × X)) → AllByRecursion P (keys_of es) → AllByRecursion P (before test es)
  all_before test [] h = tt
  all_before test (e ∷ es) h = by (test e.0) refl (all_before test es h.1)
    where
      by : (b : Bool) → test e.0 ≡ b → AllByRecursion P (before test es) → AllByRecursion P (before test (e ∷ es))
      by true is others = rw is tt
      by false is others = rw is (h.0, others)

  before_taken : (test : K → Bool) (es : List (K × X)) (n : ℕ) → AllByRecursion P (before test es)
      → AllByRecursion P (before test (take n es))
  before_taken test [] zero h = tt
  before_taken test (e ∷ es) zero h = tt
  before_taken test [] (suc n) h = tt
  before_taken test (e ∷ es) (suc n) h = by (test e.0) refl (before_taken test es n)
    where
      by : (b : Bool) → test e.0 ≡ b
          → (AllByRecursion P (before test es) → AllByRecursion P (before test (take n es)))
          → AllByRecursion P (before test (e ∷ take n es))
      by true is others = rw is tt
      by false is others = let both = rw is at h in rw is (both.0, others both.1)

  before_removed : (test other : K → Bool) → ((k : K) → other k ≡ true → test k ≡ false) → (es : List (K × X))
      → AllByRecursion P (before test es) → AllByRecursion P (before test (remove_entry other es))
  before_removed test other apart [] h = tt
  before_removed test other apart (e ∷ es) h =
      by (other e.0) (test e.0) refl refl (before_removed test other apart es)
    where
      by : (b c : Bool) → other e.0 ≡ b → test e.0 ≡ c
          → (AllByRecursion P (before test es) → AllByRecursion P (before test (remove_entry other es)))
          → AllByRecursion P (before test (remove_entry other (e ∷ es)))
      by true true o t others = absurd (true≢false (sym t ∙ apart e.0 o))
      by true false o t others = let both = rw t at h in rw o both.1
      by false true o t others = rw (o, t) tt
      by false false o t others = let both = rw t at h in rw (o, t) (both.0, others both.1)

  all_removed : (test : K → Bool) (es : List (K × X)) → AllByRecursion P (keys_of es)
      → AllByRecursion P (keys_of (remove_entry test es))
  all_removed test [] h = tt
  all_removed test (e ∷ es) h = by (test e.0) refl (all_removed test es h.1)
    where
      by : (b : Bool) → test e.0 ≡ b → AllByRecursion P (keys_of (remove_entry test es))
          → AllByRecursion P (keys_of (remove_entry test (e ∷ es)))
      by true is others = rw is h.1
      by false is others = rw is (h.0, others)

  all_taken : (es : List (K × X)) (n : ℕ) → AllByRecursion P (keys_of es) → AllByRecursion P (keys_of (take n es))
  all_taken [] zero h = tt
  all_taken (e ∷ es) zero h = tt
  all_taken [] (suc n) h = tt
  all_taken (e ∷ es) (suc n) h = (h.0, all_taken es n h.1)

  all_found : (test : K → Bool) (es : List (K × X)) (f : K × X) → lookup_entry test es ≡ Some f
      → AllByRecursion P (keys_of es) → P f.0
  all_found test [] f is h = cc
  all_found test (e ∷ es) f is h = by (test e.0) refl (all_found test es f)
    where
      by : (b : Bool) → test e.0 ≡ b → (lookup_entry test es ≡ Some f → AllByRecursion P (keys_of es) → P f.0) → P f.0
      by true t others = let found = rw t at is in let same : e ≡ f = cc in subst (λ (g : K × X). P g.0) same h.0
      by false t others = others (rw t at is) h.1

module _ {K X : Type 0} where
  none_at : (test : K → Bool) (es : List (K × X)) (n : ℕ) → AllByRecursion (λ k. test k ≡ false) (keys_of es)
      → option_map_or (λ (e : K × X). test e.0) (slice_get es n) false ≡ false
  none_at test [] n h = refl
  none_at test (e ∷ es) zero h = h.0
  none_at test (e ∷ es) (suc n) h = none_at test es n h.1

  none_passes : (test : K → Bool) (es : List (K × X)) → lookup_entry test es ≡ None
      → AllByRecursion (λ k. test k ≡ false) (keys_of es)
  none_passes test [] is = tt
  none_passes test (e ∷ es) is = by (test e.0) refl (none_passes test es)
    where
      by : (b : Bool) → test e.0 ≡ b
          → (lookup_entry test es ≡ None → AllByRecursion (λ k. test k ≡ false) (keys_of es))
          → AllByRecursion (λ k. test k ≡ false) (keys_of (e ∷ es))
      by true t others = let found = rw t at is in cc
      by false t others = (t, others (rw t at is))

module _ {K : Type 0} (same : K → K → Bool) (laws : IsEquivalence same) where
  all_others : (key k : K) → same key k ≡ true → (xs : List K) → AllByRecursion (λ y. same k y ≡ false) xs
      → AllByRecursion (λ y. same key y ≡ false) xs
  all_others key k is [] h = tt
  all_others key k is (x ∷ xs) h = (laws.congr key k x is ∙ h.0, all_others key k is xs h.1)

  any_same : (key k : K) → same key k ≡ true → (xs : List K) → list_any (same key) xs ≡ list_any (same k) xs
  any_same key k is [] = refl
  any_same key k is (x ∷ xs) = rw (laws.congr key k x is, any_same key k is xs) refl

  any_of : (others xs : List K) (x : K) → AllByRecursion (λ k. list_any (same k) others ≡ true) xs
      → list_any (same x) xs ≡ true → list_any (same x) others ≡ true
  any_of others [] x h is = cc
  any_of others (k ∷ xs) x h is = by (same x k) refl (any_of others xs x h.1)
    where
      by : (b : Bool) → same x k ≡ b → (list_any (same x) xs ≡ true → list_any (same x) others ≡ true)
          → list_any (same x) others ≡ true
      by true t rest = any_same x k t others ∙ h.0
      by false t rest = rest (rw t at is)

  distinct_before : {X : Type 0} (test : K → Bool) (es : List (K × X)) → IsDistinct same (keys_of es)
      → IsDistinct same (before test es)
  unfolding IsDistinct
  distinct_before test [] d = tt
  distinct_before test (e ∷ es) d = by (test e.0) refl (distinct_before test es d.1)
    where
      by : (b : Bool) → test e.0 ≡ b → IsDistinct same (before test es) → IsDistinct same (before test (e ∷ es))
      by true is others = rw is tt
      by false is others = rw is (all_before (λ y. same e.0 y ≡ false) test es d.0, others)

  distinct_taken : {X : Type 0} (es : List (K × X)) (n : ℕ) → IsDistinct same (keys_of es)
      → IsDistinct same (keys_of (take n es))
  unfolding IsDistinct
  distinct_taken [] zero d = tt
  distinct_taken (e ∷ es) zero d = tt
  distinct_taken [] (suc n) d = tt
  distinct_taken (e ∷ es) (suc n) d = (all_taken (λ y. same e.0 y ≡ false) es n d.0, distinct_taken es n d.1)

  distinct_removed : {X : Type 0} (test : K → Bool) (es : List (K × X)) (f : K × X) → lookup_entry test es ≡ Some f
      → IsDistinct same (keys_of es) → IsDistinct same (f.0 ∷ keys_of (remove_entry test es))
  unfolding IsDistinct
  distinct_removed test [] f is d = cc
  distinct_removed {X} test (e ∷ es) f is d = by (test e.0) refl (distinct_removed test es f)
    where
      by : (b : Bool) → test e.0 ≡ b
          → (lookup_entry test es ≡ Some f → IsDistinct same (keys_of es)
          → IsDistinct same (f.0 ∷ keys_of (remove_entry test es)))
          → IsDistinct same (f.0 ∷ keys_of (remove_entry test (e ∷ es)))
      by true t others =
          let found = rw t at is in
          let first : e ≡ f = cc in
          rw t (subst (λ (g : K × X). AllByRecursion (λ y. same g.0 y ≡ false) (keys_of es)) first d.0, d.1)
      by false t others =
          let found = rw t at is in
          let rest = others found d.1 in
          rw t (
            (laws.symm f.0 e.0 ∙ all_found (λ y. same e.0 y ≡ false) test es f found d.0, rest.0),
            (all_removed (λ y. same e.0 y ≡ false) test es d.0, rest.1),
          )

  dropped_other : {X : Type 0} (key : K) (es : List (K × X)) (n : ℕ) → IsDistinct same (keys_of es)
      → length (before (same key) es) < n
      → option_map_or (λ (e : K × X). same key e.0) (slice_get es n) false ≡ false
  unfolding IsDistinct
  dropped_other key [] n d less = refl
  dropped_other key (e ∷ es) zero d less = absurd (omega arith)
  dropped_other {X} key (e ∷ es) (suc n) d less = by (same key e.0) refl (dropped_other key es n d.1)
    where
      by : (b : Bool) → same key e.0 ≡ b
          → (length (before (same key) es) < n
          → option_map_or (λ (f : K × X). same key f.0) (slice_get es n) false ≡ false)
          → option_map_or (λ (f : K × X). same key f.0) (slice_get es n) false ≡ false
      by true is others = none_at (same key) es n (all_others key e.0 is (keys_of es) d.0)
      by false is others = let shorter = rw is at less in others (omega arith)

  -- those before a key are no more than the others, less one if another one isn't among them
  fewer : {X : Type 0} (others : List K) (key k : K) (es : List (K × X)) → IsDistinct same (keys_of es)
      → AllByRecursion (λ y. same k y ≡ false) (keys_of es) → list_any (same k) others ≡ true
      → AllByRecursion (λ y. list_any (same y) others ≡ true) (before (same key) es)
      → length (before (same key) es) < length others
  unfolding IsDistinct
  fewer others key k es d new member ahead =
      let keys = k ∷ before (same key) es in
      let distinct : IsDistinct same keys = (all_before (λ y. same k y ≡ false) (same key) es new, distinct_before (same key) es d) in
      let le : length keys ≤ length others =
      length-le_from_is_member laws keys others distinct (λ x is. any_of others keys x (member, ahead) is) in
      omega arith

  -- the keys of flows differ, and those before the flow of a key are of these
  record IsAhead {T : Type 0} (others : List K) (key : K) (table : Table K T) : Type 0 where
    distinct : IsDistinct same (keys_of table.flows)
    ahead : AllByRecursion (λ k. list_any (same k) others ≡ true) (before (same key) table.flows)

  module _ {T : Type 0} where
    distinct_after : (table : Table K T) (p : Keyed K T) → IsDistinct same (keys_of table.flows)
        → IsDistinct same (keys_of (table_with same table p.key p.packet p.value).flows)
    unfolding IsDistinct
    distinct_after table p d = by (lookup_entry (same p.key) table.flows) refl
      where
        by : (o : Option (K × Flow T)) → lookup_entry (same p.key) table.flows ≡ o
            → IsDistinct same (keys_of (table_with same table p.key p.packet p.value).flows)
        by None is = rw is (
          all_taken (λ y. same p.key y ≡ false) table.flows (table.most - 1) (none_passes (same p.key) table.flows is),
          distinct_taken table.flows (table.most - 1) d,
        )
        by (Some f) is = rw is (distinct_removed (same p.key) table.flows f is d)

    own_first : (others : List K) (key : K) (table : Table K T) (p : Keyed K T) → same key p.key ≡ true
        → AllByRecursion (λ k. list_any (same k) others ≡ true)
        (before (same key) (table_with same table p.key p.packet p.value).flows)
    own_first others key table p own = by (lookup_entry (same p.key) table.flows) refl
      where
        by : (o : Option (K × Flow T)) → lookup_entry (same p.key) table.flows ≡ o
            → AllByRecursion (λ k. list_any (same k) others ≡ true)
            (before (same key) (table_with same table p.key p.packet p.value).flows)
        by None is = rw (is, own) tt
        by (Some f) is =
            let passes : same p.key f.0 ≡ true = (Contains-lookup_entry (same p.key) table.flows f is).1 in
            rw (is, laws.congr key p.key f.0 own ∙ passes) tt

    other_first : (others : List K) (key : K) (table : Table K T) (p : Keyed K T) → same key p.key ≡ false
        → list_any (same p.key) others ≡ true → IsAhead others key table
        → AllByRecursion (λ k. list_any (same k) others ≡ true)
        (before (same key) (table_with same table p.key p.packet p.value).flows)
    other_first others key table p differ member h = by (lookup_entry (same p.key) table.flows) refl
      where
        by : (o : Option (K × Flow T)) → lookup_entry (same p.key) table.flows ≡ o
            → AllByRecursion (λ k. list_any (same k) others ≡ true)
            (before (same key) (table_with same table p.key p.packet p.value).flows)
        by None is = rw (is, differ)
            (member, before_taken (λ k. list_any (same k) others ≡ true) (same key) table.flows (table.most - 1) h.ahead)
        by (Some f) is =
            let passes : same p.key f.0 ≡ true = (Contains-lookup_entry (same p.key) table.flows f is).1 in
            rw (is, apart same laws key p.key f.0 passes differ) (
              sym (any_same p.key f.0 passes others) ∙ member,
              before_removed (λ k. list_any (same k) others ≡ true) (same key) (same p.key)
                  (λ k other. apart same laws key p.key k other differ) table.flows h.ahead,
            )

    keeps : (others : List K) (key : K) (table : Table K T) (p : Keyed K T) → length others < table.most
        → same key p.key || list_any (same p.key) others ≡ true → IsAhead others key table
        → is_flow_of same key (dropped_flow same table p.key) ≡ false
    keeps others key table p room is_other h = by (lookup_entry (same p.key) table.flows) (same key p.key) refl refl
      where
        by : (o : Option (K × Flow T)) (own : Bool) → lookup_entry (same p.key) table.flows ≡ o → same key p.key ≡ own
            → is_flow_of same key (dropped_flow same table p.key) ≡ false
        by (Some f) own is e =
            let there : lookup (same p.key) table.flows ≡ Some f.1 =
            lookup_of_entry (same p.key) table.flows ∙ ap (option_map (λ (g : K × Flow T). g.1)) is in
            rw there refl
        by None true is e =
            let missing : lookup (same p.key) table.flows ≡ None =
            lookup_of_entry (same p.key) table.flows ∙ ap (option_map (λ (g : K × Flow T). g.1)) is in
            rw missing (none_at (same key) table.flows (table.most - 1)
            (all_others key p.key e (keys_of table.flows) (none_passes (same p.key) table.flows is)))
        by None false is e =
            let missing : lookup (same p.key) table.flows ≡ None =
            lookup_of_entry (same p.key) table.flows ∙ ap (option_map (λ (g : K × Flow T). g.1)) is in
            let less = fewer others key p.key table.flows h.distinct (none_passes (same p.key) table.flows is)
            (rw e at is_other) h.ahead in
            rw missing (dropped_other key table.flows (table.most - 1) h.distinct (omega arith))

    ahead_after : (others : List K) (key : K) (table : Table K T) (p : Keyed K T)
        → same key p.key || list_any (same p.key) others ≡ true → IsAhead others key table
        → IsAhead others key (table_with same table p.key p.packet p.value)
    ahead_after others key table p is_other h = record {
      distinct = distinct_after table p h.distinct;
      ahead = by (same key p.key) refl;
    }
      where
        by : (own : Bool) → same key p.key ≡ own
            → AllByRecursion (λ k. list_any (same k) others ≡ true)
            (before (same key) (table_with same table p.key p.packet p.value).flows)
        by true e = own_first others key table p e
        by false e = other_first others key table p e (rw e at is_other) h

    kept_from : (others : List K) (key : K) (table : Table K T) (later : List (Keyed K T)) → length others < table.most
        → AllByRecursion (λ p. same key p.key || list_any (same p.key) others ≡ true) later
        → IsAhead others key table → IsKept same key table later
    kept_from others key table [] room are h = tt
    kept_from others key table (p ∷ ps) room are h = (
      keeps others key table p room are.0 h,
      kept_from others key (table_with same table p.key p.packet p.value) ps room are.1
          (ahead_after others key table p are.0 h),
    )

    pub stay : FlowsStay K T same
    stay table p later others distinct room are =
        kept_from others p.key (table_with same table p.key p.packet p.value) later room are
        (record { distinct = distinct_after table p distinct; ahead = own_first others p.key table p (laws.refl p.key) })
