-- Stored fragments in order, as one more is put among them.
use Rattle.std.proofs.Common.{◌≡◌, ℕ, ◌+◌, ◌-◌, ◌<◌, ◌≤◌, inl, inr, List, length, get_or, arith, ap, ◌∙◌, refl, Err}
use Rattle.std.proofs.lemmas.Bool.{cases_lt}
use Rattle.std.proofs.lemmas.List.{get_or_default}
use Rattle.std.proofs.lemmas.List.Edits.{length-insert, get_or-insert_below, get_or-insert_at, get_or-insert_above}
use Rattle.std.proofs.lemmas.List.Sorted.{searchable_from_sorted}
use Rattle.std.specs.Cmp.{IsTotalOrder, then_total, on_total, nat_cmp_total, bool_cmp_total}
use Rattle.std.specs.List.{Contains, insert}
use Rattle.std.specs.List.Sorted.{IsBinarySearchResult, IsNonDecreasingBy}
use Rattle.std.specs.Ordering.{is_lt, nat_cmp, ordering_index, ordering_reverse, ordering_then}
use Rattle.std.specs.declared.cmp.Ordering.{Ordering}
use Rattle.std.specs.declared.cmp.Ordering.TheVariants.{Less, Equal}
use Rattle.etherparse.specs.declared.defrag.stored_fragment.StoredFragment.{StoredFragment}
use Rattle.etherparse.specs.StoredFragment.{AreListed, IsGapFor, stored_cmp}

stored_total : IsTotalOrder stored_cmp
stored_total = then_total (on_total (λ (m : StoredFragment). m.start) nat_cmp_total)
    (then_total (on_total (λ (m : StoredFragment). m.end) nat_cmp_total)
    (on_total (λ (m : StoredFragment). m.more_fragments) bool_cmp_total))

pub same_from_cmp : (a b : StoredFragment) → stored_cmp a b ≡ Equal → a ≡ b
same_from_cmp a b h = grind arith

turned : (a b : StoredFragment) (o : Ordering) → stored_cmp a b ≡ o → stored_cmp b a ≡ ordering_reverse o
turned a b o h = stored_total.antisymm b a ∙ ap ordering_reverse h

-- the comparisons with a stored fragment rise along the list, as a search requires
pub cmp_rises : (ms : List StoredFragment) (m : StoredFragment) → AreListed ms
    → IsNonDecreasingBy (λ a. ordering_index (stored_cmp a m)) ms
cmp_rises ms m listed = searchable_from_sorted stored_total (λ (a : StoredFragment). a) ms m
    (λ k d low high. ap is_lt
    (turned (get_or ms k d) (get_or ms (k + 1) d) Less (listed k (k + 1) d (omega arith) high)))

-- one that has a gap isn't among them
pub gap_without : (ms : List StoredFragment) (m : StoredFragment) (i : ℕ) → IsGapFor ms m i → Contains ms m → ⊥
gap_without ms m i gap at = grind arith

pub listed_insert : (ms : List StoredFragment) (m : StoredFragment) (i : ℕ) → AreListed ms → i ≤ length ms
    → IsGapFor ms m i → AreListed (insert ms i m)
listed_insert ms m i listed within gap k j d low high =
    let long = length-insert ms i m within in
    elim (cases_lt j i) [
      | inl b ↦ grind (arith, get_or-insert_below)
      | inr b ↦ elim (cases_lt i j) [
        | inl c ↦
            let above : get_or (insert ms i m) j d ≡ get_or ms (j - 1) d =
            grind (arith, get_or-insert_above) in
            elim (cases_lt k i) [
              | inl e ↦ grind (arith, get_or-insert_below)
              | inr e ↦ elim (cases_lt i k) [
                | inl g ↦
                    let over : get_or (insert ms i m) k d ≡ get_or ms (k - 1) d =
                    grind (arith, get_or-insert_above) in
                    grind arith
                | inr g ↦
                    let here : k ≡ i = omega arith in
                    grind (arith, get_or-insert_at, turned)
              ]
            ]
        | inr c ↦
            let here : j ≡ i = omega arith in
            grind (arith, get_or-insert_at, get_or-insert_below)
      ]
    ]

less_from : (x y : ℕ) → x < y → nat_cmp x y ≡ Less
less_from x y below = grind arith

less_then : (a b : Ordering) → a ≡ Less → ordering_then a b ≡ Less
less_then a b h = rw h refl

least : (o : Ordering) → ordering_index o ≤ 0 → o ≡ Less
least o h = grind arith

-- one that starts after the start of the last is put after all
pub goes_last : (ms : List StoredFragment) (m d : StoredFragment) → 0 < length ms
    → (get_or ms (length ms - 1) d).start < m.start
    → IsBinarySearchResult (λ a. stored_cmp a m) ms (Err (length ms))
goes_last ms m d some following rises =
    let last_less : stored_cmp (get_or ms (length ms - 1) d) m ≡ Less =
    less_then _ _ (less_from _ _ following) in (
      (λ k e low high.
          let last_is : ordering_index (stored_cmp (get_or ms (length ms - 1) e) m) ≡ 0 =
          grind (arith, get_or_default) in
          least (stored_cmp (get_or ms k e) m)
          (omega (arith, rises k (length ms - 1) e (omega arith) (omega arith), last_is))),
      (λ k e low high. absurd (omega arith)),
    )
