-- The bytes after a gap.
use Rattle.std.proofs.Common.{◌≡◌, ◌∙◌, ℕ, ◌+◌, ◌-◌, ◌<◌, ◌≤◌, true, false, Bor, Option, Some, None, List, []}
use Rattle.std.proofs.Common.{◌∷◌, length, drop, get_or, ltb, ◌⊎◌, inl, inr, arith, refl, sym, ap}
use Rattle.std.proofs.lemmas.Bool.{cases_lt}
use Rattle.std.proofs.lemmas.Bool.Decides.{nat_tests}
use Rattle.std.proofs.lemmas.List.{drop-drop, length-take, length-drop, get_or-take, get_or-drop}
use Rattle.std.specs.Prelude.{IfNone, IfSome, IsSome}
use Rattle.tcp_streams.specs.declared.gaps.Gap.{Gap}
use Rattle.tcp_streams.specs.Gaps.{AreGapsIn, AreRunsIn, gap_start_after, gap_after, is_missing}
use Rattle.tcp_streams.specs.PlacedSegments.{Placed, byte_at, text_of}
use Rattle.tcp_streams.specs.SparseBytes.{Sparse, IsSparse, byte_in, bytes_after_gap, held_end}
use Rattle.tcp_streams.specs.StreamBuf.{Contents, Shows, IsAfterGap, available_in}
use Rattle.tcp_streams.proofs.BufLemmas.{shows_text}
use Rattle.tcp_streams.proofs.GapLemmas.{gaps_end}
use Rattle.tcp_streams.proofs.RunLemmas.{after_own, none_by_after, none_with_none, runs_of_gaps}
use Rattle.tcp_streams.proofs.SegmentLemmas.{byte_from-is, byte_from-none}
use Rattle.tcp_streams.proofs.SparseLemmas.{not_missing_before}

-- ---- the first gap that ends after a position

next_most : (from to p : ℕ) (gs : List Gap) → AreGapsIn from to gs → gap_start_after p gs to ≤ to
next_most from to p [] o = omega arith
next_most from to p (x ∷ gs) o =
    let rest = next_most (x.end + 1) to p gs o.2 in
    let end = gaps_end (x.end + 1) to gs o.2 in
    let own = o.1 in elim (cases_lt p x.end) [
      | inl here ↦ let test : ltb p x.end ≡ true = grind (arith, nat_tests) in rw test (omega arith)
      | inr past ↦ let test : ltb p x.end ≡ false = grind (arith, nat_tests) in rw test rest
    ]

next_least : (from to p : ℕ) (gs : List Gap) → AreGapsIn from to gs → p < from → p < gap_start_after p gs to
next_least from to p [] o low = omega (arith, o)
next_least from to p (x ∷ gs) o low =
    let test : ltb p x.end ≡ true = let at = o.0 in let own = o.1 in grind (arith, nat_tests) in
    rw test (omega (arith, o.0))

there_after : (from to p q : ℕ) (gs : List Gap) → AreGapsIn from to gs → p ≤ q → q < gap_start_after p gs to
    → is_missing gs q ≡ false
there_after from to p q [] o low high = refl
there_after from to p q (x ∷ gs) o low high = elim (cases_lt p x.end) [
  | inl here ↦
      let test : ltb p x.end ≡ true = grind (arith, nat_tests) in
      not_missing_before x.start to (x ∷ gs) q (omega arith, o.1, o.2) (rw test at high)
  | inr past ↦
      let test : ltb p x.end ≡ false = grind (arith, nat_tests) in
      let rest = there_after (x.end + 1) to p q gs o.2 low (rw test at high) in grind (arith, nat_tests)
]

missing_too : (x : Gap) (gs : List Gap) (q : ℕ) → is_missing gs q ≡ true → is_missing (x ∷ gs) q ≡ true
missing_too x gs q h = grind (arith, nat_tests)

next_missing_too : (x : Gap) (gs : List Gap) (to q : ℕ) → (q ≡ to) ⊎ (is_missing gs q ≡ true)
    → (q ≡ to) ⊎ (is_missing (x ∷ gs) q ≡ true)
next_missing_too x gs to q (inl end) = inl end
next_missing_too x gs to q (inr missing) = inr (missing_too x gs q missing)

-- no byte is there
next_missing : (from to p q : ℕ) (gs : List Gap) → AreGapsIn from to gs → q ≡ gap_start_after p gs to
    → (q ≡ to) ⊎ (is_missing gs q ≡ true)
next_missing from to p q [] o is = inl is
next_missing from to p q (x ∷ gs) o is = elim (cases_lt p x.end) [
  | inl here ↦
      let test : ltb p x.end ≡ true = grind (arith, nat_tests) in
      let is : q ≡ x.start = rw test at is in
      let own = o.1 in inr (grind (arith, nat_tests))
  | inr past ↦
      let test : ltb p x.end ≡ false = grind (arith, nat_tests) in
      next_missing_too x gs to q (next_missing (x.end + 1) to p q gs o.2 (rw test at is))
]

pub record IsGapAfter (from to : ℕ) (gs : List Gap) (p : ℕ) (g : Gap) : Type 0 where
  low : from ≤ g.start
  own : g.start < g.end
  after : p < g.end
  next : g.end < gap_start_after g.end gs to
  missing : (q : ℕ) → g.start ≤ q → q < g.end → is_missing gs q ≡ true

pub gap_is : (from to p : ℕ) (gs : List Gap) (g : Gap) → AreGapsIn from to gs → gap_after p gs ≡ Some g
    → IsGapAfter from to gs p g
gap_is from to p [] g o h = cc
gap_is from to p (x ∷ gs) g o h = elim (cases_lt p x.end) [
  | inl here ↦
      let test : ltb p x.end ≡ true = grind (arith, nat_tests) in
      let same : x ≡ g = cc (rw test at h) in
      let ended : ltb x.end x.end ≡ false = grind (arith, nat_tests) in
      rw (← same) record {
        low = o.0;
        own = o.1;
        after = here;
        next = rw ended (next_least (x.end + 1) to x.end gs o.2 (omega arith));
        missing = λ q low high. grind (arith, nat_tests);
      }
  | inr past ↦
      let test : ltb p x.end ≡ false = grind (arith, nat_tests) in
      let rest = gap_is (x.end + 1) to p gs g o.2 (rw test at h) in
      let low = rest.low in
      let own = rest.own in
      let before = o.0 in
      let first = o.1 in
      let ended : ltb g.end x.end ≡ false = grind (arith, nat_tests) in record {
        low = omega arith;
        own = own;
        after = rest.after;
        next = rw ended rest.next;
        missing = λ q from below. let is = rest.missing q from below in grind (arith, nat_tests);
      }
]

-- ---- the bytes after it

module _ (held : Sparse) (sound : IsSparse held) (p : ℕ) (g : Gap) (is : gap_after p held.gaps ≡ Some g) where
  abbrev next : ℕ
  next = gap_start_after g.end held.gaps (held_end held)

  pub after_bounds : (held.taken ≤ g.end) × (g.end < next) × (next ≤ held_end held)
  after_bounds =
      let at = gap_is held.taken (held_end held) p held.gaps g sound.gaps is in
      (omega (arith, at.low, at.own), at.next, next_most held.taken (held_end held) g.end held.gaps sound.gaps)

  after_size : length (bytes_after_gap held g) ≡ next - g.end
  after_size = simp (length-take, length-drop) (omega (arith, after_bounds.0, after_bounds.1, after_bounds.2))

  byte_after : (j : ℕ) → j < length (bytes_after_gap held g)
      → byte_in held (g.end + j) ≡ Some (get_or (bytes_after_gap held g) j 0)
  byte_after j h =
      let size = after_size in
      let bounds = after_bounds in
      let there = there_after held.taken (held_end held) g.end (g.end + j) held.gaps sound.gaps (omega arith) (omega arith) in
      let here = byte_from-is held.taken held.bytes (g.end + j) (g.end - held.taken + j) (omega arith) (omega arith) in
      let short : j < next - g.end = omega arith in
      rw (
        there,
        here,
        get_or-take (next - g.end) (drop (g.end - held.taken) held.bytes) j 0 short,
        get_or-drop (g.end - held.taken) held.bytes j 0,
      )

  byte_past : byte_in held (g.end + length (bytes_after_gap held g)) ≡ None
  byte_past =
      let place : g.end + length (bytes_after_gap held g) ≡ next = omega (arith, after_size, after_bounds.1) in
      rw place (elim (next_missing held.taken (held_end held) g.end next held.gaps sound.gaps refl) [
        | inl end ↦
            let none = byte_from-none held.taken held.bytes next (omega (arith, end)) in
            grind (arith, nat_tests)
        | inr missing ↦ rw missing refl
      ])

pub shows_after_gap : (buf : Contents) (ss : List Placed) → IsSparse buf.held → Shows buf ss → (p : ℕ) (g : Gap)
    → gap_after p buf.held.gaps ≡ Some g → IsAfterGap ss g (bytes_after_gap buf.held g)
shows_after_gap buf ss sound shows p g is =
    let at = gap_is buf.held.taken (held_end buf.held) p buf.held.gaps g sound.gaps is in
    let bounds = after_bounds buf.held sound p g is in record {
      missing = λ q low high. sym (shows.held q (omega (arith, at.low))) ∙ rw (at.missing q low high) refl;
      some = omega (arith, after_size buf.held sound p g is, bounds.1);
      held = λ j h. sym (shows.held (g.end + j) (omega (arith, bounds.0))) ∙ byte_after buf.held sound p g is j h;
      past = sym (shows.held _ (omega (arith, bounds.0))) ∙ byte_past buf.held sound p g is;
    }

pub after_gap_result : (buf : Contents) (ss : List Placed) → IsSparse buf.held → Shows buf ss → (p : ℕ)
    → (r : Option (Gap × Bor (List ℕ))) → IfSome r (λ after. gap_after p buf.held.gaps ≡ Some after.0)
    → IfSome r (λ after. after.1.now ≡ bytes_after_gap buf.held after.0)
    → IfSome r (λ after. IsAfterGap ss after.0 after.1.now)
after_gap_result buf ss sound shows p None gap bytes = tt
after_gap_result buf ss sound shows p (Some after) gap bytes =
    rw bytes (shows_after_gap buf ss sound shows p after.0 gap)

-- which gap it is

module _ (buf : Contents) (ss : List Placed) (sound : IsSparse buf.held) (shows : Shows buf ss) where
  there : (q : ℕ) → buf.held.taken ≤ q → q < held_end buf.held → is_missing buf.held.gaps q ≡ false
      → byte_at ss q ≡ Some (get_or buf.held.bytes (q - buf.held.taken) 0)
  there q low high here =
      let is = byte_from-is buf.held.taken buf.held.bytes q (q - buf.held.taken) (omega arith) (omega arith) in
      sym (shows.held q low) ∙ rw here is

  in_order : AreRunsIn buf.held.taken (held_end buf.held) buf.held.gaps
  in_order = runs_of_gaps buf.held.taken (held_end buf.held) buf.held.gaps sound.gaps

  pub first_result : (p : ℕ) (r : Option (Gap × Bor (List ℕ)))
      → IfSome r (λ after. gap_after p buf.held.gaps ≡ Some after.0)
      → IfSome r (λ after. (q : ℕ) → buf.held.taken ≤ q → p ≤ q → q < after.0.start → IsSome (byte_at ss q))
  first_result p None is = tt
  first_result p (Some after) is = λ q low from below.
      let own = after_own buf.held.taken (held_end buf.held) p buf.held.gaps after.0 in_order is in
      let here = none_by_after buf.held.taken (held_end buf.held) p buf.held.gaps after.0 q in_order is from below in
      rw (there q low (omega (arith, own.1, own.2)) here) refl

  pub last_result : (p : ℕ) (r : Option (Gap × Bor (List ℕ))) → IfNone r (gap_after p buf.held.gaps ≡ None)
      → IfNone r ((q s : ℕ) → buf.held.taken ≤ q → p ≤ q → q ≤ s → byte_at ss q ≡ None → byte_at ss s ≡ None)
  last_result p (Some after) is = tt
  last_result p None is = λ q s low from order none. elim (cases_lt q (held_end buf.held)) [
    | inl below ↦ cc (sym (there q low below (none_with_none p buf.held.gaps q is from)) ∙ none)
    | inr past ↦
        let here = none_with_none p buf.held.gaps s is (omega arith) in
        sym (shows.held s (omega arith)) ∙ rw here (byte_from-none buf.held.taken buf.held.bytes s (omega arith))
  ]

-- ---- the available bytes from a position on

pub text_from : (buf : Contents) (ss : List Placed) → IsSparse buf.held → Shows buf ss → (p : ℕ)
    → buf.held.taken ≤ p → drop (p - buf.held.taken) (available_in buf.held) ≡ drop p (text_of ss)
text_from buf ss sound shows p low =
    rw (← shows_text buf ss sound shows) (drop-drop (p - buf.held.taken) buf.held.taken (text_of ss)
    ∙ ap (λ (n : ℕ). drop n (text_of ss)) (omega arith))
