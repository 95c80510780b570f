-- Gaps of which one may begin where the one before it ends, and the map of them.
use Rattle.std.proofs.Common.{◌≡◌, ℕ, zero, suc, ◌+◌, ◌-◌, ◌<◌, ◌≤◌, Bool, true, false, List, [], ◌∷◌, ◌++◌}
use Rattle.std.proofs.Common.{length, min, max, inl, inr, arith, refl, sym, Option, Some, None}
use Rattle.std.proofs.Common.{option_and_then, option_map, slice_get, ◌^◌, ltb}
use Rattle.std.proofs.lemmas.Bool.{cases_lt}
use Rattle.std.proofs.lemmas.Bool.Decides.{nat_tests}
use Rattle.std.specs.BTreeMap.{insert_entry, is_at}
use Rattle.std.specs.BTreeMap.Range.{entries_between}
use Rattle.std.specs.Map.{lookup, remove_entry}
use Rattle.std.specs.Ordering.{nat_cmp}
use Rattle.std.specs.Result.{IsOk}
use Rattle.std.proofs.Common.{OnErr, OnOk, Result, Ok, Err}
use Rattle.std.specs.declared.ops.Bound.TheVariants.{Excluded, Unbounded}
use Rattle.tcp_streams.specs.declared.gaps.Gap.{Gap}
use Rattle.tcp_streams.specs.Gaps.{AreGapsIn, AreRunsIn, gap_after, gaps_of, is_missing, crosses_one, missing_from}
use Rattle.tcp_streams.specs.Gaps.{clipped, split_at, with_gap, without}
use Rattle.tcp_streams.specs.PlacedSegments.{count_from}
use Rattle.tcp_streams.proofs.CountLemmas.{count_from-none, count_from-split}

-- ---- order

pub runs_weaker : (from from' to to' : ℕ) (gs : List Gap) → from' ≤ from → to ≤ to'
    → AreRunsIn from to gs → AreRunsIn from' to' gs
runs_weaker from from' to to' [] f t h = omega arith
runs_weaker from from' to to' (g ∷ gs) f t h =
    (omega arith, h.1, runs_weaker g.end g.end to to' gs (omega arith) t h.2)

pub runs_of_gaps : (from to : ℕ) (gs : List Gap) → AreGapsIn from to gs → AreRunsIn from to gs
runs_of_gaps from to [] h = h
runs_of_gaps from to (g ∷ gs) h =
    (h.0, h.1, runs_weaker (g.end + 1) g.end to to gs (omega arith) (omega arith) (runs_of_gaps (g.end + 1) to gs h.2))

pub runs_end : (from to : ℕ) (gs : List Gap) → AreRunsIn from to gs → from ≤ to
runs_end from to [] h = h
runs_end from to (g ∷ gs) h = omega (arith, runs_end g.end to gs h.2)

pushed_runs : (from to start end : ℕ) (gs : List Gap) → AreRunsIn from start gs → start < end → end ≤ to
    → AreRunsIn from to (gs ++ record { start = start; end = end } ∷ [])
pushed_runs from to start end [] h some e = (h, some, e)
pushed_runs from to start end (g ∷ gs) h some e = (h.0, h.1, pushed_runs g.end to start end gs h.2 some e)

-- ---- a gap as two

runs_split_one : (from to p : ℕ) (g : Gap) (gs : List Gap) → from ≤ g.start → g.start < g.end
    → AreRunsIn g.end to (split_at p gs) → AreRunsIn from to (split_at p (g ∷ gs))
runs_split_one from to p g gs low own h = grind (arith, nat_tests)

pub split_runs : (from to p : ℕ) (gs : List Gap) → AreRunsIn from to gs → AreRunsIn from to (split_at p gs)
split_runs from to p [] h = h
split_runs from to p (g ∷ gs) h = runs_split_one from to p g gs h.0 h.1 (split_runs g.end to p gs h.2)

pub is_missing-split : (p : ℕ) (gs : List Gap) (q : ℕ) → is_missing (split_at p gs) q ≡ is_missing gs q
is_missing-split p [] q = refl
is_missing-split p (g ∷ gs) q = grind (arith, nat_tests, is_missing-split p gs q)

pub without-split : (s e : ℕ) (gs : List Gap) → s < e → without s e (split_at s gs) ≡ without s e gs
without-split s e [] some = refl
without-split s e (g ∷ gs) some = grind (arith, nat_tests, without-split s e gs some)

pub split_whole : (p : ℕ) (gs : List Gap) → crosses_one p (split_at p gs) ≡ false
split_whole p [] = refl
split_whole p (g ∷ gs) = grind (arith, nat_tests, split_whole p gs)

-- ---- the first gap that ends after a position

abbrev gap_of : ℕ × ℕ → Gap
gap_of e = record { start = e.1; end = e.0 }

after_is : (p : ℕ) (es : List (ℕ × ℕ)) → gap_after p (gaps_of es)
    ≡ option_map (λ e. record { start = e.1; end = e.0 }) (slice_get (entries_between nat_cmp (Excluded p) Unbounded es) 0)
after_is p [] = refl
after_is p (e ∷ es) = grind (arith, nat_tests, after_is p es)

pub after_first : (p : ℕ) (es rest : List (ℕ × ℕ)) (e : ℕ × ℕ)
    → entries_between nat_cmp (Excluded p) Unbounded es ≡ e ∷ rest
    → Some (record { start = e.1; end = e.0 }) ≡ gap_after p (gaps_of es)
after_first p es rest e is = let whole = rw is at (after_is p es) in sym whole

pub after_no : (p : ℕ) (es : List (ℕ × ℕ)) → entries_between nat_cmp (Excluded p) Unbounded es ≡ []
    → None ≡ gap_after p (gaps_of es)
after_no p es is = let whole = rw is at (after_is p es) in sym whole

pub after_ends : (p : ℕ) (gs : List Gap) (g : Gap) → gap_after p gs ≡ Some g → p < g.end
after_ends p [] g is = absurd (cc is)
after_ends p (k ∷ gs) g is = grind (arith, nat_tests, after_ends p gs g)

pub after_own : (from to p : ℕ) (gs : List Gap) (g : Gap) → AreRunsIn from to gs → gap_after p gs ≡ Some g
    → (from ≤ g.start) × (g.start < g.end) × (g.end ≤ to)
after_own from to p [] g h is = absurd (cc is)
after_own from to p (k ∷ gs) g h is = elim (cases_lt p k.end) [
  | inl below ↦ grind (arith, nat_tests, runs_end k.end to gs h.2)
  | inr above ↦ let rest = after_own k.end to p gs g h.2 in grind (arith, nat_tests)
]

pub none_before : (from to : ℕ) (gs : List Gap) (q : ℕ) → AreRunsIn from to gs → q < from → is_missing gs q ≡ false
none_before from to [] q h below = refl
none_before from to (g ∷ gs) q h below =
    grind (arith, nat_tests, none_before g.end to gs q h.2 (omega arith))

pub none_by_after : (from to p : ℕ) (gs : List Gap) (g : Gap) (q : ℕ) → AreRunsIn from to gs → gap_after p gs ≡ Some g
    → p ≤ q → q < g.start → is_missing gs q ≡ false
none_by_after from to p [] g q h is low below = refl
none_by_after from to p (k ∷ gs) g q h is low below = elim (cases_lt p k.end) [
  | inl inside ↦ grind (arith, nat_tests, none_before k.end to gs q h.2)
  | inr past ↦ grind (arith, nat_tests, none_by_after k.end to p gs g q h.2)
]

all_in_after : (p : ℕ) (gs : List Gap) (g : Gap) (q : ℕ) → gap_after p gs ≡ Some g
    → g.start ≤ q → q < g.end → is_missing gs q ≡ true
all_in_after p [] g q is low below = absurd (cc is)
all_in_after p (k ∷ gs) g q is low below = grind (arith, nat_tests, all_in_after p gs g q)

pub none_with_none : (p : ℕ) (gs : List Gap) (q : ℕ) → gap_after p gs ≡ None → p ≤ q → is_missing gs q ≡ false
none_with_none p [] q is low = refl
none_with_none p (g ∷ gs) q is low = grind (arith, nat_tests, none_with_none p gs q)

-- no position from one on and up to another is missing
abbrev pub NoneMissing : List Gap → (from to : ℕ) → Type 0
NoneMissing gs from to = (p : ℕ) → from ≤ p → p < to → is_missing gs p ≡ false

-- the first positions from one on and up to another that are missing
pub record IsMissingFrom (gs : List Gap) (from to : ℕ) (gap : Gap) : Type 0 where
  pub start : from ≤ gap.start
  pub some : gap.start < gap.end
  pub end : gap.end ≤ to
  pub before : NoneMissing gs from gap.start
  pub missing : (p : ℕ) → gap.start ≤ p → p < gap.end → is_missing gs p ≡ true

part_some : (from to : ℕ) (k g : Gap) → clipped from to k ≡ Some g
    → (max k.start from < to) × (record { start = max k.start from; end = min k.end to } ≡ g)
part_some from to k g is = elim (cases_lt (max k.start from) to) [
  | inl some ↦
      let test : ltb (max k.start from) to ≡ true = grind (arith, nat_tests) in (some, cc (rw test at is))
  | inr none ↦
      let test : ltb (max k.start from) to ≡ false = grind (arith, nat_tests) in cc (rw test at is)
]

part_none : (from to : ℕ) (k : Gap) → clipped from to k ≡ None → to ≤ max k.start from
part_none from to k is = elim (cases_lt (max k.start from) to) [
  | inl some ↦
      let test : ltb (max k.start from) to ≡ true = grind (arith, nat_tests) in cc (rw test at is)
  | inr none ↦ none
]

missing_some : (from to : ℕ) (gs : List Gap) (k g : Gap) → AreRunsIn 0 (2 ^ 64) gs → gap_after from gs ≡ Some k
    → clipped from to k ≡ Some g → IsMissingFrom gs from to g
missing_some from to gs k g h at is =
    let ends = after_ends from gs k at in
    let own = after_own 0 (2 ^ 64) from gs k h at in
    let part = part_some from to k g is in
    let some = part.0 in
    rw (← part.1) record {
      start = omega arith;
      some = omega arith;
      end = omega arith;
      before = λ q low below. none_by_after 0 (2 ^ 64) from gs k q h at low (omega arith);
      missing = λ q low below. all_in_after from gs k q at (omega arith) (omega arith);
    }

missing_by : (from to : ℕ) (gs : List Gap) (g : Gap) (o : Option Gap) → AreRunsIn 0 (2 ^ 64) gs → gap_after from gs ≡ o
    → option_and_then (clipped from to) o ≡ Some g → IsMissingFrom gs from to g
missing_by from to gs g None h at is = cc is
missing_by from to gs g (Some k) h at is = missing_some from to gs k g h at is

pub missing_is : (from to : ℕ) (gs : List Gap) (g : Gap) → AreRunsIn 0 (2 ^ 64) gs → missing_from from to gs ≡ Some g
    → IsMissingFrom gs from to g
missing_is from to gs g h is = missing_by from to gs g (gap_after from gs) h refl is

none_by : (from to : ℕ) (gs : List Gap) (o : Option Gap) → AreRunsIn 0 (2 ^ 64) gs → gap_after from gs ≡ o
    → option_and_then (clipped from to) o ≡ None → NoneMissing gs from to
none_by from to gs None h at is q low below = none_with_none from gs q at low
none_by from to gs (Some k) h at is q low below =
    none_by_after 0 (2 ^ 64) from gs k q h at low (omega (arith, part_none from to k is))

pub missing_none : (from to : ℕ) (gs : List Gap) → AreRunsIn 0 (2 ^ 64) gs → missing_from from to gs ≡ None
    → NoneMissing gs from to
missing_none from to gs h is = none_by from to gs (gap_after from gs) h refl is

-- ---- how many positions are missing

count_from-all : (f : ℕ → Bool) (p n : ℕ) → ((q : ℕ) → p ≤ q → q < p + n → f q ≡ true) → count_from f p n ≡ n
count_from-all f p zero all = refl
count_from-all f p (suc n) all =
    let here = all p (omega arith) (omega arith) in
    let rest = count_from-all f (p + 1) n (λ q low high. all q (omega arith) (omega arith)) in
    rw (here, rest) (omega arith)

pub counted_on : (has : ℕ → Bool) (start position from to count : ℕ) → start ≤ position → position ≤ from → from ≤ to
    → ((q : ℕ) → position ≤ q → q < from → has q ≡ false) → ((q : ℕ) → from ≤ q → q < to → has q ≡ true)
    → count ≡ count_from has start (position - start) → count + (to - from) ≡ count_from has start (to - start)
counted_on has start position from to count low mid high none all is =
    let none = count_from-none has position (from - position) (λ q l h. none q l (omega arith)) in
    let all = count_from-all has from (to - from) (λ q l h. all q l (omega arith)) in
    let parts = count_from-split has start (position - start) (from - position) in
    let at : start + (position - start) ≡ position = omega arith in
    let size : position - start + (from - position) ≡ from - start = omega arith in
    let parts = rw (at, size) at parts in
    let more = count_from-split has start (from - start) (to - from) in
    let at : start + (from - start) ≡ from = omega arith in
    let size : from - start + (to - from) ≡ to - start = omega arith in
    let more = rw (at, size) at more in
    omega (arith, none, all, parts, more, is)

pub counted_rest : (has : ℕ → Bool) (start position end count : ℕ) → start ≤ position → position ≤ end
    → ((q : ℕ) → position ≤ q → q < end → has q ≡ false)
    → count ≡ count_from has start (position - start) → count ≡ count_from has start (end - start)
counted_rest has start position end count low high none is =
    let none = count_from-none has position (end - position) (λ q l h. none q l (omega arith)) in
    let parts = count_from-split has start (position - start) (end - position) in
    let at : start + (position - start) ≡ position = omega arith in
    let size : position - start + (end - position) ≡ end - start = omega arith in
    let parts = rw (at, size) at parts in
    omega (arith, none, parts, is)

-- ---- a gap more

pub push_last_is : (from start end : ℕ) (es : List (ℕ × ℕ)) → AreRunsIn from start (gaps_of es) → start < end
    → gaps_of (insert_entry nat_cmp es end start) ≡ with_gap start end (gaps_of es)
push_last_is from start end [] h some = grind (arith, nat_tests)
push_last_is from start end (e ∷ es) h some =
    grind (arith, nat_tests, push_last_is e.0 start end es h.2 some, runs_end e.0 start (gaps_of es) h.2)

pub push_first_is : (to : ℕ) (g : Gap) (es : List (ℕ × ℕ)) → AreRunsIn g.end to (gaps_of es)
    → gaps_of (insert_entry nat_cmp es g.end g.start) ≡ g ∷ gaps_of es
push_first_is to g [] h = refl
push_first_is to g (e ∷ es) h = grind (arith, nat_tests)

pub with_gap_runs : (from to start end : ℕ) (gs : List Gap) → AreRunsIn from start gs → start ≤ to → end ≤ to
    → AreRunsIn from to (with_gap start end gs)
with_gap_runs from to start end gs h s e = elim (cases_lt start end) [
  | inl some ↦ let is : with_gap start end gs ≡ gs ++ record { start = start; end = end } ∷ [] = grind (arith, nat_tests) in
      rw is (pushed_runs from to start end gs h some e)
  | inr empty ↦ let is : with_gap start end gs ≡ gs = grind (arith, nat_tests) in
      rw is (runs_weaker from from start to gs (omega arith) s h)
]

-- ---- a gap as two

pub split_later : (from to p : ℕ) (gs : List Gap) → AreRunsIn from to gs → p ≤ from → split_at p gs ≡ gs
split_later from to p [] h low = refl
split_later from to p (g ∷ gs) h low = grind (arith, nat_tests, split_later g.end to p gs h.2 (omega arith))

pub split_none : (p : ℕ) (gs : List Gap) → gap_after p gs ≡ None → split_at p gs ≡ gs
split_none p [] is = refl
split_none p (g ∷ gs) is = grind (arith, nat_tests, split_none p gs)

pub crosses_after : (p : ℕ) (gs : List Gap) (g : Gap) → crosses_one p gs ≡ false → gap_after p gs ≡ Some g
    → g.start < p → ⊥
crosses_after p [] g none is low = cc is
crosses_after p (k ∷ gs) g none is low = grind (arith, nat_tests, crosses_after p gs g)

pub crosses_no_missing : (p : ℕ) (gs : List Gap) → is_missing gs p ≡ false → crosses_one p gs ≡ false
crosses_no_missing p [] none = refl
crosses_no_missing p (g ∷ gs) none = grind (arith, nat_tests, crosses_no_missing p gs)

pub split_far : (from to p : ℕ) (gs : List Gap) (g : Gap) → AreRunsIn from to gs → gap_after p gs ≡ Some g
    → p ≤ g.start → split_at p gs ≡ gs
split_far from to p [] g h is far = refl
split_far from to p (k ∷ gs) g h is far = elim (cases_lt p k.end) [
  | inl inside ↦ grind (arith, nat_tests, split_later k.end to p gs h.2)
  | inr past ↦ grind (arith, nat_tests, split_far k.end to p gs g h.2)
]

pub split_is : (from to p : ℕ) (es : List (ℕ × ℕ)) (g : Gap) → AreRunsIn from to (gaps_of es)
    → gap_after p (gaps_of es) ≡ Some g → g.start < p
    → gaps_of (insert_entry nat_cmp (insert_entry nat_cmp es p g.start) g.end p) ≡ split_at p (gaps_of es)
split_is from to p [] g h is cut = absurd (cc is)
split_is from to p (e ∷ es) g h is cut = elim (cases_lt p e.0) [
  | inl inside ↦ grind (arith, nat_tests, split_later e.0 to p (gaps_of es) h.2)
  | inr past ↦
      let rest : gap_after p (gaps_of es) ≡ Some g = grind (arith, nat_tests) in
      let own = after_own e.0 to p (gaps_of es) g h.2 rest in
      let ends = after_ends p (gaps_of es) g rest in
      grind (arith, nat_tests, split_is e.0 to p es g h.2 rest cut)
]

-- the key of that gap is there, with another key, too
pub split_found : (from to p : ℕ) (es : List (ℕ × ℕ)) (g : Gap) → AreRunsIn from to (gaps_of es)
    → gap_after p (gaps_of es) ≡ Some g → g.start < p
    → lookup (is_at (nat_cmp g.end)) (insert_entry nat_cmp es p g.start) ≡ Some g.start
split_found from to p [] g h is cut = absurd (cc is)
split_found from to p (e ∷ es) g h is cut = elim (cases_lt p e.0) [
  | inl inside ↦ grind (arith, nat_tests)
  | inr past ↦
      let rest : gap_after p (gaps_of es) ≡ Some g = grind (arith, nat_tests) in
      let own = after_own e.0 to p (gaps_of es) g h.2 rest in
      let ends = after_ends p (gaps_of es) g rest in
      grind (arith, nat_tests, split_found e.0 to p es g h.2 rest cut)
]

pub after_found : (p : ℕ) (from to : ℕ) (es : List (ℕ × ℕ)) (g : Gap) → AreRunsIn from to (gaps_of es)
    → gap_after p (gaps_of es) ≡ Some g → lookup (is_at (nat_cmp g.end)) es ≡ Some g.start
after_found p from to [] g h is = absurd (cc is)
after_found p from to (e ∷ es) g h is = elim (cases_lt p e.0) [
  | inl inside ↦ grind (arith, nat_tests)
  | inr past ↦
      let rest : gap_after p (gaps_of es) ≡ Some g = grind (arith, nat_tests) in
      let own = after_own e.0 to p (gaps_of es) g h.2 rest in
      grind (arith, nat_tests, after_found p e.0 to es g h.2 rest)
]

-- ---- gaps without some positions

pub after_whole : (p : ℕ) (gs : List Gap) (g : Gap) → crosses_one p gs ≡ false → gap_after p gs ≡ Some g → p ≤ g.start
after_whole p [] g whole is = absurd (cc is)
after_whole p (k ∷ gs) g whole is = grind (arith, nat_tests, after_whole p gs g)

pub without_later : (from to s e : ℕ) (gs : List Gap) → s < e → AreRunsIn from to gs → e ≤ from → without s e gs ≡ gs
without_later from to s e [] some h low = refl
without_later from to s e (g ∷ gs) some h low =
    grind (arith, nat_tests, without_later g.end to s e gs some h.2 (omega arith))

-- one that ends before them
without_past : (s e : ℕ) (g : Gap) (gs : List Gap) → s < e → g.start < g.end → g.end ≤ s
    → without s e (g ∷ gs) ≡ g ∷ without s e gs
without_past s e g gs some own past = grind (arith, nat_tests)

pub without_none : (from to s e : ℕ) (gs : List Gap) → s < e → AreRunsIn from to gs → gap_after s gs ≡ None
    → without s e gs ≡ gs
without_none from to s e [] some h is = refl
without_none from to s e (g ∷ gs) some h is = elim (cases_lt s g.end) [
  | inl inside ↦ grind (arith, nat_tests)
  | inr past ↦
      let rest : gap_after s gs ≡ None = grind (arith, nat_tests) in
      rw (without_past s e g gs some h.1 past, without_none g.end to s e gs some h.2 rest)
]

pub without_far : (from to s e : ℕ) (gs : List Gap) (g : Gap) → s < e → AreRunsIn from to gs → gap_after s gs ≡ Some g
    → e ≤ g.start → without s e gs ≡ gs
without_far from to s e [] g some h is far = refl
without_far from to s e (k ∷ gs) g some h is far = elim (cases_lt s k.end) [
  | inl inside ↦
      let same : g ≡ k = grind (arith, nat_tests) in
      let far : e ≤ k.start = rw same at far in
      without_later k.start to s e (k ∷ gs) some (omega arith, h.1, h.2) far
  | inr past ↦
      let rest : gap_after s gs ≡ Some g = grind (arith, nat_tests) in
      rw (without_past s e k gs some h.1 past, without_far k.end to s e gs g some h.2 rest far)
]

pub without_shorter : (from to s e : ℕ) (es : List (ℕ × ℕ)) (g : Gap) → s < e → AreRunsIn from to (gaps_of es)
    → gap_after s (gaps_of es) ≡ Some g → s ≤ g.start → g.start < e → e < g.end
    → gaps_of (insert_entry nat_cmp es g.end e) ≡ without s e (gaps_of es)
without_shorter from to s e [] g some h is low near far = absurd (cc is)
without_shorter from to s e (k ∷ es) g some h is low near far = elim (cases_lt s k.0) [
  | inl inside ↦ grind (arith, nat_tests, without_later k.0 to s e (gaps_of es) some h.2)
  | inr past ↦
      let rest : gap_after s (gaps_of es) ≡ Some g = grind (arith, nat_tests) in
      let own = after_own k.0 to s (gaps_of es) g h.2 rest in
      rw (without_past s e (gap_of k) (gaps_of es) some h.1 past)
      (grind (arith, nat_tests, without_shorter k.0 to s e es g some h.2 rest low near far))
]

removed_runs : (from to : ℕ) (test : ℕ → Bool) (es : List (ℕ × ℕ)) → AreRunsIn from to (gaps_of es)
    → AreRunsIn from to (gaps_of (remove_entry test es))
removed_runs from to test [] h = h
removed_runs from to test (e ∷ es) h = elim (test e.0) as (λ b. test e.0 ≡ b
    → AreRunsIn from to (gaps_of (remove_entry test (e ∷ es)))) [
      | true ↦ λ is. rw is (runs_weaker e.0 from to to (gaps_of es) (omega arith) (omega arith) h.2)
      | false ↦ λ is. rw is (h.0, h.1, removed_runs e.0 to test es h.2)
    ] refl

removed_whole : (p : ℕ) (test : ℕ → Bool) (es : List (ℕ × ℕ)) → crosses_one p (gaps_of es) ≡ false
    → crosses_one p (gaps_of (remove_entry test es)) ≡ false
removed_whole p test [] h = h
removed_whole p test (e ∷ es) h = grind (arith, nat_tests, removed_whole p test es)

removed_count : (test : ℕ → Bool) (es : List (ℕ × ℕ)) (v : ℕ) → lookup test es ≡ Some v
    → length (gaps_of es) ≡ suc (length (gaps_of (remove_entry test es)))
removed_count test [] v is = absurd (cc is)
removed_count test (e ∷ es) v is = grind (arith, removed_count test es v)

removed_without : (from to s e : ℕ) (es : List (ℕ × ℕ)) (g : Gap) → s < e → AreRunsIn from to (gaps_of es)
    → gap_after s (gaps_of es) ≡ Some g → s ≤ g.start → g.end ≤ e
    → without s e (gaps_of (remove_entry (is_at (nat_cmp g.end)) es)) ≡ without s e (gaps_of es)
removed_without from to s e [] g some h is low far = absurd (cc is)
removed_without from to s e (k ∷ es) g some h is low far = elim (cases_lt s k.0) [
  | inl inside ↦ grind (arith, nat_tests)
  | inr past ↦
      let rest : gap_after s (gaps_of es) ≡ Some g = grind (arith, nat_tests) in
      let own = after_own k.0 to s (gaps_of es) g h.2 rest in
      grind (arith, nat_tests, removed_without k.0 to s e es g some h.2 rest low far)
]

-- the first of them that lies within the positions is taken out
pub removed_first : (s e : ℕ) (es fs : List (ℕ × ℕ)) (g : Gap) → s < e → AreRunsIn 0 (2 ^ 64) (gaps_of es)
    → crosses_one s (gaps_of es) ≡ false → gap_after s (gaps_of es) ≡ Some g → g.end ≤ e
    → fs ≡ remove_entry (is_at (nat_cmp g.end)) es
    → AreRunsIn 0 (2 ^ 64) (gaps_of fs) × (crosses_one s (gaps_of fs) ≡ false)
    × (without s e (gaps_of fs) ≡ without s e (gaps_of es)) × (suc (length (gaps_of fs)) ≡ length (gaps_of es))
removed_first s e es fs g some h whole is far fs_is =
    let low = after_whole s (gaps_of es) g whole is in
    let found = after_found s 0 (2 ^ 64) es g h is in
    let count = removed_count (is_at (nat_cmp g.end)) es g.start found in
    rw fs_is (
      removed_runs 0 (2 ^ 64) (is_at (nat_cmp g.end)) es h,
      removed_whole s (is_at (nat_cmp g.end)) es whole,
      removed_without 0 (2 ^ 64) s e es g some h is low far,
      sym count,
    )

-- ---- insertions that can't fail

pub never_err : {A B : Type 0} (r : Result A B) (o : Option ℕ) (v : ℕ) → OnErr r (o ≡ None) → o ≡ Some v → IsOk r
never_err (Ok a) o v none some = refl
never_err (Err b) o v none some = absurd (cc (none, some))

pub when_ok : {A B P : Type 0} (r : Result A B) → IsOk r → OnOk r P → P
when_ok (Ok a) ok p = p
when_ok (Err b) ok p = absurd (cc ok)
