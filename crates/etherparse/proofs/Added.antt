-- A range that is added to sections in order, by the indices at which the touched ones start and
-- end.
use Rattle.std.proofs.Common.{◌≡◌, ℕ, zero, suc, ◌+◌, ◌-◌, ◌<◌, ◌≤◌, List, [], ◌∷◌, ◌++◌, length, take, drop, set}
use Rattle.std.proofs.Common.{get_or, add-one, drop-cons, append_assoc, arith, ap, refl, sym, ◌∙◌, subst, min, max}
use Rattle.std.proofs.Common.{true}
use Rattle.std.proofs.lemmas.Bool.Decides.{leb_tells}
use Rattle.std.proofs.lemmas.List.{take-append-drop, drop-take, drop-drop, drop-set-lt, get_or-drop, get_or_default}
use Rattle.std.proofs.lemmas.List.{length-drop, take_more_set}
use Rattle.std.specs.List.{AllByRecursion, remove_range}
use Rattle.etherparse.specs.declared.defrag.ip_frag_range.IpFragRange.{IpFragRange}
use Rattle.etherparse.specs.IpFragRange.{AreOrdered, EndBefore, HasNumber, StartBy, has_number, hull}
use Rattle.etherparse.proofs.Ordered.{IsAdded, added_alone, added_joined, last_of, all_split, back_all, ends_below}
use Rattle.etherparse.proofs.Ordered.{from_offset, prefix_all, starts_rise}

-- those that end before the range are no more than those that start by its end
pub no_fewer : (rs : List IpFragRange) (low high first following : ℕ) → AreOrdered rs → low ≤ high
    → AllByRecursion (λ s. s.end < low) (take first rs)
    → AllByRecursion (λ s. high < s.start) (drop following rs) → first ≤ length rs → first ≤ following
no_fewer rs low high zero following h o prefix back long = omega arith
no_fewer [] low high (suc first) following h o prefix back long = absurd (omega arith)
no_fewer (r ∷ rs) low high (suc first) zero h o prefix back long = grind arith
no_fewer (r ∷ rs) low high (suc first) (suc following) h o prefix back long =
    let rest = no_fewer rs low high first following h.2 o prefix.1 back (omega arith) in omega arith

all_drop : {X : Type 0} (P : X → Type 0) (xs : List X) (n : ℕ) → AllByRecursion P xs
    → AllByRecursion P (drop n xs)
all_drop P xs zero h = h
all_drop P [] (suc n) h = tt
all_drop P (x ∷ xs) (suc n) h = all_drop P xs n h.1

last_take : (a : IpFragRange) (xs : List IpFragRange) (n : ℕ) (d : IpFragRange) → n ≤ length xs
    → last_of a (take n xs) ≡ get_or (a ∷ xs) n d
last_take a xs zero d long = refl
last_take a [] (suc n) d long = absurd (omega arith)
last_take a (x ∷ xs) (suc n) d long = last_take x xs n d (omega arith)

-- the same of a list that was read for each of the two
pub before_range : (rs ss ts : List IpFragRange) (r : IpFragRange) (first following : ℕ) → ss ≡ rs
    → ts ≡ rs → AreOrdered rs → r.start ≤ r.end → EndBefore ss r.start first
    → StartBy ts r.end following → first ≤ length ss → first ≤ following
before_range rs ss ts r first following s_is t_is h o low high long = grind (arith, no_fewer)

pub added_after : (rs : List IpFragRange) (location : ℕ) (r : IpFragRange) → AreOrdered rs
    → r.start ≤ r.end → EndBefore rs r.start location → StartBy rs r.end location
    → IsAdded rs (take location rs ++ r ∷ drop location rs) r
added_after rs location r h o low high = grind (arith, take-append-drop, added_alone)

pub added_at : (rs : List IpFragRange) (first following : ℕ) (a z r : IpFragRange) → AreOrdered rs
    → r.start ≤ r.end → EndBefore rs r.start first → StartBy rs r.end following → first < following
    → following ≤ length rs → a ≡ get_or rs first a → z ≡ get_or rs (following - 1) z
    → IsAdded rs ((take first rs ++ hull (hull r a) z ∷ []) ++ drop following rs) r
added_at rs first following a z r h o low high some long a_is z_is =
    let n = following - 1 - first in
    let rest = drop (first + 1) rs in
    let at : drop first rs ≡ a ∷ rest =
    rw add-one (drop-cons rs first a (omega arith)) ∙ ap (λ (x : IpFragRange). x ∷ rest) (sym a_is) in
    let after_end_is : first + 1 + n ≡ following = omega arith in
    let back : drop n rest ≡ drop following rs = grind (arith, drop-drop) in
    let parts : (a ∷ take n rest) ++ drop n rest ≡ a ∷ rest =
    cc (take-append-drop n rest) in
    let whole : take first rs ++ ((a ∷ take n rest) ++ drop n rest) ≡ rs =
    grind (arith, take-append-drop) in
    let from = all_split (λ s. r.start ≤ s.end) (a ∷ take n rest) (drop n rest)
    (subst (AllByRecursion (λ s. r.start ≤ s.end)) (at ∙ sym parts) low.1) in
    let count : first + suc n ≡ following = omega arith in
    let taken : drop first (take following rs) ≡ a ∷ take n rest =
    grind (arith, drop-take) in
    let to = subst (AllByRecursion (λ s. s.start ≤ r.end)) taken
    (all_drop (λ s. s.start ≤ r.end) (take following rs) first high.0) in
    let z_at : last_of a (take n rest) ≡ z =
    last_take a rest n z (omega (arith, length-drop (first + 1) rs)) ∙ ap (λ (xs : List IpFragRange). get_or xs n z) (sym at)
    ∙ get_or-drop first rs n z
    ∙ ap (λ (k : ℕ). get_or rs k z) (omega arith) ∙ sym z_is in
    let j = hull (hull r a) z in
    let is_added = added_joined (take first rs) a (take n rest) (drop n rest) r o
    (subst AreOrdered (sym whole) h) low.0 from.0 to
    (subst (AllByRecursion (λ s. r.end < s.start)) (sym back) high.1) in
    grind (arith, append_assoc, last_of)

-- the first touched section is the joined one, and the others are taken out
pub added_set : (rs new : List IpFragRange) (first following : ℕ) (a z r j : IpFragRange)
    → AreOrdered rs → r.start ≤ r.end → EndBefore rs r.start first → StartBy rs r.end following
    → first < following → following ≤ length rs → a ≡ get_or rs first a → z ≡ get_or rs (following - 1) z
    → j ≡ hull (hull r a) z → new ≡ remove_range (set rs first j) (first + 1) following
    → IsAdded rs new r
added_set rs new first following a z r j h o low high some long a_is z_is j_is new_is =
    grind (arith, take_more_set, drop-set-lt, added_at)

-- one section alone is touched, and is the joined one
added_one : (rs new : List IpFragRange) (i : ℕ) (a r j : IpFragRange) → AreOrdered rs
    → r.start ≤ r.end → EndBefore rs r.start i → StartBy rs r.end (i + 1) → i < length rs
    → a ≡ get_or rs i a → j ≡ hull a r → new ≡ set rs i j → IsAdded rs new r
added_one rs new i a r j h o low high within a_is j_is new_is =
    let start : min a.start r.start ≡ min (min r.start a.start) a.start = omega arith in
    let end : max a.end r.end ≡ max (max r.end a.end) a.end = omega arith in
    let same : hull a r ≡ hull (hull r a) a = λ k. record { start = start k; end = end k } in
    added_set rs new i (i + 1) a a r j h o low high (omega arith) (omega arith) a_is
    (a_is ∙ ap (λ (k : ℕ). get_or rs k a) (omega arith)) (j_is ∙ same)
    (new_is ∙ sym (take-append-drop (i + 1) (set rs i j)))

number_in : (s : IpFragRange) (n : ℕ) → has_number s n ≡ true → HasNumber s n
number_in s n e = grind (arith, leb_tells, e)

-- the range starts in the last section, or where it ends
pub added_to_last : (rs new : List IpFragRange) (last : ℕ) (a r j : IpFragRange) → AreOrdered rs
    → r.start ≤ r.end → last + 1 ≡ length rs → a ≡ get_or rs last a
    → has_number a r.start ≡ true → j ≡ hull a r → new ≡ set rs last j → IsAdded rs new r
added_to_last rs new last a r j h o long a_is meets j_is new_is =
    let has = number_in a r.start meets in
    let at : (d : IpFragRange) → get_or rs last d ≡ a =
    grind (arith, get_or_default) in
    let ends = ap (λ (s : IpFragRange). s.end) (at a) in
    added_one rs new last a r j h o (
      prefix_all (λ s. s.end < r.start) rs last (omega arith)
          (λ k d low high. omega (
            arith,
            ends_below rs h k last d a high (omega arith),
            ap (λ (s : IpFragRange). s.start) (at a),
            has.0,
          )),
      back_all (λ s. r.start ≤ s.end) rs last
          (from_offset rs last r.start a h (omega arith) (omega (arith, ends, has.1))),
    ) (
      prefix_all (λ s. s.start ≤ r.end) rs (last + 1) (omega arith)
          (λ k d low high. omega (
            arith,
            starts_rise rs h k last d (omega arith) (omega arith),
            ap (λ (s : IpFragRange). s.start) (at d),
            has.0,
            o,
          )),
      back_all (λ s. r.end < s.start) rs (last + 1)
          (λ k d low high. absurd (omega (arith, low, high))),
    )
    (omega arith) a_is j_is new_is

-- the range ends in the first section, or where it starts, and starts no later
pub added_to_first : (rs new : List IpFragRange) (a r j : IpFragRange) → AreOrdered rs
    → r.start ≤ r.end → 0 < length rs → a ≡ get_or rs 0 a → r.start ≤ a.start
    → has_number a r.end ≡ true → j ≡ hull a r → new ≡ set rs 0 j → IsAdded rs new r
added_to_first rs new a r j h o some a_is before meets j_is new_is =
    let has = number_in a r.end meets in
    let at : (d : IpFragRange) → get_or rs 0 d ≡ a =
    grind (arith, get_or_default) in
    added_one rs new 0 a r j h o (
      tt,
      back_all (λ s. r.start ≤ s.end) rs 0
          (from_offset rs 0 r.start a h some
          (omega (arith, ap (λ (s : IpFragRange). s.end) (at a), before, has.0, has.1))),
    ) (
      prefix_all (λ s. s.start ≤ r.end) rs 1 (omega arith)
          (λ k d low high. omega (
            arith,
            starts_rise rs h k 0 d (omega arith) some,
            ap (λ (s : IpFragRange). s.start) (at d),
            has.0,
          )),
      back_all (λ s. r.end < s.start) rs 1
          (λ k d low high. omega (
            arith,
            ends_below rs h 0 k a d (omega arith) high,
            ap (λ (s : IpFragRange). s.end) (at a),
            has.1,
          )),
    )
    some a_is j_is new_is
