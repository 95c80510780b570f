-- Sections in order, as a range is added to them.
use Rattle.std.proofs.Common.{◌≡◌, ℕ, zero, suc, ◌+◌, ◌<◌, ◌≤◌, ◌⊎◌, ◌↔◌, inl, inr, List, [], ◌∷◌, ◌++◌, length, take}
use Rattle.std.proofs.Common.{drop, get_or, arith, ap, refl}
use Rattle.std.proofs.lemmas.Bool.{cases_lt}
use Rattle.std.proofs.lemmas.List.{get_or_default}
use Rattle.std.specs.List.{Any, AllByRecursion, AllWithin}
use Rattle.std.specs.List.Sorted.{IsNonDecreasingBy}
use Rattle.etherparse.specs.declared.defrag.ip_frag_range.IpFragRange.{IpFragRange}
use Rattle.etherparse.specs.IpFragRange.{HasNumber, HasOffset, AreApart, AddsRange, AreOrdered, hull}
use Rattle.etherparse.proofs.ListElements.{AnyOf, AnyOf-from_Any, Any-from_AnyOf, AnyOf-append, AnyOf-left, AnyOf-right}

-- ---- facts of all elements

module _ {X : Type 0} where
  all_with : (P Q R : X → Type 0) → ((x : X) → P x → Q x → R x) → (xs : List X)
      → AllByRecursion P xs → AllByRecursion Q xs → AllByRecursion R xs
  all_with P Q R f [] h k = tt
  all_with P Q R f (x ∷ xs) h k = (f x h.0 k.0, all_with P Q R f xs h.1 k.1)

  pub all_split : (P : X → Type 0) (xs ys : List X) → AllByRecursion P (xs ++ ys)
      → AllByRecursion P xs × AllByRecursion P ys
  all_split P [] ys h = (tt, h)
  all_split P (x ∷ xs) ys h = let rest = all_split P xs ys h.1 in ((h.0, rest.0), rest.1)

  all_join : (P : X → Type 0) (xs ys : List X) → AllByRecursion P xs → AllByRecursion P ys
      → AllByRecursion P (xs ++ ys)
  all_join P [] ys h k = k
  all_join P (x ∷ xs) ys h k = (h.0, all_join P xs ys h.1 k)

  all_at : (P : X → Type 0) (xs : List X) (i : ℕ) (d : X) → i < length xs → AllByRecursion P xs
      → P (get_or xs i d)
  all_at P [] i d below h = absurd (omega arith)
  all_at P (x ∷ xs) zero d below h = h.0
  all_at P (x ∷ xs) (suc i) d below h = all_at P xs i d (omega arith) h.1

  pub prefix_all : (P : X → Type 0) (xs : List X) (i : ℕ) → i ≤ length xs → AllWithin P xs 0 i
      → AllByRecursion P (take i xs)
  prefix_all P xs zero within h = tt
  prefix_all P [] (suc i) within h = absurd (omega arith)
  prefix_all P (x ∷ xs) (suc i) within h = (
    h 0 x (omega arith) (omega arith),
    prefix_all P xs i (omega arith) (λ k d low high. h (suc k) d (omega arith) (omega arith)),
  )

  pub back_all : (P : X → Type 0) (xs : List X) (i : ℕ) → AllWithin P xs i (length xs)
      → AllByRecursion P (drop i xs)
  back_all P [] zero h = tt
  back_all P (x ∷ xs) zero h = (
    h 0 x (omega arith) (omega arith),
    back_all P xs zero (λ k d low high. h (suc k) d (omega arith) (omega arith)),
  )
  back_all P [] (suc i) h = tt
  back_all P (x ∷ xs) (suc i) h =
      back_all P xs i (λ k d low high. h (suc k) d (omega arith) (omega arith))

-- ---- in order

pub apart_of : (rs : List IpFragRange) → AreOrdered rs → AreApart rs
apart_of [] h = tt
apart_of (r ∷ rs) h = (
  h.0,
  grind (arith, all_with),
  apart_of rs h.2,
)

record Split (prefix back : List IpFragRange) : Type 0 where
  first : AreOrdered prefix
  second : AreOrdered back
  between : AllByRecursion (λ s. AllByRecursion (λ t. s.end < t.start) back) prefix

ordered_split : (prefix back : List IpFragRange) → AreOrdered (prefix ++ back) → Split prefix back
ordered_split [] back h = record { first = tt; second = h; between = tt }
ordered_split (s ∷ prefix) back h =
    let rest = ordered_split prefix back h.2 in
    let parts = all_split (λ t. s.end < t.start) prefix back h.1 in
    grind arith

ordered_join : (prefix : List IpFragRange) (j : IpFragRange) (back : List IpFragRange)
    → AreOrdered prefix → j.start ≤ j.end → AreOrdered back
    → AllByRecursion (λ s. s.end < j.start) prefix → AllByRecursion (λ t. j.end < t.start) back
    → AreOrdered (prefix ++ j ∷ back)
ordered_join [] j back f o b h k = (o, k, b)
ordered_join (s ∷ prefix) j back f o b h k =
    grind (arith, ordered_join prefix j back f.2 o b h.1 k, all_with, all_join)

all_own : (rs : List IpFragRange) → AreOrdered rs → AllByRecursion (λ s. s.start ≤ s.end) rs
all_own [] h = tt
all_own (r ∷ rs) h = (h.0, all_own rs h.2)

pub ends_rise : (rs : List IpFragRange) → AreOrdered rs → IsNonDecreasingBy (λ s. s.end) rs
ends_rise [] h i j d low high = absurd (omega arith)
ends_rise (r ∷ rs) h zero zero d low high = omega arith
ends_rise (r ∷ rs) h zero (suc j) d low high =
    let apart = all_at (λ s. r.end < s.start) rs j d (omega arith) h.1 in
    let own = all_at (λ s. s.start ≤ s.end) rs j d (omega arith) (all_own rs h.2) in
    omega (arith, apart, own)
ends_rise (r ∷ rs) h (suc i) zero d low high = absurd (omega arith)
ends_rise (r ∷ rs) h (suc i) (suc j) d low high =
    ends_rise rs h.2 i j d (omega arith) (omega arith)

pub starts_rise : (rs : List IpFragRange) → AreOrdered rs → IsNonDecreasingBy (λ s. s.start) rs
starts_rise [] h i j d low high = absurd (omega arith)
starts_rise (r ∷ rs) h zero zero d low high = omega arith
starts_rise (r ∷ rs) h zero (suc j) d low high =
    let apart = all_at (λ s. r.end < s.start) rs j d (omega arith) h.1 in
    omega (arith, apart, h.0)
starts_rise (r ∷ rs) h (suc i) zero d low high = absurd (omega arith)
starts_rise (r ∷ rs) h (suc i) (suc j) d low high =
    starts_rise rs h.2 i j d (omega arith) (omega arith)

-- each ends below the start of those after it
pub ends_below : (rs : List IpFragRange) → AreOrdered rs → (i j : ℕ) (d e : IpFragRange) → i < j
    → j < length rs → (get_or rs i d).end < (get_or rs j e).start
ends_below [] h i j d e below within = absurd (omega arith)
ends_below (r ∷ rs) h i zero d e below within = absurd (omega arith)
ends_below (r ∷ rs) h zero (suc j) d e below within = grind (arith, all_at)
ends_below (r ∷ rs) h (suc i) (suc j) d e below within =
    ends_below rs h.2 i j d e (omega arith) (omega arith)

-- ---- the sections that a range touches, and the one that they are with it

abbrev pub last_of : IpFragRange → List IpFragRange → IpFragRange
last_of a [] = a
last_of a (b ∷ rest) = last_of b rest

all_last : (P : IpFragRange → Type 0) (a : IpFragRange) (rest : List IpFragRange)
    → AllByRecursion P (a ∷ rest) → P (last_of a rest)
all_last P a [] h = h.0
all_last P a (b ∷ rest) h = all_last P b rest h.1

any_last : (P : IpFragRange → Type 0) (a : IpFragRange) (rest : List IpFragRange)
    → P (last_of a rest) → AnyOf P (a ∷ rest)
any_last P a [] h = inl h
any_last P a (b ∷ rest) h = inr (any_last P b rest h)

at_last : (a : IpFragRange) (rest : List IpFragRange) (d : IpFragRange)
    → get_or (a ∷ rest) (length rest) d ≡ last_of a rest
at_last a [] d = refl
at_last a (b ∷ rest) d = at_last b rest d

within : (a : IpFragRange) (rest : List IpFragRange) → AreOrdered (a ∷ rest)
    → AllByRecursion (λ s. (a.start ≤ s.start) × (s.end ≤ (last_of a rest).end)) (a ∷ rest)
within a [] h = ((omega arith, omega arith), tt)
within a (b ∷ rest) h = grind (arith, within b rest h.2, all_with)

-- j has the numbers and offsets of r and of the sections
pub record IsJoined (r : IpFragRange) (middle : List IpFragRange) (j : IpFragRange) : Type 0 where
  pub ordered : j.start ≤ j.end
  pub numbers : (n : ℕ) → HasNumber j n ↔ (AnyOf (λ s. HasNumber s n) middle ⊎ HasNumber r n)
  pub offsets : (p : ℕ) → HasOffset j p ↔ (AnyOf (λ s. HasOffset s p) middle ⊎ HasOffset r p)

pub joined_none : (r : IpFragRange) → r.start ≤ r.end → IsJoined r [] r
joined_none r o = grind arith

any_within : (P Q : IpFragRange → Type 0) (W : Type 0) → ((s : IpFragRange) → P s → Q s → W)
    → (rs : List IpFragRange) → AllByRecursion P rs → AnyOf Q rs → W
any_within P Q W f [] h k = absurd k
any_within P Q W f (r ∷ rs) h (inl k) = f r h.0 k
any_within P Q W f (r ∷ rs) h (inr k) = any_within P Q W f rs h.1 k

pub joined_some : (r a : IpFragRange) (rest : List IpFragRange) → r.start ≤ r.end
    → AreOrdered (a ∷ rest) → AllByRecursion (λ s. r.start ≤ s.end) (a ∷ rest)
    → AllByRecursion (λ s. s.start ≤ r.end) (a ∷ rest)
    → IsJoined r (a ∷ rest) (hull (hull r a) (last_of a rest))
joined_some r a rest o h low high =
    let z = last_of a rest in
    let j = hull (hull r a) z in
    let inside = within a rest h in
    let at_end = all_last (λ s. (a.start ≤ s.start) × (s.end ≤ z.end)) a rest inside in
    let z_own = all_last (λ s. s.start ≤ s.end) a rest (all_own (a ∷ rest) h) in
    let z_high = all_last (λ s. s.start ≤ r.end) a rest high in
    record {
      ordered = omega (arith, o);
      numbers = λ n. (
        (λ k. elim (cases_lt n r.start) [
          | inl m ↦ inl (inl (omega (arith, k.0, k.1, at_end.0, m), omega (arith, low.0, m)))
          | inr m ↦ grind (arith, any_last)
        ]),
        (λ k. elim k [
          | inl m ↦ any_within (λ s. (a.start ≤ s.start) × (s.end ≤ z.end)) (λ s. HasNumber s n)
              (HasNumber j n)
              (λ s q t. (omega (arith, q.0, t.0, at_end.0), omega (arith, q.1, t.1, inside.0.1)))
              (a ∷ rest) inside m
          | inr m ↦ (omega (arith, m.0), omega (arith, m.1))
        ]),
      );
      offsets = λ p. (
        (λ k. elim (cases_lt p r.start) [
          | inl m ↦ inl (inl (omega (arith, k.0, k.1, at_end.0, m), omega (arith, low.0, m)))
          | inr m ↦ grind (arith, any_last)
        ]),
        (λ k. elim k [
          | inl m ↦ any_within (λ s. (a.start ≤ s.start) × (s.end ≤ z.end)) (λ s. HasOffset s p)
              (HasOffset j p)
              (λ s q t. (omega (arith, q.0, t.0, at_end.0), omega (arith, q.1, t.1, inside.0.1)))
              (a ∷ rest) inside m
          | inr m ↦ (omega (arith, m.0), omega (arith, m.1))
        ]),
      );
    }

-- ---- the whole list

any_swapped : (Q : IpFragRange → Type 0) (prefix middle back : List IpFragRange)
    (r j : IpFragRange) → Q j ↔ (AnyOf Q middle ⊎ Q r)
    → Any Q (prefix ++ j ∷ back) ↔ (Any Q (prefix ++ (middle ++ back)) ⊎ Q r)
any_swapped Q prefix middle back r j h = (
  (λ m. elim (AnyOf-append Q prefix (j ∷ back) (AnyOf-from_Any Q (prefix ++ j ∷ back) m)) [
    | inl a ↦ inl (Any-from_AnyOf Q (prefix ++ (middle ++ back))
        (AnyOf-left Q prefix (middle ++ back) a))
    | inr b ↦ elim b [
      | inl q ↦ elim (h.0 q) [
        | inl c ↦ inl (Any-from_AnyOf Q (prefix ++ (middle ++ back))
            (AnyOf-right Q prefix (middle ++ back) (AnyOf-left Q middle back c)))
        | inr c ↦ inr c
      ]
      | inr c ↦ inl (Any-from_AnyOf Q (prefix ++ (middle ++ back))
          (AnyOf-right Q prefix (middle ++ back) (AnyOf-right Q middle back c)))
    ]
  ]),
  (λ m. Any-from_AnyOf Q (prefix ++ j ∷ back) (elim m [
    | inl a ↦ elim (AnyOf-append Q prefix (middle ++ back)
        (AnyOf-from_Any Q (prefix ++ (middle ++ back)) a)) [
          | inl b ↦ AnyOf-left Q prefix (j ∷ back) b
          | inr b ↦ elim (AnyOf-append Q middle back b) [
            | inl c ↦ AnyOf-right Q prefix (j ∷ back) (inl (h.1 (inl c)))
            | inr c ↦ AnyOf-right Q prefix (j ∷ back) (inr c)
          ]
        ]
    | inr b ↦ AnyOf-right Q prefix (j ∷ back) (inl (h.1 (inr b)))
  ])),
)

pub record IsAdded (old new : List IpFragRange) (r : IpFragRange) : Type 0 where
  pub adds : AddsRange old new r
  pub ordered : AreOrdered new

added : (prefix middle back : List IpFragRange) (r j : IpFragRange) → IsJoined r middle j
    → AreOrdered (prefix ++ j ∷ back)
    → IsAdded (prefix ++ (middle ++ back)) (prefix ++ j ∷ back) r
added prefix middle back r j joined o =
    record {
      adds = record {
        apart = apart_of (prefix ++ j ∷ back) o;
        numbers = λ n. any_swapped (λ s. HasNumber s n) prefix middle back r j (joined.numbers n);
        offsets = λ p. any_swapped (λ s. HasOffset s p) prefix middle back r j (joined.offsets p);
      };
      ordered = o;
    }

-- none is touched
pub added_alone : (prefix back : List IpFragRange) (r : IpFragRange) → r.start ≤ r.end
    → AreOrdered (prefix ++ back) → AllByRecursion (λ s. s.end < r.start) prefix
    → AllByRecursion (λ s. r.end < s.start) back
    → IsAdded (prefix ++ back) (prefix ++ r ∷ back) r
added_alone prefix back r o h low high =
    let parts = ordered_split prefix back h in
    added prefix [] back r r (joined_none r o)
    (ordered_join prefix r back parts.first o parts.second low high)

-- those from a on are touched
pub added_joined : (prefix : List IpFragRange) (a : IpFragRange) (rest back : List IpFragRange)
    (r : IpFragRange) → r.start ≤ r.end → AreOrdered (prefix ++ ((a ∷ rest) ++ back))
    → AllByRecursion (λ s. s.end < r.start) prefix
    → AllByRecursion (λ s. r.start ≤ s.end) (a ∷ rest)
    → AllByRecursion (λ s. s.start ≤ r.end) (a ∷ rest)
    → AllByRecursion (λ s. r.end < s.start) back
    → IsAdded (prefix ++ ((a ∷ rest) ++ back))
    (prefix ++ hull (hull r a) (last_of a rest) ∷ back) r
added_joined prefix a rest back r o h low from to high =
    let outer = ordered_split prefix ((a ∷ rest) ++ back) h in
    let inner = ordered_split (a ∷ rest) back outer.second in
    let j = hull (hull r a) (last_of a rest) in
    let joined = joined_some r a rest o inner.first from to in
    let inside = within a rest inner.first in
    let at_end = all_last (λ s. (a.start ≤ s.start) × (s.end ≤ (last_of a rest).end)) a rest
    inside in
    let after_last = all_last (λ s. AllByRecursion (λ t. s.end < t.start) back) a rest
    inner.between in
    added prefix (a ∷ rest) back r j joined
    (ordered_join prefix j back outer.first joined.ordered inner.second
    (all_with (λ s. s.end < r.start) (λ s. AllByRecursion (λ t. s.end < t.start)
    ((a ∷ rest) ++ back)) (λ s. s.end < j.start)
    (λ s k m. omega (arith, k, m.0, at_end.0)) prefix low outer.between)
    (all_with (λ t. r.end < t.start) (λ t. (last_of a rest).end < t.start) (λ t. j.end < t.start)
    (λ t k m. omega (arith, k, m, inside.0.1)) back high after_last))

-- ---- by index

-- up to a section that ends before a number all do, and from one on that doesn't none does
pub up_to_index : (rs : List IpFragRange) (i n : ℕ) (d : IpFragRange) → AreOrdered rs
    → i < length rs → (get_or rs i d).end < n → AllWithin (λ s. s.end < n) rs 0 (i + 1)
up_to_index rs i n d h within below k e low high =
    omega (
      arith,
      ends_rise rs h k i e (omega arith) within,
      ap (λ (s : IpFragRange). s.end) (get_or_default rs i e d within),
      below,
    )

pub from_offset : (rs : List IpFragRange) (i n : ℕ) (d : IpFragRange) → AreOrdered rs
    → i < length rs → n ≤ (get_or rs i d).end → AllWithin (λ s. n ≤ s.end) rs i (length rs)
from_offset rs i n d h within above k e low high =
    omega (
      arith,
      ends_rise rs h i k e low high,
      ap (λ (s : IpFragRange). s.end) (get_or_default rs i e d within),
      above,
    )

-- from a section on that starts after a number all do
pub starts_from : (rs : List IpFragRange) (i n : ℕ) (d : IpFragRange) → AreOrdered rs
    → i < length rs → n < (get_or rs i d).start → AllWithin (λ s. n < s.start) rs i (length rs)
starts_from rs i n d h within above k e low high =
    omega (
      arith,
      starts_rise rs h i k e low high,
      ap (λ (s : IpFragRange). s.start) (get_or_default rs i e d within),
      above,
    )

-- those that end before a range start by its end
pub starts_before : (rs : List IpFragRange) (low high first : ℕ) → AreOrdered rs → low ≤ high
    → first ≤ length rs → AllByRecursion (λ s. s.end < low) (take first rs)
    → AllWithin (λ s. s.start ≤ high) rs 0 first
starts_before rs low high zero h o within prefix k d from to = absurd (omega arith)
starts_before [] low high (suc first) h o within prefix k d from to = absurd (omega arith)
starts_before (r ∷ rs) low high (suc first) h o within prefix zero d from to = grind arith
starts_before (r ∷ rs) low high (suc first) h o within prefix (suc k) d from to =
    starts_before rs low high first h.2 o (omega arith) prefix.1 k d (omega arith) (omega arith)
