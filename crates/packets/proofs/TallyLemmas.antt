-- Tallies of packets, and of one packet more.
use Rattle.std.proofs.Common.{◌≡◌, ℕ, ◌+◌, ◌-◌, ◌^◌, ◌<◌, Bool, true, false, cond, List, ◌∷◌, [], ◌++◌, Option, Some}
use Rattle.std.proofs.Common.{None, unwrap_or, refl, ap, sym, ◌∙◌, arith, rules}
use Rattle.std.specs.List.{count_by, filter, find, sum_by}
use Rattle.std.specs.Option.{option_map, option_or}
use Rattle.std.specs.Prelude.{not}
use Rattle.std.proofs.lemmas.List.Elements.{filter-append}
use Rattle.std.proofs.lemmas.List.Folds.{find-append}
use Rattle.std.proofs.lemmas.List.Sums.{sum_by-append, sum_by-cons}
use Rattle.captures.specs.Numbers.{capped}
use Rattle.packets.specs.Tally.{tally_of}
use Rattle.packets.specs.declared.outline.Outline.{Outline}
use Rattle.packets.specs.declared.summary.tally.Tally.{Tally}

pub capped-add : (n m : ℕ) → capped (capped n + m) ≡ capped (n + m)
capped-add n m = omega arith

-- how many there are with one element more
pub count_by-end : {X : Type 0} (p : X → Bool) (xs : List X) (x : X)
    → count_by p (xs ++ x ∷ []) ≡ count_by p xs + cond (p x) 1 0
count_by-end p xs x = omega (arith, sum_by-append (λ y. cond (p y) 1 0) xs (x ∷ []))

pub count_by-more : {X : Type 0} (p : X → Bool) (xs : List X) (x : X) → p x ≡ true
    → capped (count_by p (xs ++ x ∷ [])) ≡ capped (capped (count_by p xs) + 1)
count_by-more p xs x h =
    let more : count_by p (xs ++ x ∷ []) ≡ count_by p xs + 1 = rw h at (count_by-end p xs x) in
    rw more (sym (capped-add (count_by p xs) 1))

filter-end : {X : Type 0} (p : X → Bool) (x : X) → p x ≡ true → filter p (x ∷ []) ≡ x ∷ []
filter-end p x h = rw h refl

pub filter-more : {X : Type 0} (p : X → Bool) (xs : List X) (x : X) → p x ≡ true
    → filter p (xs ++ x ∷ []) ≡ filter p xs ++ x ∷ []
filter-more p xs x h = filter-append p xs (x ∷ []) ∙ ap (λ ys. filter p xs ++ ys) (filter-end p x h)

-- the sum with one element more
pub sum_by-end : {X : Type 0} (f : X → ℕ) (xs : List X) (x : X)
    → capped (sum_by f (xs ++ x ∷ [])) ≡ capped (capped (sum_by f xs) + f x)
sum_by-end f xs x =
    let more : sum_by f (xs ++ x ∷ []) ≡ sum_by f xs + f x = omega (arith, sum_by-append f xs (x ∷ [])) in
    rw more (sym (capped-add (sum_by f xs) (f x)))

sum_by-more : {X : Type 0} (f : X → ℕ) (p : X → Bool) (xs : List X) (x : X) → p x ≡ true
    → capped (sum_by f (filter p (xs ++ x ∷ []))) ≡ capped (capped (sum_by f (filter p xs)) + f x)
sum_by-more f p xs x h = rw (filter-more p xs x h) (sum_by-end f (filter p xs) x)

first-or : {X Y : Type 0} (f : X → Y) (found : Option X) (x : X)
    → option_map f (option_or found (Some x)) ≡ Some (unwrap_or (option_map f found) (f x))
first-or f None x = refl
first-or f (Some y) x = refl

find-end : {X : Type 0} (p : X → Bool) (x : X) → p x ≡ true → find p (x ∷ []) ≡ Some x
find-end p x h = rw h refl

pub find-more : {X Y : Type 0} (f : X → Y) (p : X → Bool) (xs : List X) (x : X) → p x ≡ true
    → option_map f (find p (xs ++ x ∷ [])) ≡ Some (unwrap_or (option_map f (find p xs)) (f x))
find-more f p xs x h =
    ap (option_map f) (find-append p xs (x ∷ [])
    ∙ ap (option_or (find p xs)) (find-end p x h)) ∙ first-or f (find p xs) x

-- the tally with one packet more of the kind
pub tally_of-more : (kind : Outline
    → Bool) (packets : List Outline) (packet : Outline) (old : Tally)
    (m b f : ℕ) → old ≡ tally_of kind packets → kind packet ≡ true
    → m ≡ capped (old.packets + 1) → b ≡ capped (old.bytes + packet.len)
    → f ≡ unwrap_or old.first packet.number
    → record { packets = m; bytes = b; first = Some f } ≡ tally_of kind (packets ++ packet ∷ [])
tally_of-more kind packets packet old m b f e h em eb ef =
    grind (arith, count_by-more, sum_by-more, find-more)

pub filter-none : {X : Type 0} (p : X → Bool) (xs : List X) (x : X) → p x ≡ false
    → filter p (xs ++ x ∷ []) ≡ filter p xs
filter-none p xs x h =
    let none : filter p (x ∷ []) ≡ [] = rw h refl in
    filter-append p xs (x ∷ []) ∙ rw none (search rules)

pub count_by-none : {X : Type 0} (p : X → Bool) (xs : List X) (x : X) → p x ≡ false
    → count_by p (xs ++ x ∷ []) ≡ count_by p xs
count_by-none p xs x h =
    let same : count_by p (xs ++ x ∷ []) ≡ count_by p xs + 0 = rw h at (count_by-end p xs x) in
    omega (arith, same)

or-none : {X : Type 0} (found : Option X) → option_or found None ≡ found
or-none None = refl
or-none (Some x) = refl

find-none : {X : Type 0} (p : X → Bool) (xs : List X) (x : X) → p x ≡ false
    → find p (xs ++ x ∷ []) ≡ find p xs
find-none p xs x h =
    let none : find p (x ∷ []) ≡ None = rw h refl in
    find-append p xs (x ∷ []) ∙ ap (option_or (find p xs)) none ∙ or-none (find p xs)

-- the tally with one packet more of another kind
pub tally_of-other : (kind : Outline → Bool) (packets : List Outline) (packet : Outline)
    → kind packet ≡ false → tally_of kind packets ≡ tally_of kind (packets ++ packet ∷ [])
tally_of-other kind packets packet h = grind (arith, count_by-none, filter-none, find-none)

count-parted : {X : Type 0} (p : X → Bool) (xs : List X)
    → count_by (λ x. true) xs ≡ count_by p xs + count_by (λ x. not (p x)) xs
count-parted p [] = refl
count-parted {X} p (x ∷ xs) = omega (
  arith,
  sum_by-cons (λ (y : X). cond true 1 0) x xs,
  sum_by-cons (λ y. cond (p y) 1 0) x xs,
  sum_by-cons (λ y. cond (not (p y)) 1 0) x xs,
  one (p x),
  count-parted p xs,
)
  where
    one : (b : Bool) → ◌≡◌ {A = ℕ} (cond b 1 0 + cond (not b) 1 0) 1
    one true = refl
    one false = refl

sum-parted : {X : Type 0} (f : X → ℕ) (p : X → Bool) (xs : List X)
    → sum_by f (filter (λ x. true) xs)
    ≡ sum_by f (filter p xs) + sum_by f (filter (λ x. not (p x)) xs)
sum-parted f p [] = refl
sum-parted {X} f p (x ∷ xs) = by (p x) (filter (λ y. true) xs) (filter p xs)
    (filter (λ y. not (p y)) xs) (sum-parted f p xs)
  where
    by : (b : Bool) (all some others : List X) → sum_by f all ≡ sum_by f some + sum_by f others
        → sum_by f (x ∷ all)
        ≡ sum_by f (cond b (x ∷ some) some) + sum_by f (cond (not b) (x ∷ others) others)
    by true all some others e = omega (arith, sum_by-cons f x all, sum_by-cons f x some, e)
    by false all some others e = omega (arith, sum_by-cons f x all, sum_by-cons f x others, e)

capped-parted : (n a b : ℕ) → n ≡ a + b → capped n < 2 ^ 64 - 1 → capped n ≡ capped a + capped b
capped-parted n a b e small = omega (arith, e, small)

-- packets of a kind and the others are all packets
pub packets-parted : (kind : Outline → Bool) (packets : List Outline)
    → (tally_of (λ packet. true) packets).packets < 2 ^ 64 - 1
    → (tally_of (λ packet. true) packets).packets
    ≡ (tally_of kind packets).packets + (tally_of (λ packet. not (kind packet)) packets).packets
packets-parted kind packets small = grind (arith, capped-parted, count-parted)

pub bytes-parted : (kind : Outline → Bool) (packets : List Outline)
    → (tally_of (λ packet. true) packets).bytes < 2 ^ 64 - 1
    → (tally_of (λ packet. true) packets).bytes
    ≡ (tally_of kind packets).bytes + (tally_of (λ packet. not (kind packet)) packets).bytes
bytes-parted kind packets small = grind (arith, capped-parted, sum-parted)
