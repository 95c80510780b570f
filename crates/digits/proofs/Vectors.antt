-- The vector operations, lane by lane.
use Rattle.std.proofs.Common.{◌≡◌, ℕ, zero, suc, ◌+◌, ◌-◌, ◌*◌, ◌/◌, ◌%◌, ◌^◌, ◌<◌, ◌↔◌, Bool, true, [], ◌&&◌, cond}
use Rattle.std.proofs.Common.{eqb, ltb, leb, List, ◌∷◌, ◌++◌, map, length, get_or, replicate, bit_and, Option, Some}
use Rattle.std.proofs.Common.{None, refl, sym, ap, ap₂, ◌∙◌, arith, w8, Fits, eqb-true, eq-eqb}
use Rattle.std.proofs.lemmas.Bool.{agree_below_at, and_parts}
use Rattle.std.proofs.lemmas.List.{length-map, get_or-map, get_or_append_left, get_or-append_right}
use Rattle.std.proofs.lemmas.Nat.{and_le_r, and_mask}
use Rattle.std.proofs.lemmas.Simd.{Each1-all, Each1-weaker, Each1-zip2, Each1-get_or, Each2-splat, zip2_splat}
use Rattle.std.proofs.lemmas.Simd.{get_or-replicate, below_from_Fits, length-zip2, mask_l-mod, swz_l, SwzOk}
use Rattle.std.proofs.lemmas.Simd.{SwzOk-from_below, length-swz_l, get_or-swz_l_below}
use Rattle.hex.specs.Hex.{hex_digit_value}
use lib.Lanes.{zip2, sel_l, mask_l, top, pick_l, number_l, digits_l, Each1}
use Rattle.digits.specs.Digits.{Reads, AreDigitValues}

pub lane_fits : (v : List ℕ) (i : ℕ) → Each1 (Fits w8) v → get_or v i 0 < 256
lane_fits [] i h = omega arith
lane_fits (x ∷ xs) zero h = h.0.fits
lane_fits (x ∷ xs) (suc i) h = lane_fits xs i h.1

-- ---- the operators, on one lane

abbrev plus : ℕ → ℕ → ℕ
plus a b = (a + b) % 2 ^ 8

abbrev minus : ℕ → ℕ → ℕ
minus a b = (a + (2 ^ 8 - b)) % 2 ^ 8

abbrev is_below : ℕ → ℕ → ℕ
is_below a b = cond (ltb a b) (2 ^ 8 - 1) 0

-- x where a is below b, and else y
abbrev where_below : ℕ → ℕ → ℕ → ℕ → ℕ
where_below a b x y = cond (top 7 (is_below a b)) x y

abbrev lanes_below : List ℕ → List ℕ → List ℕ → List ℕ → List ℕ
lanes_below us vs xs ys = sel_l (map (top 7) (zip2 is_below us vs)) xs ys

-- ---- the values of digits

abbrev decimal : ℕ → ℕ
decimal x = minus (minus (where_below (plus x 198) 6 6 (plus x 198)) 6) 240

abbrev letter : ℕ → ℕ
letter x =
    let from_a = minus (bit_and x 223) 65 in
    plus (where_below from_a 245 from_a 245) 10

abbrev value : ℕ → ℕ
value x = where_below (decimal x) (letter x) (decimal x) (letter x)

-- the same on n lanes
abbrev values : ℕ → List ℕ → List ℕ
values n xs =
    let moved = zip2 plus xs (replicate n 198) in
    let six = replicate n 6 in
    let decimals = zip2 minus (zip2 minus (lanes_below moved six six moved) six)
    (replicate n 240) in
    let from_a = zip2 minus (zip2 bit_and xs (replicate n 223)) (replicate n 65) in
    let most = replicate n 245 in
    let letters = zip2 plus (lanes_below from_a most from_a most) (replicate n 10) in
    lanes_below decimals letters decimals letters

values_at : (xs : List ℕ) (n i : ℕ) → length xs ≡ n → i < n
    → get_or (values n xs) i 0 ≡ value (get_or xs i 0)
values_at [] n i e h = absurd (omega arith)
values_at (x ∷ xs) zero i e h = absurd (omega arith)
values_at (x ∷ xs) (suc n) zero e h = refl
values_at (x ∷ xs) (suc n) (suc i) e h = values_at xs n i (omega arith) (omega arith)

abbrev pub is_read : Option ℕ → ℕ → Bool
is_read (Some u) v = ltb v 16 && eqb u v
is_read None v = leb 16 v

pub reads : (o : Option ℕ) (v : ℕ) → is_read o v ≡ true → o ≡ cond (ltb v 16) (Some v) None
reads o v h = grind arith

-- computed at each byte
value_reads : (c : ℕ) → c < 256 → Reads c (value c)
value_reads c h = reads (hex_digit_value c) (value c)
    (agree_below_at (λ b. is_read (hex_digit_value b) (value b)) (λ _. true) 256 c refl h)

pub values_read : (xs : List ℕ) (n i : ℕ) → length xs ≡ n → Each1 (Fits w8) xs → i < n
    → Reads (get_or xs i 0) (get_or (values n xs) i 0)
values_read xs n i e fits h = grind (arith, values_at, value_reads, lane_fits)

-- ---- whether all are below 16

flag : (x : ℕ) → (◌≡◌ {A = ℕ} (cond (top 7 (is_below 15 x)) 1 0) 0) ↔ (x < 16)
flag x = grind arith

mask_zero : (n : ℕ) (xs : List ℕ) → length xs ≡ n
    → (mask_l (map (top 7) (zip2 is_below (replicate n 15) xs)) ≡ 0)
    ↔ ((i : ℕ) → i < n → get_or xs i 0 < 16)
mask_zero zero xs e = (λ _ i h. absurd (omega arith), λ _. refl)
mask_zero (suc n) [] e = absurd (omega arith)
mask_zero (suc n) (x ∷ xs) e =
    let r = mask_zero n xs (omega arith) in (
      grind arith,
      λ h. omega (arith, (flag x).1 (h 0 (omega arith)), r.1 (λ i l. h (suc i) (omega arith))),
    )

pub all_below_16 : (xs : List ℕ) → length xs ≡ 32
    → (eqb (mask_l (map (top 7) (zip2 is_below (replicate 32 15) xs)) % 2 ^ 64) 0 ≡ true)
    ↔ ((i : ℕ) → i < 32 → get_or xs i 0 < 16)
all_below_16 xs e =
    let tests = zip2 is_below (replicate 32 15) xs in
    let small = mask_l-mod (map (top 7) tests) 64
    (omega (
      arith,
      length-map tests (top 7),
      length-zip2 is_below
          (replicate 32 15) xs (sym e),
    )) in
    let r = mask_zero 32 xs e in
    grind (arith, eqb-true, eq-eqb)

-- ---- the larger of two lanes

maximum_at : (xs ys : List ℕ) (n i : ℕ) → length xs ≡ n → length ys ≡ n → i < n
    → get_or (lanes_below xs ys ys xs) i 0 ≡ where_below (get_or xs i 0) (get_or ys i 0)
    (get_or ys i 0) (get_or xs i 0)
maximum_at [] ys n i e f h = absurd (omega arith)
maximum_at (x ∷ xs) [] n i e f h = absurd (omega arith)
maximum_at (x ∷ xs) (y ∷ ys) zero i e f h = absurd (omega arith)
maximum_at (x ∷ xs) (y ∷ ys) (suc n) zero e f h = refl
maximum_at (x ∷ xs) (y ∷ ys) (suc n) (suc i) e f h =
    maximum_at xs ys n i (omega arith) (omega arith) (omega arith)

maximum_small : (x y : ℕ) → (where_below x y y x < 16) ↔ ((x < 16) × (y < 16))
maximum_small x y = grind arith

pub maximum_values : (xs ys : List ℕ) → length xs ≡ 32 → length ys ≡ 32
    → AreDigitValues (lanes_below xs ys ys xs) ↔ (AreDigitValues xs × AreDigitValues ys)
maximum_values xs ys e f = (
  λ h. (
    λ i l. ((maximum_small _ _).0 (rw (maximum_at xs ys 32 i e f l) at (h i l))).0,
    λ i l.
        ((maximum_small _ _).0 (rw (maximum_at xs ys 32 i e f l) at (h i l))).1,
  ),
  grind (arith, maximum_at, maximum_small),
)

pub zero_values : AreDigitValues (replicate 32 0)
zero_values i h = rw (get_or-replicate {A = ℕ} 32 i 0 0 h) (omega arith)

-- ---- two values in a row as one number of 16 bits, and as one byte

abbrev join : ℕ → ℕ
join w = w * 4097 % 65536 / 256

join_pair : (a b n : ℕ) → a < 16 → b < 16 → join ((a + 256 * (b + 256 * n)) % 65536) ≡ a * 16 + b
join_pair a b n p q = grind arith

pub byte_at : (n : ℕ) (vs : List ℕ) (k : ℕ) → length vs ≡ 2 * n
    → ((i : ℕ) → i < 2 * n → get_or vs i 0 < 16) → k < n
    → get_or (map join (digits_l 65536 n (number_l 256 vs))) k 0
    ≡ get_or vs (2 * k) 0 * 16 + get_or vs (2 * k + 1) 0
byte_at zero vs k e h l = absurd (omega arith)
byte_at (suc n) [] k e h l = absurd (omega arith)
byte_at (suc n) (a ∷ []) k e h l = absurd (omega arith)
byte_at (suc n) (a ∷ b ∷ vs) zero e h l =
    join_pair a b (number_l 256 vs) (h 0 (omega arith)) (h 1 (omega arith))
byte_at (suc n) (a ∷ b ∷ vs) (suc k) e h l =
    let p : a < 16 = h 0 (omega arith) in
    let q : b < 16 = h 1 (omega arith) in
    let rest : (a + 256 * (b + 256 * number_l 256 vs)) / 65536 ≡ number_l 256 vs = omega arith in
    let high : suc (suc (2 * k)) ≡ 2 * suc k = omega arith in
    let low : suc (suc (2 * k + 1)) ≡ 2 * suc k + 1 = omega arith in
    ap (λ m. get_or (map join (digits_l 65536 n m)) k 0) rest
    ∙ byte_at n vs k (omega arith) (λ i m. h (suc (suc i)) (omega arith)) (omega arith)
    ∙ ap₂ (λ i j. get_or (a ∷ b ∷ vs) i 0 * 16 + get_or (a ∷ b ∷ vs) j 0) high low

-- ---- the digits of bytes

abbrev down : ℕ → ℕ → ℕ
down a b = a / 2 ^ b

high_small : (v : List ℕ) → length v ≡ 16 → Each1 (Fits w8) v
    → Each1 (λ j. j < 16) (zip2 down v (replicate 16 4))
high_small v e fits =
    let small = Each1-weaker (λ a. a < 256) (λ a. a / 16 < 16) (λ a h. omega arith) v
    (below_from_Fits w8 v fits) in
    Each1-zip2 down (λ j. j < 16) v (replicate 16 4)
    (Each2-splat (λ a b. down a b < 16) v 16 4 small)

low_small : (v : List ℕ) → Each1 (λ j. j < 16) (zip2 bit_and v (replicate 16 15))
low_small v =
    let small = Each1-all (λ a. bit_and a 15 < 16) (λ a. omega (arith, and_le_r a 15)) v in
    Each1-zip2 bit_and (λ j. j < 16) v (replicate 16 15)
    (Each2-splat (λ a b. bit_and a b < 16) v 16 15 small)

pub high_ok : (v : List ℕ) → length v ≡ 16 → Each1 (Fits w8) v
    → SwzOk w8 16 16 0 (zip2 down v (replicate 16 4))
high_ok v e fits =
    SwzOk-from_below w8 16 1 16 0 (zip2 down v (replicate 16 4)) refl
    (omega (arith, length-zip2 down v (replicate 16 4) e)) (high_small v e fits)

pub low_ok : (v : List ℕ) → length v ≡ 16 → SwzOk w8 16 16 0 (zip2 bit_and v (replicate 16 15))
low_ok v e =
    SwzOk-from_below w8 16 1 16 0 (zip2 bit_and v (replicate 16 15)) refl
    (omega (arith, length-zip2 bit_and v (replicate 16 15) e)) (low_small v)

-- the first list's elements, each with one of the second after it
abbrev indices : List ℕ
indices = 0 ∷ 16 ∷ 1 ∷ 17 ∷ 2 ∷ 18 ∷ 3 ∷ 19 ∷ 4 ∷ 20 ∷ 5 ∷ 21 ∷ 6 ∷ 22 ∷ 7 ∷ 23 ∷ 8 ∷ 24 ∷ 9 ∷ 25 ∷
    10 ∷ 26 ∷ 11 ∷ 27 ∷ 12 ∷ 28 ∷ 13 ∷ 29 ∷ 14 ∷ 30 ∷ 15 ∷ 31 ∷ []

are_indices : (k : ℕ) → k < 16 → (get_or indices (2 * k) 0 ≡ k)
    × (get_or indices (2 * k + 1) 0 ≡ 16 + k)
are_indices k h =
    let p = and_parts _ _
    (agree_below_at (λ i. eqb (get_or indices (2 * i) 0) i
    && eqb (get_or indices (2 * i + 1) 0) (16 + i)) (λ _. true) 16 k refl h) in
    (eqb-true _ _ p.0, eqb-true _ _ p.1)

first_at : (xs ys : List ℕ) (k : ℕ) → length xs ≡ 16 → k < 16
    → get_or (pick_l 0 (xs ++ ys) indices) (2 * k) 0 ≡ get_or xs k 0
first_at xs ys k e h =
    get_or-map (λ i. get_or (xs ++ ys) i 0) indices (2 * k) 0 0 (omega arith)
    ∙ ap (λ i. get_or (xs ++ ys) i 0) (are_indices k h).0
    ∙ get_or_append_left xs ys 0 k (omega arith)

second_at : (xs ys : List ℕ) (k : ℕ) → length xs ≡ 16 → k < 16
    → get_or (pick_l 0 (xs ++ ys) indices) (2 * k + 1) 0 ≡ get_or ys k 0
second_at xs ys k e h =
    let j : 16 + k - 16 ≡ k = omega arith in
    get_or-map (λ i. get_or (xs ++ ys) i 0) indices (2 * k + 1) 0 0 (omega arith)
    ∙ ap (λ i. get_or (xs ++ ys) i 0) (are_indices k h).1
    ∙ get_or-append_right xs ys 16 (16 + k) 0 e (omega arith)
    ∙ ap (λ i. get_or ys i 0) j

-- a table of 16 entries, read at js
table_at : (t js : List ℕ) (k : ℕ) → length js ≡ 16 → Each1 (λ j. j < 16) js → k < 16
    → get_or (swz_l w8 16 t 0 js) k 0 ≡ get_or t (get_or js k 0) 0
table_at t js k e small h =
    let at : 16 * ((0 + k) / 16) + get_or js k 0 ≡ get_or js k 0 = omega arith in
    get_or-swz_l_below w8 16 t 0 js k (omega arith)
    (Each1-get_or (λ j. j < 16) js k 0 (omega arith) small) ∙ ap (λ i. get_or t i 0) at

zipped_at : (f : ℕ → ℕ → ℕ) (v : List ℕ) (y k : ℕ) → length v ≡ 16 → k < 16
    → get_or (zip2 f v (replicate 16 y)) k 0 ≡ f (get_or v k 0) y
zipped_at f v y k e h = rw (zip2_splat f v 16 y e) (get_or-map (λ x. f x y) v k 0 0 (omega arith))

abbrev digits_by : List ℕ → List ℕ → List ℕ
digits_by t v = pick_l 0 (swz_l w8 16 t 0 (zip2 down v (replicate 16 4))
    ++ swz_l w8 16 t 0 (zip2 bit_and v (replicate 16 15))) indices

pub high_digit : (t v : List ℕ) (k : ℕ) → length v ≡ 16 → Each1 (Fits w8) v → k < 16
    → get_or (digits_by t v) (2 * k) 0 ≡ get_or t (get_or v k 0 / 16) 0
high_digit t v k e fits h =
    let js = zip2 down v (replicate 16 4) in
    let long : length js ≡ 16 = grind (arith, length-zip2) in
    first_at (swz_l w8 16 t 0 js) _ k (length-swz_l w8 16 t 0 js ∙ long) h
    ∙ table_at t js k long (high_small v e fits) h
    ∙ ap (λ i. get_or t i 0) (zipped_at down v 4 k e h)

pub low_digit : (t v : List ℕ) (k : ℕ) → length v ≡ 16 → Each1 (Fits w8) v → k < 16
    → get_or (digits_by t v) (2 * k + 1) 0 ≡ get_or t (get_or v k 0 % 16) 0
low_digit t v k e fits h =
    let hs = zip2 down v (replicate 16 4) in
    let js = zip2 bit_and v (replicate 16 15) in
    let long : length js ≡ 16 = grind (arith, length-zip2) in
    second_at (swz_l w8 16 t 0 hs) (swz_l w8 16 t 0 js) k
    (length-swz_l w8 16 t 0 hs ∙ length-zip2 down v (replicate 16 4) e ∙ e) h
    ∙ table_at t js k long (low_small v) h
    ∙ ap (λ i. get_or t i 0) (zipped_at bit_and v 15 k e h ∙ and_mask (get_or v k 0) 4)
