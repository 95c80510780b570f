-- Laws of `fold`.
use Rattle.std.proofs.Common.{not, ◌&&◌, ◌==◌, ◌≡◌, Bool, true, false, ◌^◌, ◌⊎◌, ℕ, zero, suc, ◌+◌, ◌-◌, ◌*◌, ◌/◌, ◌%◌}
use Rattle.std.proofs.Common.{◌<◌, ◌≤◌, sym, ap, ap₂, ◌∙◌, refl, arith, inl, inr}
use Rattle.std.specs.Bool.{FalseIff}
use Rattle.std.specs.Int.{swap_bytes, w16}
use mir.Val.{bool_byte}
use Rattle.ep_base.specs.Sum.{fold, accumulator_sum}

pub fold_zero : fold 0 ≡ 0
unfolding fold
fold_zero = refl

pub fold_le : (n : ℕ) → fold n ≤ 65535
unfolding fold
fold_le n = grind arith

-- a positive total has a positive fold
pub fold_pos : (n : ℕ) → 0 < n → 0 < fold n
unfolding fold
fold_pos n h = grind arith

pub fold_id : (n : ℕ) → n ≤ 65535 → fold n ≡ n
unfolding fold
fold_id n h = grind arith

-- multiples of 65535 don't change the fold of a positive total
pub fold_step : (n k : ℕ) → 0 < n → fold (n + 65535 * k) ≡ fold n
unfolding fold
fold_step n k h = grind arith

-- a total is its fold and a multiple of 65535
pub fold_rest : (n : ℕ) → (k : ℕ) × (n ≡ fold n + 65535 * k)
unfolding fold
fold_rest zero = (0, refl)
fold_rest (suc n) = (n / 65535, omega arith)

pub zero_or_pos : (n : ℕ) → (n ≡ 0) ⊎ (0 < n)
zero_or_pos n = grind arith

-- a sum may be folded before more is added
pub fold_add : (m n : ℕ) → fold (fold m + n) ≡ fold (m + n)
fold_add m n = elim (zero_or_pos m) [
  | inl z ↦ (rw z (rw fold_zero refl))
  | inr p ↦
      let r = fold_rest m in
      let e : m + n ≡ (fold m + n) + 65535 * r.0 = omega (arith, r.1) in
      grind (arith, fold_step, fold_pos)
]

pub fold_cong : (a b n : ℕ) → fold a ≡ fold b → fold (a + n) ≡ fold (b + n)
fold_cong a b n e = sym (fold_add a n) ∙ ap (λ f. fold (f + n)) e ∙ fold_add b n

pub fold_cong_right : (a b n : ℕ) → fold a ≡ fold b → fold (n + a) ≡ fold (n + b)
fold_cong_right a b n e =
    let l : n + a ≡ a + n = omega arith in
    let r : b + n ≡ n + b = omega arith in
    grind (arith, fold_cong)

-- end-around: a power of 65536 is one
pub fold_around : (k lo hi : ℕ) → fold (lo + hi + 65535 * (k * hi)) ≡ fold (lo + hi)
fold_around k lo hi = grind (arith, fold_step)

pub fold_around_16 : (lo hi : ℕ) → fold (lo + 65536 * hi) ≡ fold (lo + hi)
fold_around_16 lo hi = let e : lo + 65536 * hi ≡ lo + hi + 65535 * (1 * hi) = omega arith in
    ap fold e ∙ fold_around 1 lo hi

pub fold_around_32 : (lo hi : ℕ) → fold (lo + 4294967296 * hi) ≡ fold (lo + hi)
fold_around_32 lo hi = let e : lo + 4294967296 * hi ≡ lo + hi + 65535 * (65537 * hi) =
    omega arith in ap fold e ∙ fold_around 65537 lo hi

pub fold_around_64 : (lo hi : ℕ) → fold (lo + 18446744073709551616 * hi) ≡ fold (lo + hi)
fold_around_64 lo hi = let e : lo + 18446744073709551616 * hi
    ≡ lo + hi + 65535 * (281479271743489 * hi) = omega arith in
    grind (arith, fold_around)

-- 256 times a fold
fold_times : (m : ℕ) → fold (256 * fold m) ≡ fold (256 * m)
fold_times m = elim (zero_or_pos m) [
  | inl z ↦ grind (arith, fold_zero)
  | inr p ↦
      let r = fold_rest m in
      let e : 256 * m ≡ 256 * fold m + 65535 * (256 * r.0) = omega (arith, r.1) in
      grind (arith, fold_step, fold_pos)
]

fold_swap_bytes : (f : ℕ) → f ≤ 65535 → fold (256 * f) ≡ swap_bytes w16 f
fold_swap_bytes f h =
    let e : 256 * f ≡ 256 * (f % 256) + 65536 * (f / 256) = omega arith in
    let t : 256 * (f % 256) + f / 256 ≡ swap_bytes w16 f = omega arith in
    grind (arith, fold_around_16, fold_id)

-- to take a total 256 times is to swap the bytes of its fold
pub fold_of_swap_bytes : (m : ℕ) → fold (256 * m) ≡ swap_bytes w16 (fold m)
fold_of_swap_bytes m = sym (fold_times m) ∙ fold_swap_bytes (fold m) (fold_le m)

pub swap_bytes_twice : (f : ℕ) → f ≤ 65535 → swap_bytes w16 (swap_bytes w16 f) ≡ f
swap_bytes_twice f h = grind arith

-- the wide sum less its carry out, and the carry
pub fold_carry_64 : (a b s : ℕ) (carry : Bool) → a < 2 ^ 64 → b < 2 ^ 64 → s ≡ (a + b) % 2 ^ 64
    → FalseIff carry (a + b < 2 ^ 64) → fold (s + bool_byte carry) ≡ fold (a + b)
fold_carry_64 a b s true p q e wraps =
    let w : a + b ≡ s + 18446744073709551616 * 1 = omega (arith, wraps) in
    sym (ap fold w ∙ fold_around_64 s 1)
fold_carry_64 a b s false p q e fits = let w : s + 0 ≡ a + b = omega (arith, fits) in ap fold w

pub fold_carry_32 : (a b s : ℕ) (carry : Bool) → a < 2 ^ 32 → b < 2 ^ 32 → s ≡ (a + b) % 2 ^ 32
    → FalseIff carry (a + b < 2 ^ 32) → fold (s + bool_byte carry) ≡ fold (a + b)
fold_carry_32 a b s true p q e wraps =
    let w : a + b ≡ s + 4294967296 * 1 = omega (arith, wraps) in
    sym (ap fold w ∙ fold_around_32 s 1)
fold_carry_32 a b s false p q e fits = let w : s + 0 ≡ a + b = omega (arith, fits) in ap fold w

pub fold_carry_16 : (a b s : ℕ) (carry : Bool) → a < 2 ^ 16 → b < 2 ^ 16 → s ≡ (a + b) % 2 ^ 16
    → FalseIff carry (a + b < 2 ^ 16) → fold (s + bool_byte carry) ≡ fold (a + b)
fold_carry_16 a b s true p q e wraps =
    let w : a + b ≡ s + 65536 * 1 = omega (arith, wraps) in
    sym (ap fold w ∙ fold_around_16 s 1)
fold_carry_16 a b s false p q e fits = let w : s + 0 ≡ a + b = omega (arith, fits) in ap fold w

-- with its carry the sum still fits
carried_fits_32 : (a b s : ℕ) (carry : Bool) → a < 2 ^ 32 → b < 2 ^ 32 → s ≡ (a + b) % 2 ^ 32
    → FalseIff carry (a + b < 2 ^ 32) → s + bool_byte carry < 2 ^ 32
carried_fits_32 a b s carry p q e wraps = grind arith

carried_fits_16 : (a b s : ℕ) (carry : Bool) → a < 2 ^ 16 → b < 2 ^ 16 → s ≡ (a + b) % 2 ^ 16
    → FalseIff carry (a + b < 2 ^ 16) → s + bool_byte carry < 2 ^ 16
carried_fits_16 a b s carry p q e wraps = grind arith

pub complement_swap_bytes : (f : ℕ) → f ≤ 65535
    → 65535 - swap_bytes w16 f ≡ swap_bytes w16 (65535 - f)
complement_swap_bytes f h = omega arith

-- the two halves of a wide number added, and then the two words of that sum
pub fold_halves : (n : ℕ) → fold (n % 4294967296 + n / 4294967296) ≡ fold n
fold_halves n =
    let whole : n ≡ n % 4294967296 + 4294967296 * (n / 4294967296) = omega arith in
    grind (arith, fold_around_32)

pub fold_wide_halves : (n : ℕ)
    → fold (n % 18446744073709551616 + n / 18446744073709551616) ≡ fold n
fold_wide_halves n =
    let whole : n ≡ n % 18446744073709551616 + 18446744073709551616 * (n / 18446744073709551616) =
    omega arith in
    grind (arith, fold_around_64)

pub fold_words : (n : ℕ) → fold (n % 65536 + n / 65536) ≡ fold n
fold_words n =
    let whole : n ≡ n % 65536 + 65536 * (n / 65536) = omega arith in
    grind (arith, fold_around_16)

pub fold_of_halves : (n low half low_word word : ℕ) (carry over : Bool) → n < 2 ^ 64
    → low ≡ n % 4294967296 → half ≡ (low + n / 4294967296) % 2 ^ 32
    → FalseIff carry (low + n / 4294967296 < 2 ^ 32)
    → low_word ≡ (half + bool_byte carry) % 65536
    → word ≡ (low_word + (half + bool_byte carry) / 65536) % 2 ^ 16
    → FalseIff over (low_word + (half + bool_byte carry) / 65536 < 2 ^ 16)
    → word + bool_byte over ≡ fold n
fold_of_halves n low half low_word word carry over fits lows halves carries low_words words overs =
    let m : ℕ = half + bool_byte carry in
    let whole : low + n / 4294967296 ≡ n % 4294967296 + n / 4294967296 = omega arith in
    let parts : low_word + m / 65536 ≡ m % 65536 + m / 65536 = omega arith in
    let in_half : m < 2 ^ 32 =
    carried_fits_32 low (n / 4294967296) half carry (omega arith) (omega arith) halves carries in
    let in_word : word + bool_byte over < 2 ^ 16 =
    carried_fits_16 low_word (m / 65536) word over (omega arith) (omega arith) words overs in
    sym (fold_id (word + bool_byte over) (omega arith))
    ∙ fold_carry_16 low_word (m / 65536) word over (omega arith) (omega arith) words overs
    ∙ ap fold parts ∙ fold_words m
    ∙ fold_carry_32 low (n / 4294967296) half carry (omega arith) (omega arith) halves carries
    ∙ ap fold whole ∙ fold_halves n

-- ---- numbers into which words were added low byte first

pub fold_add_right : (m n : ℕ) → fold (m + fold n) ≡ fold (m + n)
fold_add_right m n =
    let l : m + fold n ≡ fold n + m = omega arith in
    let r : n + m ≡ m + n = omega arith in
    cc (l, fold_add n m, r)

pub fold_plus_none : (m n : ℕ) → n ≡ 0 → fold (fold m + n) ≡ fold m
fold_plus_none m n none = fold_add m n ∙ ap fold (let e : m + n ≡ m = omega (arith, none) in e)

pub accumulator_sum_cong : (m n : ℕ) → fold m ≡ fold n → accumulator_sum m ≡ accumulator_sum n
accumulator_sum_cong m n e = grind (arith, fold_of_swap_bytes)

pub accumulator_sum-add : (m n : ℕ)
    → accumulator_sum (m + n) ≡ fold (accumulator_sum m + accumulator_sum n)
accumulator_sum-add m n = grind (arith, fold_add, fold_add_right)

pub accumulator_sum_carry_64 : (a b s : ℕ) (carry : Bool) → a < 2 ^ 64 → b < 2 ^ 64
    → s ≡ (a + b) % 2 ^ 64 → FalseIff carry (a + b < 2 ^ 64)
    → accumulator_sum (s + bool_byte carry) ≡ fold (accumulator_sum a + accumulator_sum b)
accumulator_sum_carry_64 a b s carry p q e wraps =
    accumulator_sum_cong (s + bool_byte carry) (a + b) (fold_carry_64 a b s carry p q e wraps)
    ∙ accumulator_sum-add a b

pub accumulator_sum_carry_32 : (a b s : ℕ) (carry : Bool) → a < 2 ^ 32 → b < 2 ^ 32
    → s ≡ (a + b) % 2 ^ 32 → FalseIff carry (a + b < 2 ^ 32)
    → accumulator_sum (s + bool_byte carry) ≡ fold (accumulator_sum a + accumulator_sum b)
accumulator_sum_carry_32 a b s carry p q e wraps =
    accumulator_sum_cong (s + bool_byte carry) (a + b) (fold_carry_32 a b s carry p q e wraps)
    ∙ accumulator_sum-add a b

-- a wide number as its two halves
pub accumulator_sum_halves : (n : ℕ)
    → fold (accumulator_sum (n % 4294967296) + accumulator_sum (n / 4294967296)) ≡ accumulator_sum n
accumulator_sum_halves n =
    sym (accumulator_sum-add (n % 4294967296) (n / 4294967296))
    ∙ accumulator_sum_cong _ n (fold_halves n)

pub accumulator_sum_wide_halves : (n low high sum : ℕ) → low ≡ n % 18446744073709551616
    → high ≡ n / 18446744073709551616
    → accumulator_sum sum ≡ fold (accumulator_sum low + accumulator_sum high)
    → accumulator_sum sum ≡ accumulator_sum n
accumulator_sum_wide_halves n low high sum is_low is_high so =
    so ∙ sym (accumulator_sum-add low high)
    ∙ ap₂ (λ l h. accumulator_sum (l + h)) is_low is_high
    ∙ accumulator_sum_cong _ n (fold_wide_halves n)

-- the complement of a number's fold is that of its sum with the bytes swapped
pub complement_of_accumulator_sum : (n : ℕ)
    → 65535 - fold n ≡ swap_bytes w16 (65535 - accumulator_sum n)
complement_of_accumulator_sum n =
    grind (arith, fold_le, fold_of_swap_bytes, complement_swap_bytes, swap_bytes_twice)

-- the complement is 0 just where the words sum to all ones
pub swap_bytes_complement_zero : (n answer : ℕ) → answer ≡ swap_bytes w16 (65535 - fold n)
    → (answer == 0) ≡ (not (n == 0) && (n % 65535 == 0))
unfolding fold
swap_bytes_complement_zero n answer is = grind arith
