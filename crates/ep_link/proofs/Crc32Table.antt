-- Eight steps of the division at once, by the table.
use Rattle.std.proofs.Common.{◌≡◌, ℕ, ◌+◌, ◌*◌, ◌^◌, ◌/◌, ◌%◌, ◌<◌, ◌==◌, true, List, [], ◌∷◌, length, slice_index_or, if◌then◌else◌}
use Rattle.std.proofs.Common.{arith, zero, suc, bit_xor}
use Rattle.std.proofs.lemmas.Nat.{xor_block, xor_comm, xor_lt, xor_shr}
use Rattle.std.proofs.lemmas.Nat.Bits.{bit_at_xor, bit_at_lowest, same_from_bits}
use Rattle.std.specs.Int.Bits.{xor_self, xor_zero_r}
use Rattle.ep_link.specs.Crc32Register.{low_powers, step, steps, after_byte, are_of}

tabled_from : (f : ℕ → ℕ) (k : ℕ) (xs : List ℕ) (i : ℕ) → are_of f k xs ≡ true → i < length xs
    → slice_index_or xs i 0 ≡ f (k + i)
tabled_from f k [] i same below = grind arith
tabled_from f k (x ∷ xs) zero same below = grind arith
tabled_from f k (x ∷ xs) (suc i) same below = grind (arith, tabled_from f (suc k) xs i)

tabled : (f : ℕ → ℕ) (xs : List ℕ) (i n : ℕ) → are_of f 0 xs ≡ true → i < length xs → i ≡ n
    → slice_index_or xs i 0 ≡ f n
tabled f xs i n same below is = grind (arith, tabled_from f 0 xs i)

pub tabled_steps : (xs : List ℕ) (i n : ℕ) → are_of (steps 8) 0 xs ≡ true → i < length xs → i ≡ n
    → slice_index_or xs i 0 ≡ steps 8 n
tabled_steps xs i n same below is = tabled (steps 8) xs i n same below is

-- the four in another order
xor_swapped : (a b c d : ℕ)
    → bit_xor (bit_xor a b) (bit_xor c d) ≡ bit_xor (bit_xor a c) (bit_xor b d)
xor_swapped a b c d = same_from_bits _ _ (λ i. simp bit_at_xor (omega arith))

-- what is added as the lowest bit falls out
abbrev added : ℕ → ℕ
added r = if r % 2 == 1 then low_powers else 0

added_xor : (a b : ℕ) → added (bit_xor a b) ≡ bit_xor (added a) (added b)
added_xor a b =
    let lowest : bit_xor a b % 2 ≡ (a % 2 + b % 2) % 2 = simp bit_at_lowest at (bit_at_xor a b 0) in
    grind (arith, lowest, xor_self low_powers, xor_zero_r)

pub step_xor : (a b : ℕ) → step (bit_xor a b) ≡ bit_xor (step a) (step b)
step_xor a b = rw (xor_shr a b 1, added_xor a b) (xor_swapped (a / 2) (b / 2) (added a) (added b))

steps_xor : (n a b : ℕ) → steps n (bit_xor a b) ≡ bit_xor (steps n a) (steps n b)
steps_xor zero a b = λ i. bit_xor a b
steps_xor (suc n) a b = rw (step_xor a b) (steps_xor n (step a) (step b))

pub step_even : (m : ℕ) → step (m * 2) ≡ m
step_even m =
    let half : m * 2 / 2 ≡ m = omega arith in
    let even : m * 2 % 2 ≡ 0 = omega arith in
    rw (half, even) (xor_zero_r m)

-- n bits higher
abbrev up : ℕ → ℕ → ℕ
up zero m = m
up (suc n) m = up n m * 2

steps_up : (n m : ℕ) → steps n (up n m) ≡ m
steps_up zero m = λ i. m
steps_up (suc n) m = rw (step_even (up n m)) (steps_up n m)

-- bits above the lowest eight move down
steps_high : (m : ℕ) → steps 8 (m * 2 ^ 8) ≡ m
steps_high m =
    let eight : m * 2 ^ 8 ≡ up 8 m = omega arith in
    rw eight (steps_up 8 m)

-- the lowest eight bits apart
apart : (r byte : ℕ) → byte < 2 ^ 8
    → bit_xor r byte ≡ bit_xor (r / 2 ^ 8 * 2 ^ 8) (bit_xor (r % 2 ^ 8) byte)
apart r byte below =
    let high = r / 2 ^ 8 in
    let low = r % 2 ^ 8 in
    let small : low < 2 ^ 8 = omega arith in
    let one : bit_xor (high * 2 ^ 8 + low) (0 * 2 ^ 8 + byte) ≡ bit_xor high 0 * 2 ^ 8 + bit_xor low byte =
    xor_block 8 high 0 low byte small below in
    let two : bit_xor (high * 2 ^ 8 + 0) (0 * 2 ^ 8 + bit_xor low byte) ≡ bit_xor high 0 * 2 ^ 8 + bit_xor 0 (bit_xor low byte) =
    xor_block 8 high 0 0 (bit_xor low byte) (omega arith) (xor_lt 8 low byte small below) in
    let whole : r ≡ high * 2 ^ 8 + low = omega arith in
    grind (arith, one, two, whole)

pub by_lowest : (r byte : ℕ) → byte < 2 ^ 8
    → bit_xor (steps 8 (bit_xor (r % 2 ^ 8) byte)) (r / 2 ^ 8) ≡ after_byte r byte
by_lowest r byte below = rw (
  apart r byte below,
  steps_xor 8 (r / 2 ^ 8 * 2 ^ 8) (bit_xor (r % 2 ^ 8) byte),
  steps_high (r / 2 ^ 8),
)
    (xor_comm (steps 8 (bit_xor (r % 2 ^ 8) byte)) (r / 2 ^ 8))
