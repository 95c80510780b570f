-- The division in a register is the long division of polynomials.
use Rattle.std.proofs.Common.{◌≡◌, ℕ, ◌+◌, ◌-◌, ◌*◌, ◌^◌, ◌/◌, ◌%◌, ◌<◌, ◌==◌, Bool, true, false, not, if◌then◌else◌}
use Rattle.std.proofs.Common.{List, [], ◌∷◌, ◌++◌, length, take, drop, replicate, zero, suc, bit_xor}
use Rattle.std.proofs.Common.{refl, sym, ap, ◌∙◌, arith, pow-suc, lit<, length-append}
use Rattle.std.proofs.lemmas.Nat.{xor_block, xor_comm, xor_lt, xor_shr}
use Rattle.std.proofs.lemmas.Nat.Bits.{bit_at_xor, bit_at_lowest}
use Rattle.std.specs.Int.Bits.{xor_assoc, xor_zero_r}
use Rattle.std.specs.List.{flat_map}
use Rattle.ep_base.specs.Bytes.{IsBytes}
use Rattle.ep_link.specs.Crc32.{bits_of, complement, crc32, divided, generator, minus, number_of, remainder}
use Rattle.ep_link.specs.Crc32Register.{after_byte, low_powers, step, steps}
use Rattle.ep_link.proofs.Crc32Division.{complement-all, complement-minus, divided-first, length-minus}
use Rattle.ep_link.proofs.Crc32Division.{minus-longer, minus-minus}
use Rattle.ep_link.proofs.Crc32Table.{step_even, step_xor}

-- numbers and their bits

half : (n m : ℕ) → m < 2 ^ suc n → m / 2 < 2 ^ n
half n m below = omega (arith, pow-suc 2 n)

lowest-xor : (a b : ℕ) → bit_xor a b % 2 ≡ (a % 2 + b % 2) % 2
lowest-xor a b = simp bit_at_lowest at (bit_at_xor a b 0)

length-bits : (n m : ℕ) → length (bits_of n m) ≡ n
length-bits zero m = refl
length-bits (suc n) m = rw (length-bits n (m / 2))

bits-xor : (n a b : ℕ) → bits_of n (bit_xor a b) ≡ minus (bits_of n a) (bits_of n b)
bits-xor zero a b = refl
bits-xor (suc n) a b =
    let others : bits_of n (bit_xor a b / 2) ≡ minus (bits_of n (a / 2)) (bits_of n (b / 2)) =
    rw (xor_shr a b 1) (bits-xor n (a / 2) (b / 2)) in
    grind (arith, lowest-xor a b, others)

bits-longer : (n m : ℕ) → m < 2 ^ n → bits_of (suc n) m ≡ bits_of n m ++ false ∷ []
bits-longer zero m below = grind arith
bits-longer (suc n) m below = rw (bits-longer n (m / 2) (half n m below))

minus-bits-longer : (m n : ℕ) (bits : List Bool) → m < 2 ^ n
    → minus bits (bits_of n m) ≡ minus bits (bits_of (suc n) m)
minus-bits-longer m n bits below =
    sym (ap (minus bits) (bits-longer n m below) ∙ minus-longer bits (bits_of n m))

minus-bits : (n m : ℕ) → minus (replicate n false) (bits_of n m) ≡ bits_of n m
minus-bits zero m = refl
minus-bits (suc n) m = grind (arith, minus-bits n (m / 2))

number-bits : (n m : ℕ) → m < 2 ^ n → number_of (bits_of n m) ≡ m
number-bits zero m below = grind arith
number-bits (suc n) m below = grind (arith, number-bits n (m / 2) (half n m below))

abbrev bit_number : Bool → ℕ
bit_number bit = if bit then 1 else 0

-- a bit of the message in the register's lowest one
first-bit : (r : ℕ) (bit : Bool)
    → (if r % 2 == 1 then not bit else bit) ≡ (bit_xor r (bit_number bit) % 2 == 1)
first-bit r true = grind (arith, lowest-xor r 1)
first-bit r false = grind (arith, lowest-xor r 0)

other-bits : (r : ℕ) (bit : Bool) → bit_xor r (bit_number bit) / 2 ≡ r / 2
other-bits r true = rw (xor_shr r 1 1) (xor_zero_r (r / 2))
other-bits r false = rw (xor_zero_r r)

-- a register of n + 1 bits, and a divisor that begins with 1, before the bits of a number
module _ (n low : ℕ) (fits : low < 2 ^ suc n) where
  abbrev next : ℕ → ℕ
  next r = bit_xor (r / 2) (if r % 2 == 1 then low else 0)

  abbrev after : ℕ → List Bool → ℕ
  after r [] = r
  after r (bit ∷ bits) = after (next (bit_xor r (bit_number bit))) bits

  next-bits : (first : Bool) (m : ℕ) (bits : List Bool) → m < 2 ^ n
      → (if first then minus (minus bits (bits_of n m)) (bits_of (suc n) low)
      else minus bits (bits_of n m))
      ≡ minus bits (bits_of (suc n) (bit_xor m (if first then low else 0)))
  next-bits true m bits below =
      let others = bits_of (suc n) low in
      minus-minus bits (bits_of n m) others (omega (arith, length-bits n m, length-bits (suc n) low))
      ∙ ap (minus bits) (minus-bits-longer m n others below ∙ sym (bits-xor (suc n) low m)
      ∙ ap (bits_of (suc n)) (xor_comm low m))
  next-bits false m bits below =
      minus-bits-longer m n bits below
      ∙ ap (λ number. minus bits (bits_of (suc n) number)) (sym (xor_zero_r m))

  next-fits : (r : ℕ) → r < 2 ^ suc n → next r < 2 ^ suc n
  next-fits r below =
      xor_lt (suc n) (r / 2) (if r % 2 == 1 then low else 0) (omega arith) (grind arith)

  bit-fits : (r : ℕ) (bit : Bool) → r < 2 ^ suc n → bit_xor r (bit_number bit) < 2 ^ suc n
  bit-fits r true below = xor_lt (suc n) r 1 below (omega (arith, pow-suc 2 n))
  bit-fits r false below = rw (xor_zero_r r) below

  after-fits : (bits : List Bool) (r : ℕ) → r < 2 ^ suc n → after r bits < 2 ^ suc n
  after-fits [] r below = below
  after-fits (bit ∷ bits) r below =
      let s = bit_xor r (bit_number bit) in
      after-fits bits (next s) (next-fits s (bit-fits r bit below))

  -- the dividend is what is left of the message times x^(n + 1), less the register
  after-bits : (bits : List Bool) (r : ℕ) → r < 2 ^ suc n
      → divided (length bits) (true ∷ bits_of (suc n) low)
      (minus (bits ++ replicate (suc n) false) (bits_of (suc n) r))
      ≡ bits_of (suc n) (after r bits)
  after-bits [] r below = minus-bits (suc n) r
  after-bits (bit ∷ bits) r below =
      let s = bit_xor r (bit_number bit) in
      let small = bit-fits r bit below in
      let others = bits_of (suc n) low in
      let long = bits ++ replicate (suc n) false in
      let begins : minus (bit ∷ long) (bits_of (suc n) r)
      ≡ (s % 2 == 1) ∷ minus long (bits_of n (s / 2)) = cc (first-bit r bit, other-bits r bit) in
      ap (divided (suc (length bits)) (true ∷ others)) begins
      ∙ divided-first (length bits) (s % 2 == 1) (minus long (bits_of n (s / 2))) others
      ∙ ap (divided (length bits) (true ∷ others))
      (next-bits (s % 2 == 1) (s / 2) long (half n s small))
      ∙ after-bits bits (next s) (next-fits s small)

-- the register of 32 bits, and bytes

abbrev after_bits : ℕ → List Bool → ℕ
after_bits r bits = after 31 low_powers (lit< tt) r bits

after_bits-append : (r : ℕ) (bits more : List Bool)
    → after_bits r (bits ++ more) ≡ after_bits (after_bits r bits) more
after_bits-append r [] more = refl
after_bits-append r (bit ∷ bits) more =
    after_bits-append (step (bit_xor r (bit_number bit))) bits more

lowest-apart : (m : ℕ) → m ≡ bit_xor (bit_number (m % 2 == 1)) (m / 2 * 2)
lowest-apart m =
    let block : bit_xor (0 * 2 ^ 1 + m % 2) (m / 2 * 2 ^ 1 + 0)
    ≡ bit_xor 0 (m / 2) * 2 ^ 1 + bit_xor (m % 2) 0 =
    xor_block 1 0 (m / 2) (m % 2) 0 (omega arith) (omega arith) in
    grind (arith, block, xor_comm 0 (m / 2), xor_zero_r (m / 2), xor_zero_r (m % 2))

steps-bits : (n r m : ℕ) → m < 2 ^ n → steps n (bit_xor r m) ≡ after_bits r (bits_of n m)
steps-bits zero r m below =
    let none : m ≡ 0 = omega arith in
    rw none (xor_zero_r r)
steps-bits (suc n) r m below =
    let bit = bit_number (m % 2 == 1) in
    let apart : bit_xor r m ≡ bit_xor (bit_xor r bit) (m / 2 * 2) =
    ap (bit_xor r) (lowest-apart m) ∙ sym (xor_assoc r bit (m / 2 * 2)) in
    let one : step (bit_xor r m) ≡ bit_xor (step (bit_xor r bit)) (m / 2) =
    ap step apart ∙ step_xor (bit_xor r bit) (m / 2 * 2)
    ∙ ap (bit_xor (step (bit_xor r bit))) (step_even (m / 2)) in
    ap (steps n) one ∙ steps-bits n (step (bit_xor r bit)) (m / 2) (half n m below)

abbrev pub after_bytes : ℕ → List ℕ → ℕ
after_bytes r [] = r
after_bytes r (byte ∷ bytes) = after_bytes (after_byte r byte) bytes

after_bytes-bits : (r : ℕ) (bytes : List ℕ) → IsBytes bytes
    → after_bytes r bytes ≡ after_bits r (flat_map (bits_of 8) bytes)
after_bytes-bits r [] fit = refl
after_bytes-bits r (byte ∷ bytes) fit =
    ap (λ s. after_bytes s bytes) (steps-bits 8 r byte (fit 0))
    ∙ after_bytes-bits (after_bits r (bits_of 8 byte)) bytes (λ i. fit (suc i))
    ∙ sym (after_bits-append r (bits_of 8 byte) (flat_map (bits_of 8) bytes))

complement-number : (r : ℕ) → r < 2 ^ 32
    → number_of (complement (bits_of 32 r)) ≡ bit_xor r 0xffffffff
complement-number r below =
    let bits : complement (bits_of 32 r) ≡ bits_of 32 (bit_xor r 0xffffffff) =
    complement-all (bits_of 32 r) ∙ sym (bits-xor 32 r 0xffffffff) in
    ap number_of bits ∙ number-bits 32 _ (xor_lt 32 r 0xffffffff below (lit< tt))

pub register-is-crc32 : (bytes : List ℕ) → IsBytes bytes
    → bit_xor (after_bytes 0xffffffff bytes) 0xffffffff ≡ crc32 bytes
unfolding crc32
register-is-crc32 bytes fit =
    let ones : ℕ = 0xffffffff in
    let bits = flat_map (bits_of 8) bytes in
    let long = bits ++ replicate 32 false in
    let dividend = minus long (replicate 32 true) in
    let size : length long ≡ length bits + 32 = length-append bits (replicate 32 false) in
    let begins : complement (take 32 long) ++ drop 32 long ≡ dividend =
    complement-minus 32 long (omega arith) in
    let count : length dividend + 1 - 33 ≡ length bits =
    omega (arith, length-minus long (replicate 32 true)) in
    let left : remainder generator dividend ≡ bits_of 32 (after_bits ones bits) =
    ap (λ n. divided n generator dividend) count
    ∙ after-bits 31 low_powers (lit< tt) bits ones (lit< tt) in
    let small = after-fits 31 low_powers (lit< tt) bits ones (lit< tt) in
    ap (λ r. bit_xor r ones) (after_bytes-bits ones bytes fit)
    ∙ sym (complement-number (after_bits ones bits) small)
    ∙ ap (λ r. number_of (complement r)) (sym left)
    ∙ ap (λ d. number_of (complement (remainder generator d))) (sym begins)
