-- Numbers against the bytes that encode them, high byte first.
use Rattle.std.proofs.Common.{◌≡◌, ℕ, Bool, true, false, IsTrue, ◌&&◌, eqb, ◌+◌, ◌*◌, ◌/◌, ◌%◌, ◌^◌, ◌<◌, arith, refl}

pub high_of : (a b : ℕ) → a < 256 → b < 256 → (256 * a + b) / 256 % 256 ≡ a
high_of a b h k = omega arith

pub low_of : (a b : ℕ) → b < 256 → (256 * a + b) % 256 ≡ b
low_of a b h = omega arith

pub digits_of : (a b c d : ℕ) → a < 256 → b < 256 → c < 256 → d < 256
    → let n = 256 * (256 * (256 * a + b) + c) + d in
    (n / 2 ^ 24 % 256 ≡ a) × (n / 2 ^ 16 % 256 ≡ b) × (n / 256 % 256 ≡ c) × (n % 256 ≡ d)
digits_of a b c d ha hb hc hd = (omega arith, omega arith, omega arith, omega arith)

-- a number of two bytes, and one of four, is its bytes
pub two_again : (n : ℕ) → n < 2 ^ 16 → 256 * (n / 256 % 256) + n % 256 ≡ n
two_again n h = omega arith

pub four_again : (n : ℕ) → n < 2 ^ 32 →
    256 * (256 * (256 * (n / 2 ^ 24 % 256) + n / 2 ^ 16 % 256) + n / 2 ^ 8 % 256) + n % 256 ≡ n
four_again n h = omega arith

-- a number that isn't 0
pub some_bytes : (n : ℕ) → eqb n 0 ≡ false → 0 < n
some_bytes n none = grind arith

-- two tests that both hold
pub both_hold : (a b : Bool) → a ≡ true → b ≡ true → IsTrue (a && b)
both_hold a b p q = rw (p, q) refl
