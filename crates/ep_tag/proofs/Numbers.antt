-- Numbers against the bytes that encode them.
use Rattle.std.proofs.Common.{◌≡◌, ℕ, ◌*◌, ◌/◌, ◌%◌, ◌^◌, ◌<◌, cond, eqb, arith}

worth_below : (m w : ℕ) → m < 2 → cond (eqb m 1) w 0 ≡ m * w
worth_below m w h = grind arith

-- a flag with its weight is its bit times the weight
pub worth_of : (n w : ℕ) → cond (eqb (n % 2) 1) w 0 ≡ n % 2 * w
worth_of n w = worth_below (n % 2) w (omega arith)

pub record Digits8 (n a b c d e f g h : ℕ) : Type 0 where
  pub byte0 : n / 2 ^ 56 % 256 ≡ a
  pub byte1 : n / 2 ^ 48 % 256 ≡ b
  pub byte2 : n / 2 ^ 40 % 256 ≡ c
  pub byte3 : n / 2 ^ 32 % 256 ≡ d
  pub byte4 : n / 2 ^ 24 % 256 ≡ e
  pub byte5 : n / 2 ^ 16 % 256 ≡ f
  pub byte6 : n / 256 % 256 ≡ g
  pub byte7 : n % 256 ≡ h
