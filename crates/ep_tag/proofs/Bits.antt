-- Masks and flags as quotients and remainders.
use Rattle.std.proofs.Common.{◌≡◌, ℕ, suc, ◌*◌, ◌/◌, ◌%◌, ◌^◌, not, eqb, bit_and, arith}
use Rattle.std.proofs.lemmas.Nat.{and_mask}
use Rattle.std.proofs.lemmas.Nat.Bits.{and_pow}
use Rattle.std.proofs.lemmas.Bool.Decides.{nat_tests}

pub and-3 : (n : ℕ) → bit_and n 3 ≡ n % 2 ^ 2
and-3 n = and_mask n 2

pub and-63 : (n : ℕ) → bit_and n 63 ≡ n % 2 ^ 6
and-63 n = and_mask n 6

pub and-4095 : (n : ℕ) → bit_and n 4095 ≡ n % 2 ^ 12
and-4095 n = and_mask n 12

-- the test of a flag, which is one bit of the number a
flag : (a q w : ℕ) → a ≡ (q % 2) * suc w → eqb a 0 ≡ not (eqb (q % 2) 1)
flag a q w e = grind (arith, nat_tests)

pub flag-4 : (n : ℕ) → eqb (bit_and n 4) 0 ≡ not (eqb (n / 2 ^ 2 % 2) 1)
flag-4 n = flag (bit_and n 4) (n / 2 ^ 2) 3 (and_pow n 2)

pub flag-8 : (n : ℕ) → eqb (bit_and n 8) 0 ≡ not (eqb (n / 2 ^ 3 % 2) 1)
flag-8 n = flag (bit_and n 8) (n / 2 ^ 3) 7 (and_pow n 3)

pub flag-16 : (n : ℕ) → eqb (bit_and n 16) 0 ≡ not (eqb (n / 2 ^ 4 % 2) 1)
flag-16 n = flag (bit_and n 16) (n / 2 ^ 4) 15 (and_pow n 4)

pub flag-32 : (n : ℕ) → eqb (bit_and n 32) 0 ≡ not (eqb (n / 2 ^ 5 % 2) 1)
flag-32 n = flag (bit_and n 32) (n / 2 ^ 5) 31 (and_pow n 5)

pub flag-64 : (n : ℕ) → eqb (bit_and n 64) 0 ≡ not (eqb (n / 2 ^ 6 % 2) 1)
flag-64 n = flag (bit_and n 64) (n / 2 ^ 6) 63 (and_pow n 6)

pub flag-128 : (n : ℕ) → eqb (bit_and n 128) 0 ≡ not (eqb (n / 2 ^ 7 % 2) 1)
flag-128 n = flag (bit_and n 128) (n / 2 ^ 7) 127 (and_pow n 7)

-- what `n & mask` and its test are
pub ruleset masks = (and-3, and-63, and-4095, flag-4, flag-8, flag-16, flag-32, flag-64, flag-128)
