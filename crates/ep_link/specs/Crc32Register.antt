-- The cyclic redundancy check in a register of 32 bits: the lowest one is the coefficient of x^31.
use Rattle.std.specs.Prelude.{ℕ, ◌/◌, ◌%◌, ◌==◌, ◌&&◌, Bool, true, if◌then◌else◌, List, [], ◌∷◌, bit_xor, zero, suc}

-- x^26 + x^23 + x^22 + x^16 + x^12 + x^11 + x^10 + x^8 + x^7 + x^5 + x^4 + x^2 + x + 1, the remainder
-- of x^32
abbrev pub low_powers : ℕ
low_powers = 0xedb88320

-- a remainder times x: where its coefficient of x^31 was 1, the remainder of x^32 is added
abbrev pub step : ℕ → ℕ
step r = bit_xor (r / 2) (if r % 2 == 1 then low_powers else 0)

abbrev pub steps : ℕ → ℕ → ℕ
steps zero r = r
steps (suc n) r = steps n (step r)

-- the next eight bits of the frame, the lowest one first
abbrev pub after_byte : ℕ → ℕ → ℕ
after_byte r byte = steps 8 (bit_xor r byte)

-- each number is what the function gives of its index, counted from k
abbrev pub are_of : (ℕ → ℕ) → ℕ → List ℕ → Bool
are_of f k [] = true
are_of f k (x ∷ xs) = (x == f k) && are_of f (suc k) xs
