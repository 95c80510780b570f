-- The cyclic redundancy check of IEEE 802.3, section 3.2.9: the remainder of a division of
-- polynomials modulo 2. A polynomial is the list of its coefficients, from that of the highest power
-- of x down to that of 1.
use Rattle.std.specs.Prelude.{◌≡◌, ℕ, zero, suc, ◌+◌, ◌-◌, ◌*◌, ◌/◌, ◌%◌, ◌≤◌, ◌==◌, Bool, true, false, not, if◌then◌else◌}
use Rattle.std.specs.Prelude.{List, [], ◌∷◌, ◌++◌, length, map, take, drop, replicate}
use Rattle.std.specs.List.{flat_map, list_any}

-- the sum of these powers of x, at most of this degree
abbrev pub polynomial : (degree : ℕ) (powers : List ℕ) → List Bool
polynomial zero powers = list_any (λ power. power == 0) powers ∷ []
polynomial (suc degree) powers =
    list_any (λ power. power == suc degree) powers ∷ polynomial degree powers

-- G(x)
abbrev pub generator : List Bool
generator = polynomial 32 (32 ∷ 26 ∷ 23 ∷ 22 ∷ 16 ∷ 12 ∷ 11 ∷ 10 ∷ 8 ∷ 7 ∷ 5 ∷ 4 ∷ 2 ∷ 1 ∷ 0 ∷ [])

-- the difference: the first coefficients are of the same power, and the others that are subtracted
-- are 0
abbrev pub minus : List Bool → List Bool → List Bool
minus bits [] = bits
minus [] (other ∷ others) = []
minus (bit ∷ bits) (other ∷ others) = (if other then not bit else bit) ∷ minus bits others

-- so many steps of a long division by a divisor that begins with 1: it is subtracted from a dividend
-- that begins with 1, and the 0 is dropped with which the dividend begins then
abbrev pub divided : (count : ℕ) (divisor dividend : List Bool) → List Bool
divided zero divisor dividend = dividend
divided (suc count) divisor [] = []
divided (suc count) divisor (false ∷ bits) = divided count divisor bits
divided (suc count) divisor (true ∷ bits) =
    divided count divisor (drop 1 (minus (true ∷ bits) divisor))

-- it has one coefficient fewer than the divisor
abbrev pub remainder : (divisor dividend : List Bool) → List Bool
remainder divisor dividend = divided (length dividend + 1 - length divisor) divisor dividend

-- the product: the divisor at each power whose coefficient in the quotient is 1
abbrev pub times : (quotient divisor : List Bool) → List Bool
times [] divisor = replicate (length divisor - 1) false
times (bit ∷ bits) divisor = minus (false ∷ times bits divisor) (if bit then divisor else [])

-- the dividend is a multiple of the divisor and the remainder, which is of a lower degree
pub record IsDivided (divisor dividend : List Bool) : Type 0 where
  pub quotient : List Bool
  pub parts : minus dividend (times quotient divisor)
      ≡ replicate (length quotient) false ++ remainder divisor dividend
  pub degree : length (remainder divisor dividend) + 1 ≡ length divisor

-- whatever the divisor has after its first 1, in a dividend that is as long
abbrev pub DivisionLeavesRemainder : Type 0
DivisionLeavesRemainder = (others dividend : List Bool) → length others ≤ length dividend
    → IsDivided (true ∷ others) dividend

-- so many bits of a number, the least significant one first
abbrev pub bits_of : ℕ → ℕ → List Bool
bits_of zero number = []
bits_of (suc count) number = (number % 2 == 1) ∷ bits_of count (number / 2)

-- the number of these bits, the least significant one first
abbrev pub number_of : List Bool → ℕ
number_of [] = 0
number_of (bit ∷ bits) = (if bit then 1 else 0) + 2 * number_of bits

abbrev pub complement : List Bool → List Bool
complement bits = map not bits

-- the CRC of these bytes: of each the least significant bit comes first. The dividend is the message
-- times x^32 with its first 32 bits complemented, which are the message's if it has four bytes; the
-- remainder is complemented, too. Its coefficient of x^31 is the CRC's least significant bit.
unfoldable pub crc32 : List ℕ → ℕ
crc32 bytes =
    let bits = flat_map (bits_of 8) bytes ++ replicate 32 false in
    let dividend = complement (take 32 bits) ++ drop 32 bits in
    number_of (complement (remainder generator dividend))
