-- Polynomials modulo 2: differences, and what a long division leaves.
use Rattle.std.proofs.Common.{◌≡◌, ℕ, ◌+◌, ◌-◌, ◌≤◌, Bool, true, false, not, if◌then◌else◌, List, [], ◌∷◌, ◌++◌}
use Rattle.std.proofs.Common.{length, take, drop, replicate, zero, suc, refl, sym, ap, ◌∙◌, arith}
use Rattle.std.proofs.lemmas.List.{length-replicate}
use Rattle.ep_link.specs.Crc32.{minus, divided, times, complement, DivisionLeavesRemainder}

pub minus-longer : (bits others : List Bool)
    → minus bits (others ++ false ∷ []) ≡ minus bits others
minus-longer [] [] = refl
minus-longer [] (other ∷ others) = refl
minus-longer (bit ∷ bits) [] = refl
minus-longer (bit ∷ bits) (other ∷ others) = rw (minus-longer bits others)

pub minus-minus : (bits others more : List Bool) → length others ≤ length more
    → minus (minus bits others) more ≡ minus bits (minus more others)
minus-minus bits [] more short = refl
minus-minus bits (other ∷ others) [] short = absurd (omega arith)
minus-minus [] (other ∷ others) (one ∷ more) short = refl
minus-minus (bit ∷ bits) (other ∷ others) (one ∷ more) short =
    grind (arith, minus-minus bits others more)

pub length-minus : (bits others : List Bool) → length (minus bits others) ≡ length bits
length-minus bits [] = refl
length-minus [] (other ∷ others) = refl
length-minus (bit ∷ bits) (other ∷ others) = rw (length-minus bits others)

minus-none : (bits : List Bool) (n : ℕ) → minus bits (replicate n false) ≡ bits
minus-none bits zero = refl
minus-none [] (suc n) = refl
minus-none (bit ∷ bits) (suc n) = rw (minus-none bits n)

-- the first n coefficients are complemented
pub complement-minus : (n : ℕ) (bits : List Bool) → n ≤ length bits
    → complement (take n bits) ++ drop n bits ≡ minus bits (replicate n true)
complement-minus zero [] fits = refl
complement-minus zero (bit ∷ bits) fits = refl
complement-minus (suc n) [] fits = grind arith
complement-minus (suc n) (bit ∷ bits) fits = rw (complement-minus n bits (omega arith))

pub complement-all : (bits : List Bool)
    → complement bits ≡ minus bits (replicate (length bits) true)
complement-all [] = refl
complement-all (bit ∷ bits) = rw (← complement-all bits)

-- one step
pub divided-first : (n : ℕ) (first : Bool) (bits others : List Bool)
    → divided (suc n) (true ∷ others) (first ∷ bits)
    ≡ divided n (true ∷ others) (if first then minus bits others else bits)
divided-first n true bits others = refl
divided-first n false bits others = refl

-- a divisor that begins with 1, before these coefficients
module _ (others : List Bool) where
  quotient : ℕ → List Bool → List Bool
  quotient zero bits = []
  quotient (suc n) [] = []
  quotient (suc n) (bit ∷ bits) = bit ∷ quotient n (if bit then minus bits others else bits)

  length-quotient : (n : ℕ) (bits : List Bool) → n ≤ length bits → length (quotient n bits) ≡ n
  unfolding quotient
  length-quotient zero bits fits = refl
  length-quotient (suc n) [] fits = grind arith
  length-quotient (suc n) (true ∷ bits) fits =
      rw (length-quotient n (minus bits others) (omega (arith, length-minus bits others)))
  length-quotient (suc n) (false ∷ bits) fits = rw (length-quotient n bits (omega arith))

  length-times : (bits : List Bool)
      → length (times bits (true ∷ others)) ≡ length bits + length others
  length-times [] = simp length-replicate (omega arith)
  length-times (true ∷ bits) =
      let product = false ∷ times bits (true ∷ others) in
      omega (arith, length-times bits, length-minus product (true ∷ others))
  length-times (false ∷ bits) = omega (arith, length-times bits)

  parts : (n : ℕ) (bits : List Bool) → length bits ≡ n + length others
      → minus bits (times (quotient n bits) (true ∷ others))
      ≡ replicate n false ++ divided n (true ∷ others) bits
  unfolding quotient
  parts zero bits size = minus-none bits (suc (length others) - 1)
  parts (suc n) [] size = grind arith
  parts (suc n) (true ∷ bits) size =
      let left = minus bits others in
      let product = times (quotient n left) (true ∷ others) in
      let long : length others ≤ length product = omega (arith, length-times (quotient n left)) in
      let further = parts n left (omega (arith, length-minus bits others)) in
      ap (λ after. false ∷ after) (sym (minus-minus bits others product long) ∙ further)
  parts (suc n) (false ∷ bits) size =
      ap (λ after. false ∷ after) (parts n bits (omega arith))

  length-divided : (n : ℕ) (bits : List Bool) → length bits ≡ n + length others
      → length (divided n (true ∷ others) bits) ≡ length others
  length-divided zero bits size = omega arith
  length-divided (suc n) [] size = grind arith
  length-divided (suc n) (true ∷ bits) size =
      length-divided n (minus bits others) (omega (arith, length-minus bits others))
  length-divided (suc n) (false ∷ bits) size = length-divided n bits (omega arith)

pub division-leaves-remainder : DivisionLeavesRemainder
division-leaves-remainder others dividend fits =
    let n = length dividend + 1 - length (true ∷ others) in
    let size : length dividend ≡ n + length others = omega arith in
    let count : length (quotient others n dividend) ≡ n =
    length-quotient others n dividend (omega arith) in
    record {
      quotient = quotient others n dividend;
      parts = rw count (parts others n dividend size);
      degree = omega (arith, length-divided others n dividend size);
    }
