-- Hex digits of a number: the last one, and those before it.
use Rattle.std.proofs.Common.{◌≡◌, ◌∙◌, sym, ap, refl, ℕ, zero, suc, ◌+◌, ◌/◌, ◌%◌, ◌^◌, ◌<◌, ◌≤◌, List, [], ◌∷◌, ◌++◌, arith, false, append_assoc}
use Rattle.std.proofs.lemmas.Bool.Decides.{nat_tests}
use Rattle.std.specs.Fmt.{digits, digits_onto}
use Rattle.header_descriptions.specs.ByteLines.{digit_of}

-- before others, so many at most
abbrev encoded : (most n : ℕ) → List ℕ → List ℕ
encoded most n following = digits_onto most 16 false n following

last_digit : (most n : ℕ) (following : List ℕ) → n < 16
    → encoded (suc most) n following ≡ digit_of n ∷ following
last_digit most n following small =
    let none : n / 16 ≡ 0 = omega arith in grind (arith, nat_tests)

next_digit : (most n : ℕ) (following : List ℕ) → 16 ≤ n
    → encoded (suc most) n following ≡ encoded most (n / 16) (digit_of n ∷ following)
next_digit most n following large =
    let some : 1 ≤ n / 16 = omega arith in grind (arith, nat_tests)

before_others : (most n : ℕ) (following : List ℕ)
    → encoded most n following ≡ encoded most n [] ++ following
before_others zero n following = refl
before_others (suc most) n following =
    grind (
      arith,
      nat_tests,
      before_others most (n / 16) (digit_of n ∷ following),
      before_others most (n / 16) (digit_of n ∷ []),
      append_assoc,
    )

-- how many there may be doesn't matter once it is enough
enough : (most more n : ℕ) (following : List ℕ) → n < 16 ^ suc most → n < 16 ^ suc more
    → encoded (suc most) n following ≡ encoded (suc more) n following
enough zero more n following few few' =
    last_digit zero n following (omega arith) ∙ sym (last_digit more n following (omega arith))
enough (suc most) zero n following few few' =
    last_digit (suc most) n following (omega arith) ∙ sym (last_digit zero n following (omega arith))
enough (suc most) (suc more) n following few few' =
    grind (arith, nat_tests, enough most more (n / 16) (digit_of n ∷ following) (omega arith) (omega arith))

pub one_digit : (n : ℕ) → n < 16 → digits 16 false n ≡ digit_of n ∷ []
unfolding digits
one_digit n small = last_digit 63 n [] small

pub more_digits : (n : ℕ) → 16 ≤ n → n < 2 ^ 64
    → digits 16 false n ≡ digits 16 false (n / 16) ++ digit_of n ∷ []
unfolding digits
more_digits n large fits =
    next_digit 63 n [] large
    ∙ enough 62 63 (n / 16) (digit_of n ∷ []) (omega arith) (omega arith)
    ∙ before_others 64 (n / 16) (digit_of n ∷ [])
