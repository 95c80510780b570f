-- Decimal numbers in a line of a frame with its time.
use Rattle.std.proofs.Common.{◌≡◌, ap, refl, ℕ, ◌<◌, ◌≤◌, ◌^◌, true, List, length, Some, Result, Ok, Err, arith, inl}
use Rattle.std.proofs.Common.{inr}
use Rattle.std.specs.Char.{is_ascii_digit}
use Rattle.std.specs.List.{list_all}
use Rattle.std.specs.Result.{result_ok}
use Rattle.std.specs.Str.Parse.{digits_value, ParsesUnsigned}
use Rattle.std.proofs.lemmas.Bool.{le-leb, lt-leb, cases_lt}
use Rattle.std.proofs.lemmas.Str.Parse.{parse_digits}
use Rattle.digits.proofs.Numerals.{decimals}
use Rattle.line_grammar.specs.TimedLines.{number_of_digits}

-- what `parse` reads of at most ten digits
pub number_parsed : {E : Type 0} (digits : List ℕ) (r : Result ℕ E) → 0 < length digits
    → length digits ≤ 10 → list_all is_ascii_digit digits ≡ true → ParsesUnsigned 32 10 digits r
    → result_ok r ≡ number_of_digits digits
number_parsed {E} digits (Ok n) some short all ensured =
    let is = parse_digits decimals {E = E} 32 digits (Ok n) ensured all in
    let value : n ≡ digits_value 10 digits = is.1 in
    let fits : digits_value 10 digits ≤ 4294967295 = omega (arith, is.0.1) in
    rw (
      le-leb 1 (length digits) (omega arith),
      le-leb (length digits) 10 short,
      all,
      le-leb
          (digits_value 10 digits) 4294967295 fits,
    ) (ap Some value)
number_parsed digits (Err e) some short all ensured =
    let is : ((0 < length digits) × (digits_value 10 digits < 2 ^ 32) → ⊥) =
    parse_digits decimals 32 digits (Err e) ensured all in
    elim (cases_lt (digits_value 10 digits) 4294967296) [
      | inl fits ↦ absurd (is (some, omega arith))
      | inr large ↦
          (rw (
            le-leb 1 (length digits) (omega arith),
            le-leb (length digits) 10 short,
            all,
            lt-leb
                (digits_value 10 digits) 4294967295 (omega arith),
          ) refl)
    ]
