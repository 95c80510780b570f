-- Decimal numerals, which are text.
use Rattle.std.proofs.Common.{◌≡◌, ◌∙◌, sym, ap, ℕ, zero, suc, true, List, ◌∷◌, Some, None, [], Result, Ok, Err, arith}
use Rattle.std.proofs.Common.{rules}
use Rattle.std.specs.Prelude.{MatchResult}
use Rattle.std.specs.Char.{is_ascii_digit}
use Rattle.std.specs.List.{list_all}
use Rattle.std.specs.Result.{result_ok}
use Rattle.std.specs.Str.{IsAscii, IsUtf8}
use Rattle.std.specs.Borrow.{Bor}
use Rattle.std.specs.Str.Parse.{digits_value}
use Rattle.std.proofs.lemmas.Bool.{and_parts}
use Rattle.std.proofs.lemmas.Str.Parse.{IsNumeralModel, numerals_by_value}
use Rattle.std.proofs.lemmas.Str.{IsUtf8-from_ascii}

pub decimals : IsNumeralModel (λ digits. list_all is_ascii_digit digits ≡ true) (digits_value 10)
decimals = numerals_by_value _ (search rules)

-- digits are text
IsAscii-digits : (digits : List ℕ) → list_all is_ascii_digit digits ≡ true → IsAscii digits
IsAscii-digits [] all i = omega arith
IsAscii-digits (digit ∷ digits) all zero = grind arith
IsAscii-digits (digit ∷ digits) all (suc i) =
    IsAscii-digits digits (and_parts (is_ascii_digit digit)
    (list_all is_ascii_digit digits) all).1 i

pub digits_are_text : {X E : Type 0} (digits : List ℕ) (P : X → Type 0) (Q : E → Type 0)
    (r : Result X E) → list_all is_ascii_digit digits ≡ true
    → MatchResult r P (λ e. ¬ (IsUtf8 digits) × Q e) → result_ok r ≡ None → ⊥
digits_are_text digits P Q (Ok s) all outcome none = cc
digits_are_text digits P Q (Err e) all outcome none =
    outcome.0 (IsUtf8-from_ascii digits (IsAscii-digits digits all))

pub text_is : {E : Type 0} (digits : List ℕ) (Q : E → Type 0)
    (r : Result (Bor (List ℕ)) E) (s : Bor (List ℕ))
    → MatchResult r (λ t. (t.now ≡ digits) × IsUtf8 digits) Q
    → result_ok r ≡ Some s → s.now ≡ digits
text_is digits Q (Ok t) s outcome is =
    (let e : t ≡ s = cc in ap (λ (b : Bor (List ℕ)). b.now) (sym e) ∙ outcome.0)
text_is digits Q (Err e) s outcome is = cc
