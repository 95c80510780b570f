-- What is known of a decimal number of which some digits are read.
use Rattle.std.specs.Prelude.{◌≡◌, ◌⊎◌, ℕ, ◌<◌, true, false, List, [], ◌∷◌, ◌++◌, length}
use Rattle.std.specs.Char.{is_ascii_digit}
use Rattle.std.specs.List.{list_all}
use Rattle.std.specs.Str.Parse.{digits_value}
use Rattle.line_grammar.specs.declared.number.Number.{Number}

-- these are its digits so far
pub record ReadsNumber (digits : List ℕ) (number : Number) : Type 0 where
  pub count : number.count ≡ length digits
  pub decimal : list_all is_ascii_digit digits ≡ true
  pub value : number.value ≡ digits_value 10 digits

-- no number of at most so many digits that fits 64 bits is at the start of this text
pub record IsTooLarge (most : ℕ) (text : List ℕ) : Type 0 where
  pub digits : List ℕ
  pub rest : List ℕ
  pub parts : text ≡ digits ++ rest
  pub decimal : list_all is_ascii_digit digits ≡ true
  pub large : (most < length digits) ⊎ (18446744073709551615 < digits_value 10 digits)

-- this text starts with no digit
abbrev pub NoDigit : List ℕ → Type 0
NoDigit [] = Unit {0}
NoDigit (byte ∷ rest) = is_ascii_digit byte ≡ false

-- these bytes go on with further digits of a number, and then the rest
pub record GoesOn (digits bytes : List ℕ) (number : Number) (rest : List ℕ) : Type 0 where
  pub more : List ℕ
  pub parts : bytes ≡ more ++ rest
  pub reads : ReadsNumber (digits ++ more) number
