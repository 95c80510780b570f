-- Decimal numbers, digit by digit.
use Rattle.std.proofs.Common.{◌≡◌, ◌∙◌, sym, ap, refl, subst, ℕ, ◌+◌, ◌-◌, ◌*◌, ◌<◌, ◌≤◌, ◌^◌, [], true, false, List}
use Rattle.std.proofs.Common.{◌∷◌, ◌++◌, length, arith, inl, inr, Option, Some, None, length-append, append_assoc}
use Rattle.std.proofs.Common.{append-nil}
use Rattle.std.specs.Prelude.{SomeIff}
use Rattle.std.specs.Char.{is_ascii_digit}
use Rattle.std.specs.List.{list_all}
use Rattle.std.specs.Str.Parse.{digits_value}
use Rattle.std.proofs.lemmas.List.Folds.{list_all-append}
use Rattle.std.proofs.lemmas.Int.Digits.{digits_value_push}
use Rattle.std.proofs.lemmas.Str.{digit_value_digit}
use Rattle.line_grammar.specs.Numbers.{GoesOn, IsTooLarge, NoDigit, ReadsNumber}
use Rattle.line_grammar.specs.declared.number.Number.{Number}

in_range : (digit : ℕ) → is_ascii_digit digit ≡ true → (48 ≤ digit) × (digit ≤ 57)
in_range digit is = grind arith

all_more : (digits : List ℕ) (digit : ℕ) → list_all is_ascii_digit digits ≡ true
    → is_ascii_digit digit ≡ true → list_all is_ascii_digit (digits ++ digit ∷ []) ≡ true
all_more digits digit all is = grind (arith, list_all-append)

module _ (digits : List ℕ) (number : Number) (r : ReadsNumber digits number) (digit : ℕ)
    (decimal : is_ascii_digit digit ≡ true) where
  value_more : digits_value 10 (digits ++ digit ∷ []) ≡ number.value * 10 + (digit - 48)
  value_more = grind (arith, in_range, digit_value_digit, digits_value_push)

  pub number_more : (next : Number) → next.value ≡ number.value * 10 + (digit - 48)
      → next.count ≡ number.count + 1 → ReadsNumber (digits ++ digit ∷ []) next
  number_more next value count = grind (arith, length-append, all_more, value_more)

  pub too_many : (most : ℕ) → most ≤ number.count → (rest : List ℕ)
      → IsTooLarge most (digits ++ digit ∷ rest)
  too_many most le rest = record {
    digits = digits ++ digit ∷ [];
    rest = rest;
    parts = sym (append_assoc digits (digit ∷ []) rest);
    decimal = all_more digits digit r.decimal decimal;
    large = inl (omega (arith, r.count, length-append digits (digit ∷ [])));
  }

  pub too_great : (most : ℕ) → (number.value * 10 + (digit - 48) < 2 ^ 64 → ⊥) → (rest : List ℕ)
      → IsTooLarge most (digits ++ digit ∷ rest)
  too_great most not rest = record {
    digits = digits ++ digit ∷ [];
    rest = rest;
    parts = sym (append_assoc digits (digit ∷ []) rest);
    decimal = all_more digits digit r.decimal decimal;
    large = inr (let e = value_more in omega (arith, not));
  }

pub none_is : {P : Type 0} (r : Option ℕ) (v : ℕ) → SomeIff r P v → r ≡ None → P → ⊥
none_is None v ensured is = ensured
none_is (Some x) v ensured is = cc

pub some_is : (P : Type 0) (r : Option ℕ) (v x : ℕ) → SomeIff r P v → r ≡ Some x → x ≡ v
some_is P None v x ensured is = cc
some_is P (Some y) v x ensured is = (let e : x ≡ y = cc in e ∙ ensured.1)

-- ---- digits in a row

pub goes_nowhere : (digits bytes : List ℕ) (number : Number) → ReadsNumber digits number
    → GoesOn digits bytes number bytes
goes_nowhere digits bytes number r = record {
  more = [];
  parts = refl;
  reads = grind (arith, append-nil);
}

module _ (digits bytes : List ℕ) (number : Number) (rest : List ℕ)
    (g : GoesOn digits bytes number rest) (digit : ℕ) (later : List ℕ) (first : rest ≡ digit ∷ later)
  where
    parts_by_digit : bytes ≡ g.more ++ digit ∷ later
    parts_by_digit = g.parts ∙ ap (λ l. g.more ++ l) first

    pub goes_further : (next : Number) → ReadsNumber ((digits ++ g.more) ++ digit ∷ []) next
        → GoesOn digits bytes next later
    goes_further next r = record {
      more = g.more ++ digit ∷ [];
      parts = simp (parts_by_digit, append_assoc);
      reads = grind (arith, append_assoc);
    }

    pub goes_too_far : (most : ℕ) → IsTooLarge most ((digits ++ g.more) ++ digit ∷ later)
        → IsTooLarge most (digits ++ bytes)
    goes_too_far most = subst (IsTooLarge most)
        (append_assoc digits g.more (digit ∷ later) ∙ ap (λ l. digits ++ l) (sym parts_by_digit))

    pub ends_here : is_ascii_digit digit ≡ false → NoDigit rest
    ends_here other = subst NoDigit (sym first) other

pub ends_at_all : (rest : List ℕ) → length rest ≡ 0 → NoDigit rest
ends_at_all rest none = grind arith
