-- Texts of digits in a row.
use Rattle.std.proofs.Common.{◌≡◌, ◌∙◌, sym, ap, refl, ℕ, ◌+◌, ◌*◌, List, ◌∷◌, ◌++◌, length, [], Option, Result, Ok}
use Rattle.std.proofs.Common.{arith, length-append}
use Rattle.std.specs.Prelude.{MatchResult, Bool, true, false}
use Rattle.hex.specs.Hex.{◌>>=◌, decode_of, decode_pairs, decode_sized, digit_or_error, hex_digit_value, pair_value}
use Rattle.hex.specs.declared.error.FromHexError.{FromHexError}
use Rattle.hex.proofs.HexLemmas.{decode_of-even, decode_of-ok}
use Rattle.hex.proofs.Pairs.{cons_byte, decode_pairs-ok_pair}

-- the index of digits matters to errors alone
pair_moved : (a b i j v : ℕ) (high low : Option ℕ)
    → (digit_or_error a i high >>= (λ h. digit_or_error b (i + 1) low >>= (λ l. Ok (h * 16 + l))))
    ≡ Ok v
    → (digit_or_error a j high >>= (λ h. digit_or_error b (j + 1) low >>= (λ l. Ok (h * 16 + l))))
    ≡ Ok v
pair_moved a b i j v high low is = grind arith

-- a first byte and the others
record Decoded (i a b : ℕ) (rest bytes : List ℕ) : Type 0 where
  byte : ℕ
  others : List ℕ
  pair : pair_value a b i ≡ Ok byte
  decoded : decode_pairs (i + 2) rest ≡ Ok others
  whole : bytes ≡ byte ∷ others

first_byte : (i a b : ℕ) (rest bytes : List ℕ) (pair : Result ℕ FromHexError)
    (later : Result (List ℕ) FromHexError) → pair_value a b i ≡ pair
    → decode_pairs (i + 2) rest ≡ later
    → (pair >>= (λ v. later >>= (λ bytes. Ok (v ∷ bytes)))) ≡ Ok bytes
    → Decoded i a b rest bytes
first_byte i a b rest bytes pair later first second is = grind arith

decoded : (i a b : ℕ) (rest bytes : List ℕ) → decode_pairs i (a ∷ b ∷ rest) ≡ Ok bytes
    → Decoded i a b rest bytes
unfolding decode_pairs
decoded i a b rest bytes is = first_byte i a b rest bytes _ _ refl refl is

no_bytes : (i : ℕ) (bytes : List ℕ) → decode_pairs i [] ≡ Ok bytes → bytes ≡ []
unfolding decode_pairs
no_bytes i bytes is = cc

one_digit : (i a : ℕ) (bytes : List ℕ) → decode_pairs i (a ∷ []) ≡ Ok bytes → ⊥
unfolding decode_pairs
one_digit i a bytes is = cc

decode_none : (i : ℕ) → decode_pairs i [] ≡ Ok []
unfolding decode_pairs
decode_none i = refl

moved : (i j : ℕ) (s bytes : List ℕ) → decode_pairs i s ≡ Ok bytes → decode_pairs j s ≡ Ok bytes
moved i j [] bytes is = decode_none j ∙ sym (ap Ok (no_bytes i bytes is))
moved i j (a ∷ []) bytes is = absurd (one_digit i a bytes is)
moved i j (a ∷ b ∷ rest) bytes is =
    let d = decoded i a b rest bytes is in
    decode_pairs-ok_pair j a b d.byte rest
    (pair_moved a b i j d.byte (hex_digit_value a) (hex_digit_value b) d.pair)
    ∙ ap (cons_byte d.byte) (moved (i + 2) (j + 2) rest d.others d.decoded)
    ∙ sym (ap Ok d.whole)

joined : (i : ℕ) (s t bytes more : List ℕ) → decode_pairs i s ≡ Ok bytes
    → decode_pairs 0 t ≡ Ok more → decode_pairs i (s ++ t) ≡ Ok (bytes ++ more)
joined i [] t bytes more is next = grind (arith, moved, no_bytes)
joined i (a ∷ []) t bytes more is next = absurd (one_digit i a bytes is)
joined i (a ∷ b ∷ rest) t bytes more is next =
    let d = decoded i a b rest bytes is in
    decode_pairs-ok_pair i a b d.byte (rest ++ t) d.pair
    ∙ ap (cons_byte d.byte) (joined (i + 2) rest t d.others more d.decoded next)
    ∙ sym (ap (λ l. Ok (l ++ more)) d.whole)

pub texts_are_joined : (a b x y : List ℕ) → decode_of a ≡ Ok x → decode_of b ≡ Ok y
    → decode_of (a ++ b) ≡ Ok (x ++ y)
texts_are_joined a b x y first second =
    grind (arith, decode_of-ok, decode_of-even, length-append, joined)

-- ---- digits that are put after others

pub decoded_after_prefix : (digits : List ℕ) (n : ℕ) (result : Bool) (bytes prefix all : List ℕ)
    → length digits ≡ 2 * n → all ≡ prefix ++ bytes
    → MatchResult (decode_sized digits n) (λ value. (result ≡ true) × (bytes ≡ value))
    (λ e. result ≡ false)
    → MatchResult (decode_of digits) (λ value. (result ≡ true) × (all ≡ prefix ++ value))
    (λ e. result ≡ false)
decoded_after_prefix digits n result bytes prefix all twice is outcome = grind arith
