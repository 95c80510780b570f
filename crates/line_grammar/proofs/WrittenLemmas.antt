-- Lines as they are written: what they request, and that each is one line.
use Rattle.std.proofs.Common.{[], ◌≡◌, sym, refl, ℕ, ◌<◌, ◌≤◌, ◌^◌, ◌==◌, Bool, true, false, List, ◌∷◌, ◌++◌, length}
use Rattle.std.proofs.Common.{arith}
use Rattle.std.specs.Prelude.{codes, decimal}
use Rattle.std.specs.Char.{is_ascii_digit}
use Rattle.std.specs.List.{list_all}
use Rattle.std.proofs.lemmas.Bool.{and_parts, le-leb}
use Rattle.std.proofs.lemmas.Fmt.{decimal_is_IsNumeral, length-decimal-le}
use Rattle.std.proofs.lemmas.List.Sums.{list_all-from_AllPass}
use Rattle.digits.proofs.Numerals.{decimals}
use Rattle.hex.specs.Hex.{IsBytes, encode_lower, is_hex_digit}
use Rattle.hex.proofs.HexLemmas.{decode_of-encode_lower, decode_of-ok}
use Rattle.lines.specs.Lines.{HasNoNewline}
use Rattle.lines.proofs.SplitLemmas.{HasNoNewline-append}
use Rattle.line_grammar.specs.Commands.{IsForgetLine, command_of, is_channel}
use Rattle.line_grammar.specs.Commands.Command.{Forget, Frame}
use Rattle.line_grammar.specs.Written.{written_forget, written_frame}
use Rattle.line_grammar.specs.declared.frame_limits.TheConstants.{FRAME_LIMIT}
use Rattle.line_grammar.proofs.CommandLaws.{forget_lines_are_the_grammar, frame_has_line}

-- ---- digits are no end of a line, and no space

pub digit_other : (n digit : ℕ) → n < 48 → is_ascii_digit digit ≡ true → (digit == n) ≡ false
digit_other n digit low is = grind arith

pub hex_other : (n digit : ℕ) → is_hex_digit n ≡ false
    → is_hex_digit digit ≡ true → (digit == n) ≡ false
hex_other n digit not is = grind arith

pub hex_digits : (frame : List ℕ) → IsBytes frame
    → list_all is_hex_digit (encode_lower frame) ≡ true
hex_digits frame bytes = list_all-from_AllPass is_hex_digit (encode_lower frame)
    (decode_of-ok (encode_lower frame) frame (decode_of-encode_lower frame bytes)).1

no_newlines : (q : ℕ → Bool) → ((x : ℕ) → q x ≡ true → (x == 10) ≡ false) → (xs : List ℕ)
    → list_all q xs ≡ true → HasNoNewline xs
no_newlines q other [] all = tt
no_newlines q other (x ∷ xs) all = let parts = and_parts (q x) (list_all q xs) all in
    (other x parts.0, no_newlines q other xs parts.1)

pub decimal_digits : (n : ℕ) → n < 2 ^ 64 → list_all is_ascii_digit (decimal n) ≡ true
decimal_digits n fits = decimals.from (decimal n) (decimal_is_IsNumeral n (omega arith)).0.1

pub decimal_one_line : (n : ℕ) → n < 2 ^ 64 → HasNoNewline (decimal n)
decimal_one_line n fits =
    no_newlines is_ascii_digit (λ x d. digit_other 10 x (omega arith) d) (decimal n)
    (decimal_digits n fits)

pub hex_one_line : (frame : List ℕ) → IsBytes frame → HasNoNewline (encode_lower frame)
hex_one_line frame bytes = no_newlines is_hex_digit (λ x d. hex_other 10 x refl d)
    (encode_lower frame) (hex_digits frame bytes)

-- ---- the line of a frame

is_channel-decimal : (n : ℕ) → n < 2 ^ 32 → is_channel (decimal n) ≡ true
is_channel-decimal n fits =
    let numeral = decimal_is_IsNumeral n (omega arith) in
    let short = length-decimal-le 10 n (omega arith) (omega arith) (omega arith) in
    let some = numeral.0.0 in
    rw (
      le-leb 1 (length (decimal n)) (omega arith),
      le-leb (length (decimal n)) 10 short,
      decimals.from (decimal n) numeral.0.1,
      numeral.1,
      le-leb n 4294967295 (omega arith),
    ) refl

pub written_frame-requests : (channel : ℕ) (frame : List ℕ) → channel < 2 ^ 32 → IsBytes frame
    → 1 ≤ length frame → length frame ≤ FRAME_LIMIT
    → command_of (written_frame channel frame) ≡ Frame channel frame
written_frame-requests channel frame fits bytes some size =
    grind (
      arith,
      decimal_is_IsNumeral,
      length-decimal-le,
      frame_has_line,
      is_channel-decimal,
      decode_of-encode_lower,
    )

pub written_frame-one_line : (channel : ℕ) (frame : List ℕ) → channel < 2 ^ 32 → IsBytes frame
    → HasNoNewline (written_frame channel frame)
written_frame-one_line channel frame fits bytes =
    let head = codes "frame " ++ decimal channel in
    HasNoNewline-append (head ++ codes " ") (encode_lower frame)
    (HasNoNewline-append head (codes " ")
    (HasNoNewline-append (codes "frame ") (decimal channel)
    (refl, (refl, (refl, (refl, (refl, (refl, tt))))))
    (decimal_one_line channel (omega arith))) (refl, tt))
    (hex_one_line frame bytes)

-- ---- the line that has datagrams dropped

pub written_forget-requests : (number : ℕ) → number < 2 ^ 64
    → command_of (written_forget number) ≡ Forget number
written_forget-requests number fits =
    let numeral = decimal_is_IsNumeral number (omega arith) in
    let short = length-decimal-le 20 number (omega arith) (omega arith) (omega arith) in
    let some = numeral.0.0 in
    let line : IsForgetLine (written_forget number) number = record {
      digits = decimal number;
      parts = refl;
      count = (omega arith, short);
      decimal = decimals.from (decimal number) numeral.0.1;
      value = sym numeral.1;
      fits = omega arith;
    } in
    (forget_lines_are_the_grammar (written_forget number) number).1 line

pub written_forget-one_line : (number : ℕ) → number < 2 ^ 64
    → HasNoNewline (written_forget number)
written_forget-one_line number fits = grind (arith, decimal_one_line)
