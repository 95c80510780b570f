-- Lines of frames as they are written, read again with their times.
use Rattle.std.proofs.Common.{◌≡◌, ◌∙◌, sym, ap, ap₂, refl, ℕ, ◌+◌, ◌*◌, ◌/◌, ◌%◌, ◌<◌, ◌≤◌, ◌==◌, ◌^◌, [], Bool}
use Rattle.std.proofs.Common.{eqb-true, true, false, List, ◌∷◌, ◌++◌, length, take, drop, Some, None, append_assoc}
use Rattle.std.proofs.Common.{append-nil, length-append, arith}
use Rattle.std.specs.Prelude.{codes, decimal, position, if◌then◌else◌}
use Rattle.std.specs.Char.{is_ascii_digit}
use Rattle.std.specs.List.{list_all, position_or_len}
use Rattle.std.proofs.lemmas.Bool.{and_parts, le-leb, lt-ltb, le-ltb}
use Rattle.std.proofs.lemmas.Fmt.{decimal_is_IsNumeral, length-decimal-le}
use Rattle.std.proofs.lemmas.List.{take_at, drop_at}
use Rattle.hex.specs.Hex.{decode_of, encode_lower, is_hex_digit, IsBytes}
use Rattle.hex.proofs.HexLemmas.{decode_of-encode_lower}
use Rattle.lines.specs.Lines.{HasNoNewline}
use Rattle.lines.proofs.SplitLemmas.{HasNoNewline-append}
use Rattle.line_grammar.specs.Commands.{frame_on, is_space}
use Rattle.line_grammar.specs.TimedLines.{channel_frame, digits_before, digits_frame, frame_at, no_time, number_below}
use Rattle.line_grammar.specs.TimedLines.{number_of_digits, parts_of, text_before, text_frame, time_at, time_of}
use Rattle.line_grammar.specs.TimedLines.{time_with, timed_frame_of}
use Rattle.line_grammar.specs.Written.{nanoseconds_text, time_text, written_frame, written_timed_frame}
use Rattle.line_grammar.specs.declared.frame_limits.TheConstants.{FRAME_LIMIT}
use Rattle.line_grammar.specs.declared.timed_line.Time.{Time}
use Rattle.line_grammar.proofs.TimedLemmas.{frame_text_read}
use Rattle.line_grammar.proofs.WrittenLemmas.{decimal_digits, decimal_one_line, digit_other, hex_digits, hex_other}
use Rattle.line_grammar.proofs.WrittenLemmas.{written_frame-one_line}

-- ---- the first space after digits

-- no element passes a test
none_pass : (p q : ℕ → Bool) → ((x : ℕ) → q x ≡ true → p x ≡ false) → (xs : List ℕ)
    → list_all q xs ≡ true → position_or_len p xs ≡ length xs
none_pass p q other [] all = refl
none_pass p q other (x ∷ xs) all =
    let parts = and_parts (q x) (list_all q xs) all in
    let later = none_pass p q other xs parts.1 in
    rw (other x parts.0) (omega arith)

-- the first that passes comes after those that don't
first_pass : (p q : ℕ → Bool) → ((x : ℕ) → q x ≡ true → p x ≡ false)
    → (xs : List ℕ) (y : ℕ) (ys : List ℕ) → list_all q xs ≡ true → p y ≡ true
    → position_or_len p (xs ++ y ∷ ys) ≡ length xs
first_pass p q other [] y ys all is = rw is refl
first_pass p q other (x ∷ xs) y ys all is =
    let parts = and_parts (q x) (list_all q xs) all in
    let later = first_pass p q other xs y ys parts.1 is in
    rw (other x parts.0) (omega arith)

space_none : (text : List ℕ) → position_or_len is_space text ≡ length text
    → position is_space text ≡ None
space_none text all = rw (le-ltb (position_or_len is_space text) (length text) (omega arith)) refl

space_some : (text : List ℕ) (n : ℕ) → position_or_len is_space text ≡ n → n < length text
    → position is_space text ≡ Some n
space_some text n at lt = grind arith

-- a text up to its first space, and after it
module _ (q : ℕ → Bool) (other : (x : ℕ) → q x ≡ true → is_space x ≡ false)
    (prefix back : List ℕ) (all : list_all q prefix ≡ true) where
  first_space : position is_space (prefix ++ 32 ∷ back) ≡ Some (length prefix)
  first_space = grind (arith, length-append, space_some, first_pass)

  no_space : position is_space prefix ≡ None
  no_space = space_none prefix (none_pass is_space q other prefix all)

before_space : (prefix back : List ℕ) → take (length prefix) (prefix ++ 32 ∷ back) ≡ prefix
before_space prefix back = take_at prefix (32 ∷ back) (length prefix) refl

after_space : (prefix back : List ℕ) → drop (length prefix + 1) (prefix ++ 32 ∷ back) ≡ back
after_space prefix back =
    ap (drop (length prefix + 1)) (sym (append_assoc prefix (32 ∷ []) back))
    ∙ drop_at (prefix ++ 32 ∷ []) back (length prefix + 1) (length-append prefix (32 ∷ []))

digit_no_space : (x : ℕ) → is_ascii_digit x ≡ true → is_space x ≡ false
digit_no_space x is = digit_other 32 x (omega arith) is

hex_no_space : (x : ℕ) → is_hex_digit x ≡ true → is_space x ≡ false
hex_no_space x is = hex_other 32 x refl is

-- ---- numbers

number_of_digits-decimal : (n : ℕ) → n < 2 ^ 32 → number_of_digits (decimal n) ≡ Some n
number_of_digits-decimal n fits =
    let numeral = decimal_is_IsNumeral n (omega arith) in
    let short = length-decimal-le 10 n (omega arith) (omega arith) (omega arith) in
    let some = numeral.0.0 in
    grind (arith, le-leb, decimal_digits)

number_below-decimal : (limit n : ℕ) → n < limit → n < 2 ^ 32
    → number_below limit (decimal n) ≡ Some n
number_below-decimal limit n few fits = grind (arith, number_of_digits-decimal, lt-ltb)

-- ---- a time

-- the parts of a second
parts_text : ℕ → ℕ → List ℕ
parts_text micro nano = decimal micro ++ nanoseconds_text nano

parts_by : (none : Bool) (micro nano : ℕ) → (nano == 0) ≡ none → micro < 1000000 → nano < 1000
    → parts_of (decimal micro ++ (if none then [] else codes " " ++ decimal nano))
    ≡ Some (1000 * micro + nano)
parts_by true micro nano none few few' =
    let zero' = eqb-true nano 0 none in
    let digits = decimal_digits micro (omega arith) in
    grind (arith, append-nil, no_space, digit_no_space, number_below-decimal)
parts_by false micro nano none few few' =
    let digits = decimal_digits micro (omega arith) in
    grind (arith, first_space, digit_no_space, before_space, after_space, number_below-decimal)

parts_are : (micro nano : ℕ) → micro < 1000000 → nano < 1000
    → parts_of (parts_text micro nano) ≡ Some (1000 * micro + nano)
unfolding parts_text
parts_are micro nano few few' = parts_by (nano == 0) micro nano refl few few'

time_is : (seconds n : ℕ) (parts : List ℕ) → seconds < 2 ^ 32 → parts_of parts ≡ Some n
    → time_of (decimal seconds ++ 32 ∷ parts)
    ≡ Some (record { seconds = seconds; nanoseconds = n })
time_is seconds n parts fits is =
    ap (λ o. time_at o (decimal seconds ++ 32 ∷ parts))
    (first_space is_ascii_digit digit_no_space (decimal seconds) parts
    (decimal_digits seconds (omega arith)))
    ∙ ap₂ (λ (l r : List ℕ). time_with (number_of_digits l) (parts_of r))
    (before_space (decimal seconds) parts) (after_space (decimal seconds) parts)
    ∙ ap₂ time_with (number_of_digits-decimal seconds fits) is

-- ---- a channel, and a frame

channel_is : (channel : ℕ) (digits : List ℕ) → channel < 2 ^ 32
    → text_frame (decimal channel ++ 32 ∷ digits) ≡ digits_frame channel digits
channel_is channel digits fits =
    ap (λ o. text_before o (decimal channel ++ 32 ∷ digits))
    (first_space is_ascii_digit digit_no_space (decimal channel) digits
    (decimal_digits channel (omega arith)))
    ∙ ap₂ (λ (l r : List ℕ). channel_frame (number_of_digits l) r)
    (before_space (decimal channel) digits) (after_space (decimal channel) digits)
    ∙ ap (λ o. channel_frame o digits) (number_of_digits-decimal channel fits)

frame_is : (time : Time) (channel : ℕ) (frame : List ℕ) → 1 ≤ length frame
    → length frame ≤ FRAME_LIMIT → IsBytes frame
    → frame_at (Some time) (frame_on channel (decode_of (encode_lower frame)))
    ≡ Some (record { seconds = time.seconds; nanoseconds = time.nanoseconds; frame = frame })
frame_is time channel frame some short bytes = grind (arith, decode_of-encode_lower, le-leb)

module _ (channel : ℕ) (frame : List ℕ) (fits : channel < 2 ^ 32) (bytes : IsBytes frame)
    (some : 1 ≤ length frame) (short : length frame ≤ FRAME_LIMIT) where
  abbrev digits : List ℕ
  digits = encode_lower frame

  head : (rest : List ℕ) → written_frame channel frame ++ rest
      ≡ codes "frame " ++ (decimal channel ++ 32 ∷ (digits ++ rest))
  head rest = grind (arith, append_assoc)

  pub written_frame-timed : timed_frame_of (written_frame channel frame)
      ≡ Some (record { seconds = 0; nanoseconds = 0; frame = frame })
  written_frame-timed =
      ap timed_frame_of (sym (append-nil (written_frame channel frame)) ∙ head []
      ∙ ap (λ (d : List ℕ). codes "frame " ++ (decimal channel ++ 32 ∷ d)) (append-nil digits))
      ∙ frame_text_read (decimal channel ++ 32 ∷ digits)
      ∙ channel_is channel digits fits
      ∙ ap (λ o. digits_before o channel digits)
      (no_space is_hex_digit hex_no_space digits [] (hex_digits frame bytes))
      ∙ frame_is no_time channel frame some short bytes

  -- with the text of a time
  with_time : (text : List ℕ) (time : Time) → time_of text ≡ Some time
      → timed_frame_of (written_frame channel frame ++ 32 ∷ text)
      ≡ Some (record { seconds = time.seconds; nanoseconds = time.nanoseconds; frame = frame })
  with_time text time is =
      ap timed_frame_of (head (32 ∷ text))
      ∙ frame_text_read (decimal channel ++ 32 ∷ (digits ++ 32 ∷ text))
      ∙ channel_is channel (digits ++ 32 ∷ text) fits
      ∙ ap (λ o. digits_before o channel (digits ++ 32 ∷ text))
      (first_space is_hex_digit hex_no_space digits text (hex_digits frame bytes))
      ∙ ap₂ (λ (l r : List ℕ). frame_at (time_of r) (frame_on channel (decode_of l)))
      (before_space digits text) (after_space digits text)
      ∙ ap (λ o. frame_at o (frame_on channel (decode_of digits))) is
      ∙ frame_is time channel frame some short bytes

-- a time after a space
time_after : ℕ → List ℕ
time_after time =
    decimal (time / 1000000000) ++ 32 ∷ parts_text (time / 1000 % 1000000) (time % 1000)

time_text-is : (time : ℕ) → time_text time ≡ 32 ∷ time_after time
unfolding time_after parts_text
time_text-is time = grind (arith, append_assoc)

time_read : (time : ℕ) → time / 1000000000 < 2 ^ 32 → time_of (time_after time)
    ≡ Some (record { seconds = time / 1000000000; nanoseconds = time % 1000000000 })
unfolding time_after
time_read time few =
    let parts = parts_are (time / 1000 % 1000000) (time % 1000) (omega arith) (omega arith) in
    let same : 1000 * (time / 1000 % 1000000) + time % 1000 ≡ time % 1000000000 = omega arith in
    grind (arith, time_is, parts_text)

pub written_timed_frame-timed : (channel : ℕ) (frame : List ℕ) (time : ℕ) → channel < 2 ^ 32
    → IsBytes frame → 1 ≤ length frame → length frame ≤ FRAME_LIMIT → time / 1000000000 < 2 ^ 32
    → timed_frame_of (written_timed_frame channel frame time)
    ≡ Some (record { seconds = time / 1000000000; nanoseconds = time % 1000000000; frame = frame })
written_timed_frame-timed channel frame time fits bytes some short few =
    ap (λ t. timed_frame_of (written_frame channel frame ++ t)) (time_text-is time)
    ∙ with_time channel frame fits bytes some short (time_after time)
    (record { seconds = time / 1000000000; nanoseconds = time % 1000000000 }) (time_read time few)

parts_one_line : (none : Bool) (nano : ℕ) → nano < 2 ^ 32
    → HasNoNewline (if none then [] else codes " " ++ decimal nano)
parts_one_line none nano few = grind (arith, decimal_one_line)

pub written_timed_frame-one_line : (channel : ℕ) (frame : List ℕ) (time : ℕ) → channel < 2 ^ 32
    → IsBytes frame → time / 1000000000 < 2 ^ 32
    → HasNoNewline (written_timed_frame channel frame time)
written_timed_frame-one_line channel frame time fits bytes few =
    let seconds = codes " " ++ decimal (time / 1000000000) in
    let micro = seconds ++ codes " " ++ decimal (time / 1000 % 1000000) in
    HasNoNewline-append (written_frame channel frame) (time_text time)
    (written_frame-one_line channel frame fits bytes)
    (HasNoNewline-append micro (nanoseconds_text (time % 1000))
    (HasNoNewline-append (seconds ++ codes " ") (decimal (time / 1000 % 1000000))
    (HasNoNewline-append seconds (codes " ")
    (HasNoNewline-append (codes " ") (decimal (time / 1000000000)) (refl, tt)
    (decimal_one_line (time / 1000000000) (omega arith))) (refl, tt))
    (decimal_one_line (time / 1000 % 1000000) (omega arith)))
    (parts_one_line (time % 1000 == 0) (time % 1000) (omega arith)))
