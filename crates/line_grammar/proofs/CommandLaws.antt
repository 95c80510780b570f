-- The lines that give a frame, and those that have datagrams dropped, are those of the grammar.
use Rattle.std.proofs.Common.{◌≡◌, ◌∙◌, sym, ap, refl, ℕ, zero, suc, ◌+◌, ◌*◌, ◌<◌, ◌≤◌, Bool, [], true, List, ◌∷◌}
use Rattle.std.proofs.Common.{◌++◌, length, drop, get_or, Result, Ok, nat_eq, arith, length-append, append_assoc}
use Rattle.std.specs.Prelude.{◌&&◌, if◌then◌else◌, nat_le, codes}
use Rattle.std.specs.Char.{is_ascii_digit}
use Rattle.std.specs.List.{starts_with, list_all, before_first, after_first, position_or_len}
use Rattle.std.specs.Str.Parse.{digits_value}
use Rattle.std.proofs.lemmas.Bool.{and_parts, eqb-true}
use Rattle.std.proofs.lemmas.List.{drop_all, take_at, drop_at, get_or_append_left}
use Rattle.std.proofs.lemmas.List.Sums.{split_at_first, passes_at_first, position_or_len_is}
use Rattle.std.proofs.lemmas.Slice.Eq.{starts_is}
use Rattle.std.proofs.lemmas.Bool.Decides.{Decides-eqb}
use Rattle.std.proofs.Math.Seq.{get_or-append_seam}
use Rattle.hex.specs.Hex.{decode_of}
use Rattle.hex.proofs.HexLemmas.{decode_of-ok}
use Rattle.hex.specs.declared.error.FromHexError.{FromHexError}
use Rattle.lines.specs.declared.limits.TheConstants.{LINE_LIMIT}
use Rattle.line_grammar.specs.Commands.{Command, command_of, frame_command_of, frame_on, is_channel, is_number}
use Rattle.line_grammar.specs.Commands.{is_space, ForgetLinesAreTheGrammar, FrameLinesAreTheGrammar, IsForgetLine}
use Rattle.line_grammar.specs.Commands.{IsFrameLine}
use Rattle.line_grammar.specs.Commands.Command.{Frame, Forget, Bad}
use Rattle.line_grammar.proofs.CommandLemmas.{command_of-forget, command_of-frame, decode_of-nil, none_on}

-- ---- a frame's line has the parts

if_is : (b : Bool) (command wanted : Command) → (Bad ≡ wanted → ⊥)
    → (if b then command else Bad) ≡ wanted → (b ≡ true) × (command ≡ wanted)
if_is b command wanted not_bad is = grind arith

no_frame : (channel : ℕ) (bytes : List ℕ) → Bad ≡ Frame channel bytes → ⊥
no_frame channel bytes is = cc

-- a line that begins with `forget ` gives no frame,
chosen_frame : (short b c : Bool) (command : Command) (n channel : ℕ) (bytes : List ℕ)
    → (if short then (if b then command else (if c then Forget n else Bad)) else Bad)
    ≡ Frame channel bytes → (short ≡ true) × (b ≡ true) × (command ≡ Frame channel bytes)
chosen_frame short b c command n channel bytes is = grind arith

frame_no_forget : (b : Bool) (n number : ℕ) (d : Result (List ℕ) FromHexError)
    → (if b then frame_on n d else Bad) ≡ Forget number → ⊥
frame_no_forget b n number d is = grind arith

chosen_forget : (short b c d : Bool) (command : Command) (n number : ℕ)
    → (command ≡ Forget number → ⊥)
    → (if short then (if b then command else (if c && d then Forget n else Bad)) else Bad)
    ≡ Forget number → (c ≡ true) × (d ≡ true) × (n ≡ number)
chosen_forget short b c d command n number never is = grind arith

on_frame : (n channel : ℕ) (d : Result (List ℕ) FromHexError) (bytes : List ℕ)
    → frame_on n d ≡ Frame channel bytes → (n ≡ channel) × (d ≡ Ok bytes) × (1 ≤ length bytes)
on_frame n channel d bytes is = grind arith

-- where there is no space the digits are missing
space_there : (text : List ℕ) (channel : ℕ) (bytes : List ℕ)
    → frame_command_of text ≡ Frame channel bytes → position_or_len is_space text < length text
space_there text channel bytes is = grind (arith, drop_all, decode_of-nil, none_on)

pub starts : (line prefix : List ℕ) → starts_with nat_eq line prefix ≡ true
    → line ≡ prefix ++ drop (length prefix) line
starts line prefix is = (starts_is Decides-eqb line prefix (starts_with nat_eq line prefix) refl).0 is

-- the tests of a number, one by one
pub record IsNumber (most greatest : ℕ) (digits : List ℕ) : Type 0 where
  pub count : (1 ≤ length digits) × (length digits ≤ most)
  pub decimal : list_all is_ascii_digit digits ≡ true
  pub fits : digits_value 10 digits ≤ greatest

pub number_tests : (most greatest : ℕ) (digits : List ℕ) → is_number most greatest digits ≡ true
    → IsNumber most greatest digits
number_tests most greatest digits is = grind arith

pub number_tested : (most greatest : ℕ) (digits : List ℕ) → IsNumber most greatest digits
    → is_number most greatest digits ≡ true
number_tested most greatest digits t = grind arith

pub has_parts : (line : List ℕ) (channel : ℕ) (bytes : List ℕ) → command_of line ≡ Frame channel bytes
    → IsFrameLine line channel bytes
unfolding command_of
has_parts line channel bytes is =
    let text : List ℕ = drop 6 line in
    let begins = chosen_frame (nat_le (length line) LINE_LIMIT)
    (starts_with nat_eq line (codes "frame "))
    (starts_with nat_eq line (codes "forget ") && is_number 20 18446744073709551615 (drop 7 line))
    (frame_command_of text) (digits_value 10 (drop 7 line)) channel bytes is in
    let number : List ℕ = before_first is_space text in
    let digits : List ℕ = after_first is_space text in
    let inner = if_is (is_channel number) (frame_on (digits_value 10 number) (decode_of digits))
    (Frame channel bytes) (no_frame channel bytes) begins.2 in
    let found = on_frame (digits_value 10 number) channel (decode_of digits) bytes inner.1 in
    let tests = number_tests 10 4294967295 number inner.0 in
    let there = space_there text channel bytes begins.2 in
    let space : get_or text (position_or_len is_space text) 0 ≡ 32 =
    eqb-true _ 32 (passes_at_first is_space text 0 there) in
    let split = split_at_first is_space text 0 there ∙ ap (λ s. number ++ s ∷ digits) space in
    let most = tests.fits in
    grind arith

-- ---- the parts are a frame's line

digit_at : (digits : List ℕ) (k : ℕ) → list_all is_ascii_digit digits ≡ true → k < length digits
    → 48 ≤ get_or digits k 0
digit_at [] k all lt = absurd (omega arith)
digit_at (digit ∷ digits) zero all lt = grind arith
digit_at (digit ∷ digits) (suc k) all lt =
    digit_at digits k (and_parts (is_ascii_digit digit) (list_all is_ascii_digit digits) all).1
    (omega arith)

module _ (number digits : List ℕ) (decimal : list_all is_ascii_digit number ≡ true) where
  abbrev text : List ℕ
  text = number ++ 32 ∷ digits

  pub first_space : position_or_len is_space text ≡ length number
  first_space =
      position_or_len_is is_space (number ++ 32 ∷ digits) (length number) 0
      (omega (arith, length-append number (32 ∷ digits)))
      (λ k lt.
      let same = get_or_append_left number (32 ∷ digits) 0 k lt in
      let least = digit_at number k decimal lt in
      grind arith)
      (λ lt. ap is_space (get_or-append_seam number 32 digits 0))

  number_first : before_first is_space text ≡ number
  number_first = grind (arith, first_space, take_at)

  pub digits_after : after_first is_space text ≡ digits
  digits_after =
      ap (λ k. drop (k + 1) (number ++ 32 ∷ digits)) first_space
      ∙ ap (drop (length number + 1)) (sym (append_assoc number (32 ∷ []) digits))
      ∙ drop_at (number ++ 32 ∷ []) digits (length number + 1) (length-append number (32 ∷ []))

pub on_bytes : (channel : ℕ) (bytes : List ℕ) → 1 ≤ length bytes
    → frame_on channel (Ok bytes) ≡ Frame channel bytes
on_bytes channel bytes some = grind arith

-- what a line that has the head of a frame's line requests
pub frame_text : (line number digits : List ℕ) → length line ≤ LINE_LIMIT
    → line ≡ codes "frame " ++ (number ++ 32 ∷ digits) → is_channel number ≡ true
    → command_of line ≡ frame_on (digits_value 10 number) (decode_of digits)
frame_text line number digits short parts tested =
    grind (arith, number_tests, command_of-frame, starts_is, number_first, digits_after)

is_frame : (line : List ℕ) (channel : ℕ) (bytes : List ℕ) → IsFrameLine line channel bytes
    → command_of line ≡ Frame channel bytes
is_frame line channel bytes f =
    let fits : digits_value 10 f.number ≤ 4294967295 = grind arith in
    frame_text line f.number f.digits f.size f.parts
    (number_tested 10 4294967295 f.number
    (record { count = f.count; decimal = f.decimal; fits = fits }))
    ∙ ap (λ n. frame_on n (decode_of f.digits)) (sym f.value)
    ∙ ap (frame_on channel) f.hex ∙ on_bytes channel bytes f.some

pub frame_lines_are_the_grammar : FrameLinesAreTheGrammar
frame_lines_are_the_grammar line channel bytes =
    (has_parts line channel bytes, is_frame line channel bytes)

-- a frame's line by its channel and its digits
pub frame_has_line : (channel digits frame : List ℕ) → is_channel channel ≡ true
    → decode_of digits ≡ Ok frame → 1 ≤ length frame
    → 7 + length channel + 2 * length frame ≤ LINE_LIMIT
    → command_of (codes "frame " ++ channel ++ codes " " ++ digits)
    ≡ Frame (digits_value 10 channel) frame
frame_has_line channel digits frame fits decoded some short =
    let line = codes "frame " ++ channel ++ codes " " ++ digits in
    let parts : line ≡ codes "frame " ++ (channel ++ 32 ∷ digits) =
    simp append_assoc in
    let twice : length digits ≡ 2 * length frame = (decode_of-ok digits frame decoded).2 in
    let size : length line ≤ LINE_LIMIT =
    grind (arith, length-append) in
    frame_text line channel digits size parts fits
    ∙ ap (frame_on (digits_value 10 channel)) decoded
    ∙ on_bytes (digits_value 10 channel) frame some

-- ---- the lines that have datagrams dropped

pub has_number : (line : List ℕ) (number : ℕ) → command_of line ≡ Forget number
    → IsForgetLine line number
unfolding command_of
has_number line number is =
    let text : List ℕ = drop 6 line in
    let digits : List ℕ = drop 7 line in
    let begins = chosen_forget (nat_le (length line) LINE_LIMIT)
    (starts_with nat_eq line (codes "frame ")) (starts_with nat_eq line (codes "forget "))
    (is_number 20 18446744073709551615 digits) (frame_command_of text) (digits_value 10 digits) number
    (frame_no_forget (is_channel (before_first is_space text))
    (digits_value 10 (before_first is_space text)) number
    (decode_of (after_first is_space text))) is in
    let tests = number_tests 20 18446744073709551615 digits begins.1 in
    let value : digits_value 10 digits ≡ number = begins.2 in
    grind arith

is_forget : (line : List ℕ) (number : ℕ) → IsForgetLine line number
    → command_of line ≡ Forget number
is_forget line number f = grind (arith, number_tested, length-append, command_of-forget, starts_is)

pub forget_lines_are_the_grammar : ForgetLinesAreTheGrammar
forget_lines_are_the_grammar line number = (has_number line number, is_forget line number)
