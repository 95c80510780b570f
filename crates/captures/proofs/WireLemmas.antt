-- Lines with lengths on the wire, read again.
use Rattle.std.proofs.Common.{◌≡◌, ◌∙◌, sym, ap, ap₂, refl, ℕ, ◌+◌, ◌*◌, ◌/◌, ◌%◌, ◌<◌, ◌≤◌, ◌^◌, [], Bool}
use Rattle.std.proofs.Common.{true, false, List, ◌∷◌, ◌++◌, length, take, drop, Some, None, append_assoc, length-append}
use Rattle.std.proofs.Common.{Option, Result, Ok, Err, arith}
use Rattle.std.specs.Prelude.{codes, decimal, option_map, position}
use Rattle.std.specs.Char.{is_ascii_digit}
use Rattle.std.specs.List.{after_first, list_all, position_or_len}
use Rattle.std.specs.Result.{result_ok}
use Rattle.std.specs.Str.Parse.{ParsesUnsigned}
use Rattle.std.proofs.lemmas.Bool.Decides.{nat_tests}
use Rattle.std.proofs.lemmas.Bool.{and_parts, le-leb, lt-ltb}
use Rattle.std.proofs.lemmas.Fmt.{decimal_is_IsNumeral, length-decimal-le}
use Rattle.std.proofs.lemmas.List.{take_at, drop_at}
use Rattle.std.proofs.lemmas.Str.Parse.{parse_digits}
use Rattle.digits.proofs.Numerals.{decimals}
use Rattle.hex.specs.Hex.{encode_lower, is_hex_digit, IsBytes}
use Rattle.lines.specs.Lines.{HasNoNewline}
use Rattle.lines.proofs.SplitLemmas.{HasNoNewline-append}
use Rattle.line_grammar.specs.Commands.{command_of, is_space}
use Rattle.line_grammar.specs.Commands.Command.{Frame}
use Rattle.line_grammar.specs.TimedLines.{frame_at, frame_before, number_below, number_of_digits, parts_of, third_space}
use Rattle.line_grammar.specs.TimedLines.{time_of, timed_frame_of}
use Rattle.line_grammar.specs.Written.{written_frame}
use Rattle.line_grammar.specs.declared.frame_limits.TheConstants.{FRAME_LIMIT}
use Rattle.line_grammar.proofs.WrittenLemmas.{decimal_digits, decimal_one_line, digit_other, hex_digits, hex_other}
use Rattle.line_grammar.proofs.WrittenLemmas.{written_frame-one_line, written_frame-requests}
use Rattle.captures.specs.CapturedFrames.{CapturedFrame, captured_by, captured_frame_of, captured_or, length_after}
use Rattle.captures.specs.CapturedFrames.{sixth_space, third_after}
use Rattle.captures.specs.Framed.{frame_wire_len}
use Rattle.captures.specs.Lines.{wire_text}

-- ---- words, which have no space

NoSpace : List ℕ → Type 0
NoSpace [] = Unit {0}
NoSpace (byte ∷ bytes) = (is_space byte ≡ false) × NoSpace bytes

no_space_by : (q : ℕ → Bool) → ((x : ℕ) → q x ≡ true → is_space x ≡ false) → (word : List ℕ)
    → list_all q word ≡ true → NoSpace word
unfolding NoSpace
no_space_by q other [] all = tt
no_space_by q other (x ∷ word) all =
    let parts = and_parts (q x) (list_all q word) all in
    (other x parts.0, no_space_by q other word parts.1)

decimal_word : (n : ℕ) → n < 2 ^ 64 → NoSpace (decimal n)
decimal_word n fits = no_space_by is_ascii_digit (λ x d. digit_other 32 x (omega arith) d) (decimal n)
    (decimal_digits n fits)

hex_word : (frame : List ℕ) → IsBytes frame → NoSpace (encode_lower frame)
hex_word frame bytes = no_space_by is_hex_digit (λ x d. hex_other 32 x refl d) (encode_lower frame)
    (hex_digits frame bytes)

word_len : (word rest : List ℕ) → NoSpace word
    → position_or_len is_space (word ++ 32 ∷ rest) ≡ length word
unfolding NoSpace
word_len [] rest none = refl
word_len (x ∷ word) rest none =
    let later = word_len word rest none.1 in rw none.0 (omega arith)

before_space : (word rest : List ℕ) → take (length word) (word ++ 32 ∷ rest) ≡ word
before_space word rest = take_at word (32 ∷ rest) (length word) refl

after_space : (word rest : List ℕ) → drop (length word + 1) (word ++ 32 ∷ rest) ≡ rest
after_space word rest = ap (drop (length word + 1)) (sym (append_assoc word (32 ∷ []) rest))
    ∙ drop_at (word ++ 32 ∷ []) rest (length word + 1) (length-append word (32 ∷ []))

space_at : (word rest : List ℕ) → NoSpace word
    → position is_space (word ++ 32 ∷ rest) ≡ Some (length word)
space_at word rest none =
    let at = word_len word rest none in grind (arith, length-append, lt-ltb)

after_word : (word rest : List ℕ) → NoSpace word → after_first is_space (word ++ 32 ∷ rest) ≡ rest
after_word word rest none =
    ap (λ n. drop (n + 1) (word ++ 32 ∷ rest)) (word_len word rest none) ∙ after_space word rest

-- three words, before a space
three_words : (x y z : List ℕ) → List ℕ
three_words x y z = x ++ 32 ∷ (y ++ 32 ∷ z)

module _ (x y z rest : List ℕ) (first : NoSpace x) (second : NoSpace y) (third : NoSpace z) where
  words_are : three_words x y z ++ 32 ∷ rest ≡ x ++ 32 ∷ (y ++ 32 ∷ (z ++ 32 ∷ rest))
  unfolding three_words
  words_are = grind (arith, append_assoc)

  third_space_at : third_space (three_words x y z ++ 32 ∷ rest) ≡ Some (length (three_words x y z))
  unfolding three_words
  third_space_at =
      let later = after_word x (y ++ 32 ∷ (z ++ 32 ∷ rest)) first in
      let last = after_word y (z ++ 32 ∷ rest) second in
      let all = length-append x (32 ∷ (y ++ 32 ∷ z)) in
      let rest_size = length-append y (32 ∷ z) in
      let whole = length-append x (32 ∷ (y ++ 32 ∷ (z ++ 32 ∷ rest))) in
      let following = length-append y (32 ∷ (z ++ 32 ∷ rest)) in
      ap third_space words_are
      ∙ rw (later, last, space_at z rest third) (ap Some (omega arith))

-- ---- numbers

is_word : (n : ℕ) → n < 2 ^ 32 → number_of_digits (decimal n) ≡ Some n
is_word n fits =
    let numeral = decimal_is_IsNumeral n (omega arith) in
    let short = length-decimal-le 10 n (omega arith) (omega arith) (omega arith) in
    let some = numeral.0.0 in
    grind (arith, le-leb, decimal_digits)

is_below : (limit n : ℕ) → n < limit → n < 2 ^ 32 → number_below limit (decimal n) ≡ Some n
is_below limit n few fits = grind (arith, is_word, lt-ltb)

-- what `parse` makes of one
pub word_parsed : {E : Type 0} (word : List ℕ) (r : Result ℕ E) → 0 < length word
    → length word ≤ 10 → list_all is_ascii_digit word ≡ true → ParsesUnsigned 32 10 word r
    → result_ok r ≡ number_of_digits word
word_parsed {E} word (Ok n) some short all parsed =
    let is = parse_digits decimals {E = E} 32 word (Ok n) parsed all in grind (arith, le-leb)
word_parsed {E} word (Err e) some short all parsed =
    let is = parse_digits decimals {E = E} 32 word (Err e) parsed all in grind (arith, nat_tests)

not_decimal : (word rest : List ℕ) → list_all is_ascii_digit (word ++ 32 ∷ rest) ≡ false
not_decimal [] rest = refl
not_decimal (x ∷ word) rest = grind (arith, not_decimal word rest)

-- words with a space between them are no number
two_words : (limit : ℕ) (word rest : List ℕ) → number_below limit (word ++ 32 ∷ rest) ≡ None
two_words limit word rest = grind (arith, not_decimal)

-- ---- a time with nanoseconds

abbrev seconds_in : ℕ → List ℕ
seconds_in time = decimal (time / 1000000000)

abbrev microseconds_in : ℕ → List ℕ
microseconds_in time = decimal (time / 1000 % 1000000)

abbrev nanoseconds_in : ℕ → List ℕ
nanoseconds_in time = decimal (time % 1000)

whole_time : ℕ → List ℕ
whole_time time = three_words (seconds_in time) (microseconds_in time) (nanoseconds_in time)

module _ (time : ℕ) (few : time / 1000000000 < 2 ^ 32) where
  seconds_word : NoSpace (seconds_in time)
  seconds_word = decimal_word (time / 1000000000) (omega arith)

  microseconds_word : NoSpace (microseconds_in time)
  microseconds_word = decimal_word (time / 1000 % 1000000) (omega arith)

  nanoseconds_word : NoSpace (nanoseconds_in time)
  nanoseconds_word = decimal_word (time % 1000) (omega arith)

  parts_are : parts_of (microseconds_in time ++ 32 ∷ nanoseconds_in time) ≡ Some (time % 1000000000)
  parts_are =
      let micro = time / 1000 % 1000000 in
      let nano = time % 1000 in
      let same : 1000 * micro + nano ≡ time % 1000000000 = omega arith in
      rw (
        space_at (microseconds_in time) (nanoseconds_in time) microseconds_word,
        before_space (microseconds_in time) (nanoseconds_in time),
        after_space (microseconds_in time) (nanoseconds_in time),
        is_below 1000000 micro (omega arith) (omega arith),
        is_below 1000 nano (omega arith) (omega arith),
      ) (ap Some same)

  time_is : time_of (whole_time time)
      ≡ Some (record { seconds = time / 1000000000; nanoseconds = time % 1000000000 })
  unfolding whole_time three_words
  time_is =
      let later = microseconds_in time ++ 32 ∷ nanoseconds_in time in
      rw (
        space_at (seconds_in time) later seconds_word,
        before_space (seconds_in time) later,
        after_space (seconds_in time) later,
        is_word (time / 1000000000) few,
        parts_are,
      ) refl

  time_space : (more : List ℕ)
      → third_space (whole_time time ++ 32 ∷ more) ≡ Some (length (whole_time time))
  unfolding whole_time
  time_space more = third_space_at (seconds_in time) (microseconds_in time) (nanoseconds_in time) more
      seconds_word microseconds_word nanoseconds_word

  -- with more after it, it is none
  no_time : (more : List ℕ) → time_of (whole_time time ++ 32 ∷ more) ≡ None
  unfolding whole_time
  no_time more =
      let later = microseconds_in time ++ 32 ∷ (nanoseconds_in time ++ 32 ∷ more) in
      let last = nanoseconds_in time ++ 32 ∷ more in
      ap time_of (words_are (seconds_in time) (microseconds_in time) (nanoseconds_in time) more
      seconds_word microseconds_word nanoseconds_word)
      ∙ rw (
        space_at (seconds_in time) later seconds_word,
        before_space (seconds_in time) later,
        after_space (seconds_in time) later,
        is_word (time / 1000000000) few,
        space_at (microseconds_in time) last microseconds_word,
        before_space (microseconds_in time) last,
        after_space (microseconds_in time) last,
        two_words 1000 (nanoseconds_in time) more,
        is_below 1000000 (time / 1000 % 1000000) (omega arith) (omega arith),
      ) refl

-- ---- a line of a frame

module _ (channel : ℕ) (frame : List ℕ) (fits : channel < 2 ^ 32) (bytes : IsBytes frame) where
  abbrev head : List ℕ
  head = written_frame channel frame

  head_is : head ≡ three_words (codes "frame") (decimal channel) (encode_lower frame)
  unfolding three_words
  head_is = grind (arith, append_assoc)

  head_space : (rest : List ℕ) → third_space (head ++ 32 ∷ rest) ≡ Some (length head)
  unfolding NoSpace
  head_space rest =
      ap (λ (l : List ℕ). third_space (l ++ 32 ∷ rest)) head_is
      ∙ third_space_at (codes "frame") (decimal channel) (encode_lower frame) rest
      (refl, (refl, (refl, (refl, (refl, tt))))) (decimal_word channel (omega arith)) (hex_word frame bytes)
      ∙ ap (λ (l : List ℕ). Some (length l)) (sym head_is)

  -- whatever comes as a time
  at_time : (text : List ℕ) → 1 ≤ length frame → length frame ≤ FRAME_LIMIT
      → timed_frame_of (head ++ 32 ∷ text) ≡ frame_at (time_of text) (Frame channel frame)
  unfolding timed_frame_of
  at_time text some short =
      ap (λ o. frame_before o (head ++ 32 ∷ text)) (head_space text)
      ∙ ap₂ (λ (l r : List ℕ). frame_at (time_of r) (command_of l))
      (before_space head text) (after_space head text)
      ∙ ap (frame_at (time_of text)) (written_frame-requests channel frame fits bytes some short)

wire_text-is : (time wire_len : ℕ)
    → wire_text time wire_len ≡ 32 ∷ (whole_time time ++ 32 ∷ decimal wire_len)
unfolding whole_time three_words
wire_text-is time wire_len = grind (arith, append_assoc)

module _ (channel : ℕ) (frame : List ℕ) (time wire_len : ℕ) (fits : channel < 2 ^ 32)
    (bytes : IsBytes frame) (some : 1 ≤ length frame) (short : length frame ≤ FRAME_LIMIT)
    (few : time / 1000000000 < 2 ^ 32) (in_range : wire_len < 2 ^ 32)
    (whole : length frame ≤ wire_len) where
  abbrev line : List ℕ
  line = head channel frame fits bytes ++ 32 ∷ (whole_time time ++ 32 ∷ decimal wire_len)

  abbrev before : List ℕ
  before = head channel frame fits bytes ++ 32 ∷ whole_time time

  line_is : line ≡ before ++ 32 ∷ decimal wire_len
  line_is = grind (arith, append_assoc)

  not_timed : timed_frame_of line ≡ None
  not_timed = at_time channel frame fits bytes (whole_time time ++ 32 ∷ decimal wire_len) some short
      ∙ ap (λ o. frame_at o (Frame channel frame)) (no_time time few (decimal wire_len))

  timed : timed_frame_of before ≡ Some (record {
    seconds = time / 1000000000;
    nanoseconds = time % 1000000000;
    frame = frame;
  })
  timed = at_time channel frame fits bytes (whole_time time) some short
      ∙ ap (λ o. frame_at o (Frame channel frame)) (time_is time few)
      ∙ rw (le-leb (length frame) FRAME_LIMIT short) refl

  space_is : sixth_space line ≡ Some (length before)
  space_is =
      let size = length-append (head channel frame fits bytes) (32 ∷ whole_time time) in
      let later = after_space (head channel frame fits bytes)
      (whole_time time ++ 32 ∷ decimal wire_len) in
      ap (λ o. third_after o line)
      (head_space channel frame fits bytes (whole_time time ++ 32 ∷ decimal wire_len))
      ∙ ap (λ l. option_map (λ n. length (head channel frame fits bytes) + 1 + n) (third_space l)) later
      ∙ ap (option_map (λ n. length (head channel frame fits bytes) + 1 + n))
      (time_space time few (decimal wire_len))
      ∙ ap Some (omega arith)

  wire_len_is : frame_wire_len (length frame) (length frame) wire_len ≡ wire_len
  wire_len_is = omega (arith, whole, in_range)

  abbrev of_length : ℕ → Option CapturedFrame
  of_length n = Some (record {
    seconds = time / 1000000000;
    nanoseconds = time % 1000000000;
    wire_len = n;
    frame = frame;
  })

  pub wired_frame : captured_frame_of (written_frame channel frame ++ wire_text time wire_len)
      ≡ Some (record {
        seconds = time / 1000000000;
        nanoseconds = time % 1000000000;
        wire_len = wire_len;
        frame = frame;
      })
  unfolding captured_frame_of
  wired_frame =
      ap (λ t. captured_frame_of (written_frame channel frame ++ t)) (wire_text-is time wire_len)
      ∙ ap (λ o. captured_or o (length_after (sixth_space line) line)) not_timed
      ∙ ap (λ o. length_after o line) space_is
      ∙ ap (λ l. length_after (Some (length before)) l) line_is
      ∙ ap₂ (λ l r. captured_by (number_of_digits r) (timed_frame_of l))
      (before_space before (decimal wire_len)) (after_space before (decimal wire_len))
      ∙ ap₂ captured_by (is_word wire_len in_range) timed
      ∙ ap of_length wire_len_is

pub wired_one_line : (channel : ℕ) (frame : List ℕ) (time wire_len : ℕ) → channel < 2 ^ 32
    → IsBytes frame → time / 1000000000 < 2 ^ 32 → wire_len < 2 ^ 32
    → HasNoNewline (written_frame channel frame ++ wire_text time wire_len)
wired_one_line channel frame time wire_len fits bytes few in_range =
    let seconds = codes " " ++ decimal (time / 1000000000) in
    let micro = seconds ++ codes " " ++ decimal (time / 1000 % 1000000) in
    let nano = micro ++ codes " " ++ decimal (time % 1000) in
    HasNoNewline-append (written_frame channel frame) (wire_text time wire_len)
    (written_frame-one_line channel frame fits bytes)
    (HasNoNewline-append (nano ++ codes " ") (decimal wire_len)
    (HasNoNewline-append nano (codes " ")
    (HasNoNewline-append (micro ++ codes " ") (decimal (time % 1000))
    (HasNoNewline-append micro (codes " ")
    (HasNoNewline-append (seconds ++ codes " ") (decimal (time / 1000 % 1000000))
    (HasNoNewline-append seconds (codes " ")
    (HasNoNewline-append (codes " ") (decimal (time / 1000000000)) (refl, tt)
    (decimal_one_line (time / 1000000000) (omega arith))) (refl, tt))
    (decimal_one_line (time / 1000 % 1000000) (omega arith))) (refl, tt))
    (decimal_one_line (time % 1000) (omega arith))) (refl, tt))
    (decimal_one_line wire_len (omega arith)))
