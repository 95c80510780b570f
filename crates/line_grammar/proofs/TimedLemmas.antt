-- The frame that a line gives with its time, by the parts of the line.
use Rattle.std.proofs.Common.{◌≡◌, ◌∙◌, sym, ap, refl, ℕ, ◌+◌, ◌-◌, ◌*◌, ◌<◌, Bool, true, false, [], List, ◌∷◌, ◌++◌}
use Rattle.std.proofs.Common.{length, take, drop, get_or, Option, Some, None, Result, Ok, Err, nat_eq, arith}
use Rattle.std.proofs.Common.{length-append, append_assoc, append-nil, eqb-true}
use Rattle.std.specs.Prelude.{codes, if◌then◌else◌, option_map, position}
use Rattle.std.specs.List.{position_or_len, starts_with}
use Rattle.std.specs.Str.Parse.{digits_value}
use Rattle.std.proofs.Math.Seq.{drop-append-add, take-append-add}
use Rattle.std.proofs.lemmas.Bool.{lt-leb}
use Rattle.std.proofs.lemmas.List.{take-append-drop, take_at}
use Rattle.std.proofs.lemmas.List.Sums.{passes_at_first, split_at_first}
use Rattle.std.proofs.lemmas.Slice.Eq.{starts_is}
use Rattle.hex.specs.Hex.{decode_of}
use Rattle.hex.specs.declared.error.FromHexError.{FromHexError}
use Rattle.hex.proofs.HexLemmas.{decode_of-ok}
use Rattle.line_grammar.specs.Commands.{Command, command_of, frame_on, is_channel, is_space}
use Rattle.line_grammar.specs.Commands.Command.{Frame, Bad}
use Rattle.line_grammar.specs.TimedLines.{channel_frame, digits_before, digits_frame, frame_at, frame_before, no_time}
use Rattle.line_grammar.specs.TimedLines.{text_before, text_frame, third_space, time_of, timed_frame_of}
use Rattle.line_grammar.specs.declared.frame_limits.TheConstants.{FRAME_LIMIT}
use Rattle.line_grammar.specs.declared.timed_line.Time.{Time}
use Rattle.line_grammar.proofs.CommandLaws.{digits_after, first_space, frame_text, has_parts, number_tested}
use Rattle.line_grammar.proofs.CommandLaws.{number_tests, starts}
use Rattle.line_grammar.proofs.CommandLemmas.{command_of-long}

-- ---- what begins with no channel gives no frame

no_frame_at : (time : Option Time) (c : Command)
    → ((channel : ℕ) (bytes : List ℕ) → c ≡ Frame channel bytes → ⊥) → frame_at time c ≡ None
no_frame_at time c none = grind arith

module _ (line : List ℕ) (none : (number digits : List ℕ)
    → line ≡ codes "frame " ++ (number ++ 32 ∷ digits) → is_channel number ≡ true → ⊥) where
  prefix_no_frame : (prefix more : List ℕ) → line ≡ prefix ++ more → (channel : ℕ) (bytes : List ℕ)
      → command_of prefix ≡ Frame channel bytes → ⊥
  prefix_no_frame prefix more cut channel bytes is =
      let f = has_parts prefix channel bytes is in
      none f.number (f.digits ++ more)
      (cut ∙ ap (λ l. l ++ more) f.parts
      ∙ ap (λ l. codes "frame " ++ l) (append_assoc f.number (32 ∷ f.digits) more))
      (number_tested 10 4294967295 f.number
      (record { count = f.count; decimal = f.decimal; fits = omega (arith, f.value, f.fits) }))

  none_before : (o : Option ℕ) → frame_before o line ≡ None
  none_before (Some space) =
      no_frame_at (time_of (drop (space + 1) line)) (command_of (take space line))
      (prefix_no_frame (take space line) (drop space line) (sym (take-append-drop space line)))
  none_before None = no_frame_at (Some no_time) (command_of line)
      (prefix_no_frame line [] (sym (append-nil line)))

  pub no_timed_frame : timed_frame_of line ≡ None
  unfolding timed_frame_of
  no_timed_frame = none_before (third_space line)

pub other_start : (line : List ℕ) → starts_with nat_eq line (codes "frame ") ≡ false
    → timed_frame_of line ≡ None
other_start line other = grind (arith, no_timed_frame, starts_is)

-- ---- the first space

space_some : (text : List ℕ) (n : ℕ) → position_or_len is_space text ≡ n → n < length text
    → position is_space text ≡ Some n
space_some text n at lt = grind arith

space_at : (number digits text : List ℕ) → text ≡ number ++ 32 ∷ digits → is_channel number ≡ true
    → position is_space text ≡ Some (length number)
space_at number digits text parts tested =
    grind (arith, space_some, first_space, number_tests, length-append)

found_at : (text : List ℕ) (space : ℕ) → position is_space text ≡ Some space
    → (position_or_len is_space text ≡ space) × (position_or_len is_space text < length text)
found_at text space some = grind arith

cut_at : (text : List ℕ) (space : ℕ) → position is_space text ≡ Some space
    → text ≡ take space text ++ 32 ∷ drop (space + 1) text
cut_at text space some =
    let at = found_at text space some in
    let byte : get_or text (position_or_len is_space text) 0 ≡ 32 =
    eqb-true _ 32 (passes_at_first is_space text 0 at.1) in
    grind (arith, split_at_first)

-- ---- a channel and what follows it

bad_none : (time : Option Time) → frame_at time Bad ≡ None
bad_none time = grind arith

-- digits of too many bytes for a frame
long_none : (time : Option Time) (channel : ℕ) (digits : List ℕ) (d : Result (List ℕ) FromHexError)
    → decode_of digits ≡ d → 2 * FRAME_LIMIT + 1 < length digits
    → frame_at time (frame_on channel d) ≡ None
long_none (Some time) channel digits (Ok []) is long = refl
long_none (Some time) channel digits (Ok (byte ∷ bytes)) is long =
    let twice = (decode_of-ok digits (byte ∷ bytes) is).2 in
    rw (lt-leb (length (byte ∷ bytes)) FRAME_LIMIT (omega (arith, twice, long))) refl
long_none (Some time) channel digits (Err e) is long = refl
long_none None channel digits d is long = refl

module _ (number : List ℕ) (tested : is_channel number ≡ true) where
  abbrev channel : ℕ
  channel = digits_value 10 number

  requested : (digits : List ℕ) (time : Option Time)
      → frame_at time (command_of (codes "frame " ++ (number ++ 32 ∷ digits)))
      ≡ frame_at time (frame_on channel (decode_of digits))
  requested digits time =
      grind (
        arith,
        length-append,
        number_tests,
        command_of-long,
        bad_none,
        long_none,
        frame_text,
      )

  module _ (digits : List ℕ) where
    abbrev line : List ℕ
    line = codes "frame " ++ (number ++ 32 ∷ digits)

    abbrev head : List ℕ
    head = codes "frame " ++ (number ++ 32 ∷ [])

    head_first : (more : List ℕ) → codes "frame " ++ (number ++ 32 ∷ more) ≡ head ++ more
    head_first more = ap (λ l. codes "frame " ++ l) (sym (append_assoc number (32 ∷ []) more))

    count : (space : ℕ) → length line - length digits + space ≡ length head + space
    count space = omega (arith, ap length (head_first digits), length-append head digits)

    prefix : (space : ℕ) → take (length line - length digits + space) line
        ≡ codes "frame " ++ (number ++ 32 ∷ take space digits)
    prefix space = simp (count, head_first, take-append-add)

    back : (space : ℕ) → drop (length line - length digits + space + 1) line ≡ drop (space + 1) digits
    back space =
        let same : length line - length digits + space + 1 ≡ length head + (space + 1) =
        omega (arith, count space) in
        cc (same, head_first digits, drop-append-add head digits (space + 1))

    by_space : (o : Option ℕ)
        → frame_before (option_map (λ space. length line - length digits + space) o) line
        ≡ digits_before o channel digits
    by_space None = requested digits (Some no_time)
    by_space (Some space) = grind (arith, back, prefix, requested)

    third : third_space line
        ≡ option_map (λ space. length line - length digits + space) (position is_space digits)
    third = grind (arith, digits_after, number_tests)

    pub channel_read : timed_frame_of line ≡ digits_frame channel digits
    unfolding timed_frame_of
    channel_read = ap (λ o. frame_before o line) third ∙ by_space (position is_space digits)

-- ---- what follows `frame `

by_test : (text : List ℕ) (space : ℕ) → position is_space text ≡ Some space → (b : Bool)
    → is_channel (take space text) ≡ b
    → timed_frame_of (codes "frame " ++ text)
    ≡ channel_frame (if b then Some (digits_value 10 (take space text)) else None)
    (drop (space + 1) text)
by_test text space some true tested =
    ap (λ t. timed_frame_of (codes "frame " ++ t)) (cut_at text space some)
    ∙ channel_read (take space text) tested (drop (space + 1) text)
by_test text space some false other = grind (arith, no_timed_frame, space_at, take_at)

by_position : (text : List ℕ) (o : Option ℕ) → position is_space text ≡ o
    → timed_frame_of (codes "frame " ++ text) ≡ text_before o text
by_position text o is = grind (arith, no_timed_frame, space_at, by_test)

pub frame_text_read : (text : List ℕ) → timed_frame_of (codes "frame " ++ text) ≡ text_frame text
frame_text_read text = by_position text (position is_space text) refl

pub after_frame : (line text : List ℕ) → starts_with nat_eq line (codes "frame ") ≡ true
    → text ≡ drop 6 line → timed_frame_of line ≡ text_frame text
after_frame line text begins after = grind (arith, starts, frame_text_read)
