-- What is known of the prefix of a line that has come, by the state of its reader.
use Rattle.std.specs.Prelude.{◌≡◌, ℕ, ◌<◌, ◌≤◌, ◌+◌, ◌*◌, true, List, [], ◌∷◌, ◌++◌, length, take, codes, Option, Some}
use Rattle.std.specs.Prelude.{None, Ok}
use Rattle.std.specs.Str.Parse.{digits_value}
use Rattle.hex.specs.Hex.{decode_of}
use Rattle.line_grammar.specs.Commands.{command_of, is_channel}
use Rattle.line_grammar.specs.Commands.Command.{Bad}
use Rattle.line_grammar.specs.declared.hex_digits.HexDigits.{HexDigits}
use Rattle.line_grammar.specs.declared.line_head.WordMatch.{WordMatch}
use Rattle.line_grammar.specs.declared.line_head.WordMatch.TheVariants as word_match
use Rattle.line_grammar.specs.declared.line_head.TheConstants.{CHANNEL_DIGITS, LINE_DIGITS, WORD_LIMIT}
use Rattle.line_grammar.specs.declared.number.Number.{Number}
use Rattle.line_grammar.specs.declared.state.State.{State}
use Rattle.line_grammar.specs.declared.state.State.TheVariants as state
use Rattle.line_grammar.specs.Numbers.{ReadsNumber}
use Rattle.lines.specs.declared.limits.TheConstants.{LINE_LIMIT}

-- it has the whole head of a line that gives a frame on this channel, and then these bytes
pub record IsFramePrefix (prefix : List ℕ) (channel : ℕ) (digits : List ℕ) : Type 0 where
  pub number : List ℕ
  pub parts : prefix ≡ codes "frame " ++ (number ++ 32 ∷ digits)
  pub fits : is_channel number ≡ true
  pub value : channel ≡ digits_value 10 number

-- it has a word, and then digits of a number
pub record ReadsHead (word prefix : List ℕ) (number : Number) : Type 0 where
  pub digits : List ℕ
  pub parts : prefix ≡ word ++ digits
  pub reads : ReadsNumber digits number

-- no line that starts so requests anything
abbrev pub IsWrong : List ℕ → Type 0
IsWrong prefix = (rest : List ℕ) → command_of (prefix ++ rest) ≡ Bad

-- a byte that waits
abbrev pub half_digit : Option ℕ → List ℕ
half_digit None = []
half_digit (Some digit) = digit ∷ []

-- it has the head, pairs of digits that encode the first bytes of the space for a frame, and maybe
-- one byte more
pub record ReadsDigits (prefix : List ℕ) (h : HexDigits) (frame : List ℕ) : Type 0 where
  pub digits : List ℕ
  pub head : IsFramePrefix prefix h.channel (digits ++ half_digit h.half)
  pub size : h.len ≡ length prefix
  pub decoded : decode_of digits ≡ Ok (take h.pairs frame)

-- the same by a state
abbrev pub ReadsAt : List ℕ → State → List ℕ → Type 0
ReadsAt prefix (state.Word text) frame = prefix ≡ text.now
ReadsAt prefix (state.Channel number) frame = ReadsHead (codes "frame ") prefix number
ReadsAt prefix (state.Digits h) frame = ReadsDigits prefix h frame
ReadsAt prefix (state.Line number) frame = ReadsHead (codes "forget ") prefix number
ReadsAt prefix state.Wrong frame = IsWrong prefix

-- how a text starts with a word
abbrev pub Begins : (word text : List ℕ) → WordMatch → Type 0
Begins word text (word_match.Whole rest) = text ≡ word ++ rest.now
Begins word text (word_match.Prefix prefix) = (text ≡ prefix.now) × (length prefix.now < length word)
Begins word text word_match.Other = (more rest : List ℕ) → text ++ more ≡ word ++ rest → ⊥

-- the line is no longer than it may be, and its pairs of digits fit the space for a frame
abbrev pub DigitsFit : HexDigits → Type 0
DigitsFit h = (h.len ≤ LINE_LIMIT) × (2 * h.pairs + length (half_digit h.half) ≤ h.len)

-- the same by a state: how many bytes are counted in it, how many these may be, and how many of
-- them are digits of a frame
abbrev pub counted : State → ℕ
counted (state.Word text) = length text.now
counted (state.Channel number) = number.count
counted (state.Digits h) = h.len
counted (state.Line number) = number.count
counted state.Wrong = 0

abbrev pub most_counted : State → ℕ
most_counted (state.Word text) = WORD_LIMIT
most_counted (state.Channel number) = CHANNEL_DIGITS
most_counted (state.Digits h) = LINE_LIMIT
most_counted (state.Line number) = LINE_DIGITS
most_counted state.Wrong = 0

abbrev pub digits_counted : State → ℕ
digits_counted (state.Word text) = 0
digits_counted (state.Channel number) = 0
digits_counted (state.Digits h) = 2 * h.pairs + length (half_digit h.half)
digits_counted (state.Line number) = 0
digits_counted state.Wrong = 0

abbrev pub StateFits : State → Type 0
StateFits p = (counted p ≤ most_counted p) × (digits_counted p ≤ counted p)
