-- What a line requests.
use Rattle.std.specs.Prelude.{◌≡◌, ◌↔◌, ℕ, ◌≤◌, ◌&&◌, ◌==◌, nat_le, nat_eq, Bool, IsTrue, if◌then◌else◌, List, [], ◌∷◌}
use Rattle.std.specs.Prelude.{◌++◌, length, drop, codes, Result, Ok, Err}
use Rattle.std.specs.List.{starts_with, list_all, before_first, after_first}
use Rattle.std.specs.Char.{is_ascii_digit}
use Rattle.std.specs.Str.Parse.{digits_value}
use Rattle.hex.specs.Hex.{decode_of}
use Rattle.hex.specs.declared.error.FromHexError.{FromHexError}
use Rattle.lines.specs.declared.limits.TheConstants.{LINE_LIMIT}

-- a line gives the bytes of a frame, on a channel, or has the datagrams dropped whose latest
-- fragment came before the line of a number, or requests nothing that is understood
pub data Command : Type 0 where
  Frame : (channel : ℕ) → (bytes : List ℕ) → Command
  Forget : (line : ℕ) → Command
  Bad : Command

abbrev pub is_space : ℕ → Bool
is_space byte = byte == 32

-- some decimal digits, at most so many, of a number up to a greatest one
abbrev pub is_number : (most greatest : ℕ) → List ℕ → Bool
is_number most greatest digits =
    nat_le 1 (length digits) && nat_le (length digits) most && list_all is_ascii_digit digits
    && nat_le (digits_value 10 digits) greatest

-- one to ten decimal digits, of a number that fits 32 bits
abbrev pub is_channel : List ℕ → Bool
is_channel digits = is_number 10 4294967295 digits

-- a frame has a byte at least
abbrev pub frame_on : ℕ → Result (List ℕ) FromHexError → Command
frame_on channel (Ok []) = Bad
frame_on channel (Ok (byte ∷ bytes)) = Frame channel (byte ∷ bytes)
frame_on channel (Err e) = Bad

-- what follows `frame `: a channel, a space, and hex digits
abbrev pub frame_command_of : List ℕ → Command
frame_command_of text =
    let number = before_first is_space text in
    if is_channel number then frame_on (digits_value 10 number)
    (decode_of (after_first is_space text)) else Bad

-- what a line requests that is not too long. What follows `forget ` is the number of a line: one to
-- twenty decimal digits of a number that fits 64 bits.
unfoldable pub command_of : List ℕ → Command
command_of line =
    if nat_le (length line) LINE_LIMIT
    then (if starts_with nat_eq line (codes "frame ") then frame_command_of (drop 6 line)
    else (if starts_with nat_eq line (codes "forget ")
    && is_number 20 18446744073709551615 (drop 7 line)
    then Forget (digits_value 10 (drop 7 line)) else Bad)) else Bad

-- the same by the grammar: a whole line that gives these bytes on this channel
pub record IsFrameLine (line : List ℕ) (channel : ℕ) (bytes : List ℕ) : Type 0 where
  pub number : List ℕ
  pub digits : List ℕ
  pub parts : line ≡ codes "frame " ++ (number ++ 32 ∷ digits)
  pub size : length line ≤ LINE_LIMIT
  pub count : (1 ≤ length number) × (length number ≤ 10)
  pub decimal : IsTrue (list_all is_ascii_digit number)
  pub value : channel ≡ digits_value 10 number
  pub fits : channel ≤ 4294967295
  pub hex : decode_of digits ≡ Ok bytes
  pub some : 1 ≤ length bytes

abbrev pub FrameLinesAreTheGrammar : Type 0
FrameLinesAreTheGrammar = (line : List ℕ) (channel : ℕ) (bytes : List ℕ)
    → (command_of line ≡ Frame channel bytes) ↔ IsFrameLine line channel bytes

-- a whole line that has the datagrams dropped whose latest fragment came before the line of this
-- number
pub record IsForgetLine (line : List ℕ) (number : ℕ) : Type 0 where
  pub digits : List ℕ
  pub parts : line ≡ codes "forget " ++ digits
  pub count : (1 ≤ length digits) × (length digits ≤ 20)
  pub decimal : IsTrue (list_all is_ascii_digit digits)
  pub value : number ≡ digits_value 10 digits
  pub fits : number ≤ 18446744073709551615

abbrev pub ForgetLinesAreTheGrammar : Type 0
ForgetLinesAreTheGrammar = (line : List ℕ) (number : ℕ) → (command_of line ≡ Forget number)
    ↔ IsForgetLine line number
