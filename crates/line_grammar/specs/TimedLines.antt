-- Lines of frames with the times at which they were captured: `frame CHANNEL HEX TIME`, where TIME
-- is `SECONDS MICROSECONDS` or `SECONDS MICROSECONDS NANOSECONDS`. Up to its third space such a
-- line gives a frame. One without a third space has time 0.
use Rattle.std.specs.Prelude.{ℕ, ◌+◌, ◌-◌, ◌*◌, nat_le, nat_lt, if◌then◌else◌, List, length, take, drop, position}
use Rattle.std.specs.Prelude.{Option, Some, None, option_map}
use Rattle.std.specs.List.{after_first}
use Rattle.std.specs.Str.Parse.{digits_value}
use Rattle.hex.specs.Hex.{decode_of}
use Rattle.line_grammar.specs.Commands.{Command, command_of, frame_on, is_channel, is_space}
use Rattle.line_grammar.specs.Commands.Command.{Frame, Forget, Bad}
use Rattle.line_grammar.specs.declared.frame_limits.TheConstants.{FRAME_LIMIT}
use Rattle.line_grammar.specs.declared.timed_line.Time.{Time}

-- a frame, and when it was captured
pub record TimedFrame : Type 0 where
  pub seconds : ℕ
  pub nanoseconds : ℕ
  pub frame : List ℕ

-- numbers of a time are digits as a channel's are
abbrev pub number_of_digits : List ℕ → Option ℕ
number_of_digits digits = if is_channel digits then Some (digits_value 10 digits) else None

abbrev pub below : ℕ → Option ℕ → Option ℕ
below limit (Some n) = if nat_lt n limit then Some n else None
below limit None = None

-- less than so many
abbrev pub number_below : ℕ → List ℕ → Option ℕ
number_below limit digits = below limit (number_of_digits digits)

-- microseconds, and nanoseconds after them
abbrev pub parts_with : Option ℕ → Option ℕ → Option ℕ
parts_with (Some microseconds) (Some nanoseconds) = Some (1000 * microseconds + nanoseconds)
parts_with (Some microseconds) None = None
parts_with None nanoseconds = None

-- the parts of a second, less than a million microseconds and a thousand nanoseconds, with the first
-- space here
abbrev pub parts_at : Option ℕ → List ℕ → Option ℕ
parts_at (Some space) text = parts_with (number_below 1000000 (take space text))
    (number_below 1000 (drop (space + 1) text))
parts_at None text = parts_with (number_below 1000000 text) (Some 0)

abbrev pub parts_of : List ℕ → Option ℕ
parts_of text = parts_at (position is_space text) text

abbrev pub time_with : Option ℕ → Option ℕ → Option Time
time_with (Some seconds) (Some nanoseconds) =
    Some (record { seconds = seconds; nanoseconds = nanoseconds })
time_with (Some seconds) None = None
time_with None nanoseconds = None

-- a time's seconds and their parts, with the first space here
abbrev pub time_at : Option ℕ → List ℕ → Option Time
time_at (Some space) text = time_with (number_of_digits (take space text))
    (parts_of (drop (space + 1) text))
time_at None text = None

abbrev pub time_of : List ℕ → Option Time
time_of text = time_at (position is_space text) text

abbrev pub no_time : Time
no_time = record { seconds = 0; nanoseconds = 0 }

-- a frame whose line fits on every channel
abbrev pub frame_at : Option Time → Command → Option TimedFrame
frame_at (Some time) (Frame channel frame) =
    if nat_le (length frame) FRAME_LIMIT
    then Some (record { seconds = time.seconds; nanoseconds = time.nanoseconds; frame = frame })
    else None
frame_at (Some time) (Forget number) = None
frame_at (Some time) Bad = None
frame_at None command = None

-- the index of the third space
abbrev pub third_space : List ℕ → Option ℕ
third_space line =
    let digits = after_first is_space (after_first is_space line) in
    option_map (λ space. length line - length digits + space) (position is_space digits)

abbrev pub frame_before : Option ℕ → List ℕ → Option TimedFrame
frame_before (Some space) line = frame_at (time_of (drop (space + 1) line))
    (command_of (take space line))
frame_before None line = frame_at (Some no_time) (command_of line)

-- the frame that a line gives, with its time
unfoldable pub timed_frame_of : List ℕ → Option TimedFrame
timed_frame_of line = frame_before (third_space line) line

-- ---- the same part by part, as it is read

-- the digits of a frame on this channel, and the time after the first space, if there is one
abbrev pub digits_before : Option ℕ → (channel : ℕ) → List ℕ → Option TimedFrame
digits_before (Some space) channel text = frame_at (time_of (drop (space + 1) text))
    (frame_on channel (decode_of (take space text)))
digits_before None channel text = frame_at (Some no_time) (frame_on channel (decode_of text))

abbrev pub digits_frame : (channel : ℕ) → List ℕ → Option TimedFrame
digits_frame channel text = digits_before (position is_space text) channel text

abbrev pub channel_frame : Option ℕ → List ℕ → Option TimedFrame
channel_frame (Some channel) text = digits_frame channel text
channel_frame None text = None

-- a channel before the first space, and the rest
abbrev pub text_before : Option ℕ → List ℕ → Option TimedFrame
text_before (Some space) text = channel_frame (number_of_digits (take space text)) (drop (space + 1) text)
text_before None text = None

-- what follows `frame `
abbrev pub text_frame : List ℕ → Option TimedFrame
text_frame text = text_before (position is_space text) text
