-- Lines of frames as they were captured. After a time with nanoseconds such a line may have the length
-- of its frame on the wire: `frame CHANNEL HEX SECONDS MICROSECONDS NANOSECONDS LENGTH`. All others are
-- those of `TimedLines`, of frames that had as many bytes on the wire as they have.
use Rattle.std.specs.Prelude.{ℕ, ◌+◌, if◌then◌else◌, List, length, take, drop, Option, Some, None, is_some, option_map}
use Rattle.line_grammar.specs.TimedLines.{TimedFrame, number_of_digits, third_space, timed_frame_of}
use Rattle.captures.specs.Framed.{frame_wire_len}
use Rattle.captures.specs.declared.text.bad_line.LineFault.{LineFault}
use Rattle.captures.specs.declared.text.bad_line.LineFault.TheVariants.{NoFrame, NoFraction, OtherAfterFrame}

-- a frame, when it was captured, and its length on the wire
pub record CapturedFrame : Type 0 where
  pub seconds : ℕ
  pub nanoseconds : ℕ
  pub wire_len : ℕ
  pub frame : List ℕ

-- how many bytes a frame of such a length had on the wire: as many as a line gives, but no fewer than
-- it has, or these
abbrev pub wire_len_given : Option ℕ → (len : ℕ) → ℕ
wire_len_given (Some wire_len) len = frame_wire_len len len wire_len
wire_len_given None len = len

-- with the length that is given, if one is
abbrev pub captured_with : Option ℕ → TimedFrame → CapturedFrame
captured_with wire_len timed = record {
  seconds = timed.seconds;
  nanoseconds = timed.nanoseconds;
  wire_len = wire_len_given wire_len (length timed.frame);
  frame = timed.frame;
}

-- the index of the sixth space: the third after the third one
abbrev pub third_after : Option ℕ → List ℕ → Option ℕ
third_after (Some space) line =
    option_map (λ later. space + 1 + later) (third_space (drop (space + 1) line))
third_after None line = None

abbrev pub sixth_space : List ℕ → Option ℕ
sixth_space line = third_after (third_space line) line

abbrev pub captured_by : Option ℕ → Option TimedFrame → Option CapturedFrame
captured_by (Some wire_len) timed = option_map (captured_with (Some wire_len)) timed
captured_by None timed = None

-- a line whose sixth space is here
abbrev pub length_after : Option ℕ → List ℕ → Option CapturedFrame
length_after (Some space) line = captured_by (number_of_digits (drop (space + 1) line))
    (timed_frame_of (take space line))
length_after None line = None

abbrev pub captured_or : Option TimedFrame → Option CapturedFrame → Option CapturedFrame
captured_or (Some timed) other = Some (captured_with None timed)
captured_or None other = other

-- the frame that a line gives
unfoldable pub captured_frame_of : List ℕ → Option CapturedFrame
captured_frame_of line = captured_or (timed_frame_of line) (length_after (sixth_space line) line)

-- why a frame with this after it isn't given, if it isn't: the seconds of a time alone, or something
-- else
abbrev pub fault_after : List ℕ → LineFault
fault_after rest = if is_some (number_of_digits rest) then NoFraction else OtherAfterFrame

-- why a line gives none: it has none, or there is something after it. Its third space is here
abbrev pub fault_at : Option ℕ → List ℕ → LineFault
fault_at (Some space) line =
    if is_some (timed_frame_of (take space line)) then fault_after (drop (space + 1) line) else NoFrame
fault_at None line = NoFrame

abbrev pub fault_of : List ℕ → LineFault
fault_of line = fault_at (third_space line) line
