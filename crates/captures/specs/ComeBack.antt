-- Lines that `run` wrote are lines of which a capture is written, and what is written is a capture
-- of the same frames.
use Rattle.std.specs.Prelude.{ℕ, ◌*◌, ◌/◌, ◌%◌, ◌^◌, ◌<◌, ◌≤◌, List, length, map}
use Rattle.std.specs.List.{AllByRecursion}
use Rattle.hex.specs.Hex.{IsBytes}
use Rattle.captures.specs.Lines.{Packet, lines_of}
use Rattle.captures.specs.CaptureRuns.{IsCapture}
use Rattle.captures.specs.Skipping.{none_skipped}
use Rattle.captures.specs.Encoding.{capture_of}
use Rattle.captures.specs.CapturedFrames.{CapturedFrame}
use Rattle.captures.specs.Texts.{IsText}
use Rattle.captures.specs.Times.{nanoseconds_in}
use Rattle.captures.specs.declared.extra.Extra.TheVariants.{Nothing, Times}
use Rattle.captures.specs.declared.limits.TheConstants.{TIME_LIMIT}
use Rattle.line_grammar.specs.declared.frame_limits.TheConstants.{FRAME_LIMIT}
use Rattle.captures.specs.declared.skipped.Skipped.{Skipped}
use Rattle.captures.specs.declared.time.time_unit.TimeUnit.{TimeUnit}
use Rattle.captures.specs.declared.unfit.Unfit.{Unfit}

-- a packet that has a line: its frame is bytes, one at least and no more than a line can hold, its
-- channel is a number of 32 bits, and so are the seconds of its time and its frame's length on the
-- wire, which is at least the frame's own
pub record HasLine (packet : Packet) : Type 0 where
  pub some : 1 ≤ length packet.frame
  pub short : length packet.frame ≤ FRAME_LIMIT
  pub bytes : IsBytes packet.frame
  pub number : packet.origin.channel < 2 ^ 32
  pub time : packet.origin.time ≤ TIME_LIMIT
  pub wire_len : packet.origin.wire_len < 2 ^ 32
  pub whole : length packet.frame ≤ packet.origin.wire_len

abbrev pub at_no_time : Packet → CapturedFrame
at_no_time packet = record {
  seconds = 0;
  nanoseconds = 0;
  wire_len = length packet.frame;
  frame = packet.frame;
}

-- a classic capture has one interface
abbrev pub on_one_channel : (time wire_len : ℕ) → Packet → Packet
on_one_channel time wire_len packet = record {
  origin = record { channel = 0; time = time; wire_len = wire_len };
  frame = packet.frame;
}

abbrev pub without_time : Packet → Packet
without_time packet = on_one_channel 0 (length packet.frame) packet

-- the frames of some packets' lines are written as a capture, which has the same packets
abbrev pub LinesComeBack : Type 0
LinesComeBack =
    (packets : List Packet) → AllByRecursion HasLine packets
    → IsText (lines_of Nothing packets) (map at_no_time packets)
    × ((unfit : Unfit) (time_unit : TimeUnit)
    → IsCapture unfit (capture_of time_unit (map at_no_time packets))
    (map without_time packets) none_skipped)

abbrev pub at_its_time : Packet → CapturedFrame
at_its_time packet = record {
  seconds = packet.origin.time / 1000000000;
  nanoseconds = packet.origin.time % 1000000000;
  wire_len = packet.origin.wire_len;
  frame = packet.frame;
}

-- at its time, in whole units of the capture, and of its length on the wire
abbrev pub with_time : TimeUnit → Packet → Packet
with_time time_unit packet = on_one_channel
    (nanoseconds_in time_unit * (packet.origin.time / nanoseconds_in time_unit))
    packet.origin.wire_len packet

-- the same with times, in microseconds or in nanoseconds, and lengths on the wire
abbrev pub TimedLinesComeBack : Type 0
TimedLinesComeBack =
    (packets : List Packet) → AllByRecursion HasLine packets
    → IsText (lines_of Times packets) (map at_its_time packets)
    × ((unfit : Unfit) (time_unit : TimeUnit)
    → IsCapture unfit (capture_of time_unit (map at_its_time packets))
    (map (with_time time_unit) packets) none_skipped)

-- each packet of a capture has a line
abbrev pub CapturedPacketsHaveLines : Type 0
CapturedPacketsHaveLines = (unfit : Unfit) (bytes : List ℕ) (packets : List Packet)
    (skipped : Skipped) → IsBytes bytes → IsCapture unfit bytes packets skipped
    → AllByRecursion HasLine packets
