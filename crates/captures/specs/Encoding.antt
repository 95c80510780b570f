-- How a classic capture of Ethernet frames is written (draft-ietf-opsawg-pcap, sections 4 and 5):
-- low byte first, with times in microseconds or nanoseconds.
use Rattle.std.specs.Prelude.{ℕ, ◌/◌, ◌^◌, ◌<◌, ◌≤◌, List, [], ◌∷◌, ◌++◌, length}
use Rattle.std.specs.Int.{to_le_bytes, w32}
use Rattle.std.specs.List.{flat_map}
use Rattle.captures.specs.Lines.{Packet, packets_of}
use Rattle.captures.specs.Times.{nanoseconds_in, record_time}
use Rattle.captures.specs.CapturedFrames.{CapturedFrame}
use Rattle.line_grammar.specs.declared.frame_limits.TheConstants.{FRAME_LIMIT}
use Rattle.captures.specs.declared.origin.Origin.{Origin}
use Rattle.captures.specs.declared.time.time_unit.TimeUnit.{TimeUnit}
use Rattle.captures.specs.declared.time.time_unit.TimeUnit.TheVariants.{Microseconds, Nanoseconds}

-- magic number, version 2.4, two numbers that are 0, a snap length of 262,144, link type 1
abbrev pub file_header : TimeUnit → List ℕ
file_header Microseconds =
    0xd4 ∷ 0xc3 ∷ 0xb2 ∷ 0xa1 ∷ 2 ∷ 0 ∷ 4 ∷ 0 ∷ 0 ∷ 0 ∷ 0 ∷ 0 ∷ 0 ∷ 0 ∷ 0 ∷ 0 ∷ 0 ∷ 0 ∷
    4 ∷ 0 ∷ 1 ∷ 0 ∷ 0 ∷ 0 ∷ []
file_header Nanoseconds =
    0x4d ∷ 0x3c ∷ 0xb2 ∷ 0xa1 ∷ 2 ∷ 0 ∷ 4 ∷ 0 ∷ 0 ∷ 0 ∷ 0 ∷ 0 ∷ 0 ∷ 0 ∷ 0 ∷ 0 ∷ 0 ∷ 0 ∷
    4 ∷ 0 ∷ 1 ∷ 0 ∷ 0 ∷ 0 ∷ []

-- the time, the number of bytes that follow, and the packet's length on the wire
abbrev pub record_head : (seconds parts len wire_len : ℕ) → List ℕ
record_head seconds parts len wire_len = to_le_bytes w32 seconds
    ++ (to_le_bytes w32 parts ++ (to_le_bytes w32 len ++ to_le_bytes w32 wire_len))

-- the fraction of a second in whole units of the capture, microseconds or nanoseconds
abbrev pub parts_in : TimeUnit → ℕ → ℕ
parts_in time_unit nanoseconds = nanoseconds / nanoseconds_in time_unit

abbrev pub record_of : TimeUnit → CapturedFrame → List ℕ
record_of time_unit given =
    record_head given.seconds (parts_in time_unit given.nanoseconds) (length given.frame)
    given.wire_len ++ given.frame

abbrev pub capture_of : TimeUnit → List CapturedFrame → List ℕ
capture_of time_unit frames = file_header time_unit ++ flat_map (record_of time_unit) frames

abbrev pub origin_of : TimeUnit → CapturedFrame → Origin
origin_of time_unit given = record {
  channel = 0;
  time = record_time time_unit given.seconds (parts_in time_unit given.nanoseconds);
  wire_len = given.wire_len;
}

abbrev pub timed_packets : TimeUnit → CapturedFrame → List Packet
timed_packets time_unit given = packets_of (origin_of time_unit given) given.frame

-- the packets that some frames are, on the one interface that a classic capture has
abbrev pub packets_in : TimeUnit → List CapturedFrame → List Packet
packets_in time_unit frames = flat_map (timed_packets time_unit) frames

-- a frame that a line can hold, at a time of 32 bits of seconds and of a length of 32 bits on the
-- wire, at least its own
pub record IsWritable (given : CapturedFrame) : Type 0 where
  pub short : length given.frame ≤ FRAME_LIMIT
  pub seconds : given.seconds < 2 ^ 32
  pub nanoseconds : given.nanoseconds < 1000000000
  pub wire_len : given.wire_len < 2 ^ 32
  pub whole : length given.frame ≤ given.wire_len
