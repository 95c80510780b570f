-- A parser of a capture's packets, to which a caller passes the bytes: where the packets lie in them, and
-- how the capture ends.
use Rattle.std.specs.Prelude.{◌≡◌, ℕ, ◌-◌, List, [], ◌∷◌, ◌++◌, length, drop, take, map}
use Rattle.std.specs.Prelude.{Option, Some, None, Result, Ok, Err, MatchOption}
use Rattle.captures.specs.CaptureRuns.{IsCapture, fault_at_end}
use Rattle.captures.specs.Dropped.{IsDropped, last_of}
use Rattle.captures.specs.Numbers.{capped}
use Rattle.captures.specs.PacketSteps.{Gives, taken_of}
use Rattle.captures.specs.Positions.{IsPosition}
use Rattle.captures.specs.Readers.{packet_with}
use Rattle.captures.specs.Units.{IsIncomplete, IsLeft, Refuses, skipped_in}
use Rattle.captures.specs.declared.capture_error.CaptureError.{CaptureError}
use Rattle.captures.specs.declared.packet.Packet.{Packet}
use Rattle.captures.specs.declared.position.Position.{Position}
use Rattle.captures.specs.declared.reading.ahead.Ahead.{Ahead}
use Rattle.captures.specs.declared.reading.packet_parser.PacketParser.{PacketParser}
use Rattle.captures.specs.declared.reading.parsed.ParsedPacket.{ParsedPacket}
use Rattle.captures.specs.declared.reading.parsed.Parsed.{Parsed}
use Rattle.captures.specs.declared.reading.refused_at.RefusedAt.{RefusedAt}
use Rattle.captures.specs.declared.skipped.Skipped.{Skipped}
use Rattle.captures.specs.declared.state.State.{State}
use Rattle.captures.specs.declared.state.State.TheVariants.{Start}
use Rattle.captures.specs.declared.unfit.Unfit.{Unfit}

-- the packet whose frame ends with the bytes there
abbrev pub packet_there : List ℕ → ParsedPacket → Packet
packet_there bytes found = record {
  number = found.number;
  interface = found.interface;
  time = found.time;
  link = found.link;
  wire_len = found.wire_len;
  frame = record { header = found.header; bytes = take found.len (drop found.offset bytes) };
}

-- the packets that it passed over
abbrev pub skipped_of : PacketParser → Skipped
skipped_of parser = skipped_in parser.state

-- why it refused the capture, if it did
abbrev pub refusal_of : PacketParser → Option RefusedAt
refusal_of parser = parser.refused

-- it was passed these bytes and gave these packets, each whole one of them in its order, and isn't done
-- with the last bytes, `held`
pub record HasParsed (unfit : Unfit) (parser : PacketParser) (read held : List ℕ) (given : List Packet)
    : Type 0 where
  pub dropped : List ℕ
  pub is_dropped : IsDropped parser.state parser.started dropped
  pub gives : Gives (Start unfit) read given parser.state (dropped ++ held)
  pub passed : parser.passed ≡ capped (length read - length (dropped ++ held))
  pub going : parser.refused ≡ None

-- the same after the last whole unit: bytes are missing, or this is refused
pub record LeavesOff (unfit : Unfit) (parser : PacketParser) (read held : List ℕ) (given : List Packet)
    (refusal : Option CaptureError) : Type 0 where
  pub parsed : HasParsed unfit parser read held given
  pub left : IsLeft parser.state (parsed.dropped ++ held) refusal

-- what is found at the start of these bytes: the next packet, or none, and what is left of them
abbrev pub FindsNext : Unfit → PacketParser → (read bytes : List ℕ) → (given : List Packet) → Ahead → Type 0
FindsNext unfit new read bytes given ahead = MatchOption ahead.found
    (LeavesOff unfit new read (last_of ahead.left bytes) given ahead.refusal)
    (λ found. HasParsed unfit new read (last_of ahead.left bytes)
    (given ++ packet_with found (take ahead.len (last_of ahead.from bytes)) ∷ []))

-- after these packets it stops at this position, for such a reason
pub record StopsAt (unfit : Unfit) (read : List ℕ) (given : List Packet) (position : Position)
    (reason : State → List ℕ → Type 0) : Type 0 where
  pub state : State
  pub rest : List ℕ
  pub gives : Gives (Start unfit) read given state rest
  pub is_position : IsPosition state read rest position
  pub why : reason state rest

-- the result of a call that these bytes are passed to, the last of those that were passed by then: the
-- next packet, none yet, or why none can follow, whatever comes after them
abbrev pub ParsesTo : Unfit → PacketParser → (read bytes : List ℕ) → (given : List Packet)
    → Result Parsed RefusedAt → Type 0
ParsesTo unfit new read bytes given (Ok parsed) = MatchOption parsed.packet
    (LeavesOff unfit new read (drop parsed.done bytes) given None)
    (λ found. HasParsed unfit new read (drop parsed.done bytes)
    (given ++ packet_there bytes found ∷ []))
ParsesTo unfit new read bytes given (Err refused) = (refusal_of new ≡ Some refused)
    × StopsAt unfit read given refused.position (λ state rest. Refuses state rest refused.error)

-- how a capture of these bytes ends: it is whole, and these packets were reported, or it is cut off
abbrev pub EndsAs : Unfit → PacketParser → (read : List ℕ) → (given : List Packet)
    → Result Unit RefusedAt → Type 0
EndsAs unfit parser read given (Ok done) =
    IsCapture unfit read (map taken_of given) (skipped_of parser)
EndsAs unfit parser read given (Err refused) = StopsAt unfit read given refused.position
    (λ state rest. IsIncomplete state rest × (fault_at_end state (length rest) ≡ Err refused.error))
