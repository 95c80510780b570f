-- A reader of a capture's packets: what it has read and given, and how it ends.
use Rattle.std.specs.Prelude.{◌≡◌, ◌⊎◌, ℕ, ◌+◌, ◌-◌, ◌≤◌, Bool, true, false, List, [], ◌∷◌, ◌++◌, length, map, take}
use Rattle.std.specs.Prelude.{Option, Some, None, Result, Ok, Err, MatchOption}
use Rattle.std.specs.Io.KnownBytes.{IsAtEnd}
use Rattle.std.specs.Option.{option_map}
use Rattle.captures.specs.Dropped.{IsDropped, last_of}
use Rattle.captures.specs.PacketSteps.{Gives, HasNone, IsFirst, taken_of}
use Rattle.captures.specs.Numbers.{capped}
use Rattle.captures.specs.Positions.{IsPosition, block_type}
use Rattle.captures.specs.CaptureRuns.{IsCapture, fault_at_end}
use Rattle.captures.specs.Units.{IsIncomplete, Refuses, seen_in, skipped_in}
use Rattle.captures.specs.declared.capture_error.CaptureError.{CaptureError}
use Rattle.device_runs.specs.declared.limits.TheConstants.{READ_COUNT_LIMIT}
use Rattle.captures.specs.declared.packet.Packet.{Packet}
use Rattle.captures.specs.declared.position.Position.{Position}
use Rattle.captures.specs.declared.reading.ahead.Ahead.{Ahead}
use Rattle.captures.specs.declared.reading.ahead.Found.{Found}
use Rattle.captures.specs.declared.reading.packet_reader.PacketReader.{PacketReader}
use Rattle.captures.specs.declared.reading.read_error.ReadError.{ReadError}
use Rattle.captures.specs.declared.reading.read_error.ReadError.TheVariants.{Read, Capture, TooManyReads}
use Rattle.captures.specs.declared.skipped.Skipped.{Skipped}
use Rattle.captures.specs.declared.state.State.{State}
use Rattle.captures.specs.declared.state.State.TheVariants.{Start}
use Rattle.captures.specs.declared.unfit.Unfit.{Unfit}

-- a packet that was found, whose frame ends with these bytes
abbrev pub packet_with : Found → List ℕ → Packet
packet_with found bytes = record {
  number = found.number;
  interface = found.interface;
  time = found.time;
  link = found.link;
  wire_len = found.wire_len;
  frame = record { header = found.header; bytes = bytes };
}

-- the first packet of the bytes, or none
abbrev pub IsAhead : State → List ℕ → State → Ahead → Type 0
IsAhead state bytes after ahead = (ahead.left ≤ length bytes)
    × (ahead.len ≤ ahead.from) × (ahead.from ≤ length bytes)
    × MatchOption ahead.found
    (HasNone state bytes after (last_of ahead.left bytes) ahead.refusal)
    (λ found. IsFirst state bytes after
    (packet_with found (take ahead.len (last_of ahead.from bytes))) (last_of ahead.left bytes))

-- where its bytes come from
abbrev pub source_of : {R : Type 0} → PacketReader R → R
source_of reader = reader.reader

-- its current packet
abbrev pub packet_at : {R : Type 0} → PacketReader R → Option Packet
packet_at reader =
    option_map (λ (found : Found). packet_with found reader.window.marked) reader.found

-- the packets that it passed over
abbrev pub skipped_by : {R : Type 0} → PacketReader R → Skipped
skipped_by reader = skipped_in reader.state

-- how it ended, if it did
abbrev pub ending_of : {R : Type 0} → PacketReader R → Option (Result Unit ReadError)
ending_of reader = reader.ended

-- after an end each call answers this
abbrev pub again : Result Unit ReadError → Result Bool ReadError
again (Ok done) = Ok false
again (Err error) = Err error

-- it has read these bytes and given these packets, each whole one of them in its order, and holds
-- what follows
pub record HasRead {R : Type 0} (unfit : Unfit) (reader : PacketReader R) (read : List ℕ)
    (given : List Packet) : Type 0 where
  pub dropped : List ℕ
  pub is_dropped : IsDropped reader.state reader.started dropped
  pub gives : Gives (Start unfit) read given reader.state (dropped ++ reader.window.held)
  pub passed : reader.passed ≡ capped (length read - length (dropped ++ reader.window.held))
  pub reads : reader.reads ≤ length read
  pub going : reader.ended ≡ None

-- what is found at the start of what it holds: the next packet, none yet, or why none can follow
abbrev pub FindsPacket : {R : Type 0} → Unfit → PacketReader R → (read : List ℕ)
    → (given : List Packet) → Result Bool CaptureError → Type 0
FindsPacket unfit new read given (Ok true) = (packet : Packet) × (packet_at new ≡ Some packet)
    × HasRead unfit new read (given ++ packet ∷ [])
FindsPacket unfit new read given (Ok false) = (h : HasRead unfit new read given)
    × IsIncomplete new.state (h.dropped ++ new.window.held)
FindsPacket unfit new read given (Err error) = (h : HasRead unfit new read given)
    × Refuses new.state (h.dropped ++ new.window.held) error

-- nothing is read between
pub record IsBeside {R : Type 0} (old new : PacketReader R) : Type 0 where
  pub source : new.reader ≡ old.reader
  pub reads : new.reads ≡ old.reads
  pub ended : new.ended ≡ old.ended

-- all whole packets of these bytes were given, and this many passed over
pub record AreGiven (unfit : Unfit) (skipped : Skipped) (read : List ℕ) (given : List Packet)
    : Type 0 where
  pub state : State
  pub rest : List ℕ
  pub gives : Gives (Start unfit) read given state rest
  pub started : IsIncomplete state rest
  pub counts : skipped_in state ≡ skipped

-- after these packets a capture can't continue, or ends within one, at this position
pub record IsRefusedAt (unfit : Unfit) (skipped : Skipped) (error : CaptureError) (position : Position)
    (left : Option (List ℕ)) (read : List ℕ) (given : List Packet) : Type 0 where
  pub state : State
  pub rest : List ℕ
  pub gives : Gives (Start unfit) read given state rest
  pub is_position : IsPosition state read rest position
  pub counts : skipped_in state ≡ skipped
  pub why : Refuses state rest error ⊎ (IsAtEnd left × IsIncomplete state rest
      × (fault_at_end state (length rest) ≡ Err error))

-- it is refused for this, at its position
abbrev pub IsRefusedWith : {R : Type 0} → (old new : PacketReader R) → CaptureError
    → Result Bool ReadError → Type 0
IsRefusedWith old new error result = (position : Position) × (result ≡ Err (Capture error position))
    × (new ≡ record old { ended = Some (Err (Capture error position)) })
    × (position.packet ≡ capped (seen_in old.state + 1)) × (position.offset ≡ old.passed)
    × ((dropped : List ℕ) → IsDropped old.state old.started dropped
    → position.block ≡ block_type old.state (dropped ++ old.window.held))

-- the end of the input makes this of it
abbrev pub EndsBy : {R : Type 0} → (old new : PacketReader R) → Result Unit CaptureError
    → Result Bool ReadError → Type 0
EndsBy old new (Ok done) result = (result ≡ Ok false) × (new ≡ record old { ended = Some (Ok tt) })
EndsBy old new (Err error) result = IsRefusedWith old new error result

-- the result of a call that advances, where these bytes were read by then and these packets given
-- before: the next packet, the end of a capture that holds no other, or why none follows. `left`
-- are the bytes that reads still give
abbrev pub ComesTo : {R : Type 0} → Unfit → PacketReader R → (left : Option (List ℕ))
    → (read : List ℕ) → (given : List Packet) → Result Bool ReadError → Type 0
ComesTo unfit new left read given (Ok true) = (packet : Packet) × (packet_at new ≡ Some packet)
    × HasRead unfit new read (given ++ packet ∷ [])
ComesTo unfit new left read given (Ok false) = (ending_of new ≡ Some (Ok tt))
    × IsCapture unfit read (map taken_of given) (skipped_by new) × IsAtEnd left
ComesTo unfit new left read given (Err Read) = (ending_of new ≡ Some (Err Read))
    × AreGiven unfit (skipped_by new) read given
ComesTo unfit new left read given (Err TooManyReads) = (ending_of new ≡ Some (Err TooManyReads))
    × AreGiven unfit (skipped_by new) read given × (READ_COUNT_LIMIT ≤ length read)
ComesTo unfit new left read given (Err (Capture error position)) =
    (ending_of new ≡ Some (Err (Capture error position)))
    × IsRefusedAt unfit (skipped_by new) error position left read given

-- the result of a call that reads nothing: the next packet, none in what is held, or why none
-- follows
abbrev pub HeldTo : {R : Type 0} → Unfit → PacketReader R → (left : Option (List ℕ))
    → (read : List ℕ) → (given : List Packet) → Result Bool ReadError → Type 0
HeldTo unfit new left read given (Ok true) = ComesTo unfit new left read given (Ok true)
HeldTo unfit new left read given (Ok false) = FindsPacket unfit new read given (Ok false)
HeldTo unfit new left read given (Err error) = ComesTo unfit new left read given (Err error)
