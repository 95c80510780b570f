-- A capture as C holds it.
use Rattle.std.specs.Prelude.{◌≡◌, ℕ, Bool, if◌then◌else◌, true, List, Some, None, Result}
use Rattle.captures.specs.Parsers.{EndsAs, HasParsed, LeavesOff, ParsesTo}
use Rattle.captures.specs.declared.packet.Packet.{Packet}
use Rattle.captures.specs.declared.reading.packet_parser.PacketParser.{PacketParser}
use Rattle.captures.specs.declared.reading.parsed.Parsed.{Parsed}
use Rattle.captures.specs.declared.reading.refused_at.RefusedAt.{RefusedAt}
use Rattle.captures.specs.declared.time.time_unit.TimeUnit.{TimeUnit}
use Rattle.captures.specs.declared.time.time_unit.TimeUnit.TheVariants.{Microseconds, Nanoseconds}
use Rattle.captures.specs.declared.unfit.Unfit.{Unfit}
use Rattle.etherparse_structs.specs.Captured.{captured_struct, end_struct}
use Rattle.etherparse_structs.specs.declared.capture.EpCapture.{EpCapture}
use Rattle.etherparse_structs.specs.declared.capture_box.CaptureBox.{CaptureBox}
use Rattle.etherparse_structs.specs.declared.captured.EpCaptureEnding.{EpCaptureEnding}
use Rattle.etherparse_structs.specs.declared.captured.EpCaptured.{EpCaptured}

-- what a parser finds in the bytes that are passed to it, as C has it
pub record IsFound (unfit : Unfit) (parser : PacketParser) (read bytes : List ℕ) (given : List Packet)
    (answer : EpCaptured) : Type 0 where
  pub found : Result Parsed RefusedAt
  pub parses : ParsesTo unfit parser read bytes given found
  pub is : answer ≡ captured_struct found

-- how a capture ends, as C has it
pub record IsEnd (unfit : Unfit) (parser : PacketParser) (read : List ℕ) (given : List Packet)
    (answer : EpCaptureEnding) : Type 0 where
  pub ended : Result Unit RefusedAt
  pub ends : EndsAs unfit parser read given ended
  pub is : answer ≡ end_struct ended

-- one that is open has a parser
abbrev pub IsHandle : EpCapture → Type 0
IsHandle p = p.is_open ≡ true → (box : CaptureBox) × (p.held.value ≡ Some box)

-- an open one has a parser of which this holds
pub record Holds (p : EpCapture) (fact : PacketParser → Type 0) : Type 0 where
  pub box : CaptureBox
  pub is_open : p.is_open ≡ true
  pub held : p.held.value ≡ Some box
  pub holds : fact box.parser

-- it was passed these bytes and gave these packets, and isn't done with the last bytes, `left`
abbrev pub HasPassed : Unfit → EpCapture → (read left : List ℕ) → (given : List Packet) → Type 0
HasPassed unfit p read left given = Holds p (λ parser. HasParsed unfit parser read left given)

-- the answer to a call that these bytes are passed to
abbrev pub AnswersNext : Unfit → EpCapture → (read bytes : List ℕ) → (given : List Packet) → EpCaptured
    → Type 0
AnswersNext unfit p read bytes given answer = Holds p (λ parser. IsFound unfit parser read bytes given answer)

-- bytes are missing after those that were passed, of which these are left
abbrev pub HasLeftOff : Unfit → EpCapture → (read left : List ℕ) → (given : List Packet) → Type 0
HasLeftOff unfit p read left given = Holds p (λ parser. LeavesOff unfit parser read left given None)

-- the answer where none follow
abbrev pub AnswersEnd : Unfit → EpCapture → (read : List ℕ) → (given : List Packet) → EpCaptureEnding → Type 0
AnswersEnd unfit p read given answer = Holds p (λ parser. IsEnd unfit parser read given answer)

-- the unit of a capture's times that is written
abbrev pub unit_by : (nanoseconds : Bool) → TimeUnit
unit_by nanoseconds = if nanoseconds then Nanoseconds else Microseconds
