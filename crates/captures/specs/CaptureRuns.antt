-- A run from captures to lines: what is written before it reads on, and what it has written when it
-- ends.
use Rattle.std.specs.Prelude.{◌≡◌, ◌≢◌, ◌⊎◌, nat_lt, if◌then◌else◌, ℕ, zero, suc, ◌<◌, ◌≤◌, Bool, true, List, []}
use Rattle.std.specs.Prelude.{length, Option, Some, None, Result, Ok, Err}
use Rattle.device_runs.specs.Calls.{Call, Makes, bytes_read}
use Rattle.device_runs.specs.Runs.{Task, Goes}
use Rattle.captures.specs.declared.capture_error.CaptureError.TheVariants.{NotCapture, LinkType, FrameTooLong, CutOff}
use Rattle.captures.specs.declared.capture_error.CaptureError.TheVariants.{BlockTooLong, BadBlock, InterfaceLimit, NoFrame, Version}
use Rattle.captures.specs.declared.capture_error.CaptureError.{CaptureError}
use Rattle.captures.specs.declared.translation.run_error.RunError.{RunError}
use Rattle.captures.specs.declared.translation.refusal.Refusal.{Refusal}
use Rattle.captures.specs.declared.translation.refusal.Refusal.TheVariants.{InCapture, InLine}
use Rattle.captures.specs.declared.limits.TheConstants.{FIRST_UNIT_LEN, INPUT_CAPACITY}
use Rattle.captures.specs.declared.state.State.{State}
use Rattle.captures.specs.declared.state.State.TheVariants.{Start, Classic, Pcapng}
use Rattle.captures.specs.Endings.{ending_of}
use Rattle.captures.specs.Lines.{Packet, blank, lines_of}
use Rattle.captures.specs.Positions.{IsPosition}
use Rattle.captures.specs.Skipping.{none_skipped}
use Rattle.captures.specs.Units.{IsLeft, Passes, Takes, IsNoCapture, skipped_in}
use Rattle.captures.specs.declared.extra.Extra.{Extra}
use Rattle.captures.specs.declared.position.Position.{Position}
use Rattle.captures.specs.declared.skipped.Skipped.{Skipped}
use Rattle.captures.specs.declared.text.ledger.Ledger.{Ledger}
use Rattle.captures.specs.declared.unfit.Unfit.{Unfit}

-- the bytes are a whole capture, of which these packets are reported and this many passed over
pub record IsCapture (unfit : Unfit) (bytes : List ℕ) (packets : List Packet) (skipped : Skipped)
    : Type 0 where
  pub state : State
  pub passes : Passes (Start unfit) bytes packets state []
  pub known : state ≢ Start unfit
  pub counts : skipped_in state ≡ skipped

-- all whole units of the bytes are taken, and this many packets of them were passed over
pub record ArePassedOver (unfit : Unfit) (skipped : Skipped) (bytes : List ℕ) : Type 0 where
  pub state : State
  pub packets : List Packet
  pub rest : List ℕ
  pub refusal : Option CaptureError
  pub passes : Passes (Start unfit) bytes packets state rest
  pub left : IsLeft state rest refusal
  pub counts : skipped_in state ≡ skipped

-- the text is the lines of all whole packets in bytes after which nothing is refused
abbrev pub AreReported : Extra → Unfit → List ℕ → List ℕ → Type 0
AreReported extra unfit bytes text = (state : State) × (rest : List ℕ)
    × (noted : Ledger) × Takes (blank extra) (Start unfit) bytes state rest text None noted

-- the text is the lines of all whole packets in bytes, this many others were passed over, and then
-- a capture can't continue, for this reason and at this position
abbrev pub AreReportedBefore : Extra → Unfit → Skipped → CaptureError → Position → List ℕ → List ℕ → Type 0
AreReportedBefore extra unfit skipped error position bytes text = (state : State) × (rest : List ℕ)
    × (noted : Ledger) × Takes (blank extra) (Start unfit) bytes state rest text (Some error)
    noted
    × IsPosition state bytes rest position × (skipped_in state ≡ skipped)

-- the bytes end within a packet or a block at this position, which may be a section header at the
-- start, the text is the lines of all packets before it, and this many others were passed over
pub record EndsWithinPacket (extra : Extra) (unfit : Unfit) (skipped : Skipped) (position : Position)
    (bytes text : List ℕ) : Type 0 where
  pub state : State
  pub rest : List ℕ
  pub some : 0 < length rest
  pub known : (state ≢ Start unfit) ⊎ (FIRST_UNIT_LEN ≤ length rest)
  pub noted : Ledger
  pub takes : Takes (blank extra) (Start unfit) bytes state rest text None noted
  pub is_position : IsPosition state bytes rest position
  pub counts : skipped_in state ≡ skipped

-- what is written where the input is refused: as no capture only when a header would be whole, or
-- at the end
abbrev pub IsRefused : Extra → Unfit → Skipped → Refusal → Bool → List ℕ → List ℕ → Type 0
IsRefused extra unfit skipped (InCapture NotCapture position) reported read written =
    ((reported ≡ true) ⊎ (FIRST_UNIT_LEN ≤ length read)) × IsNoCapture read × (written ≡ [])
    × IsPosition (Start unfit) read read position × (none_skipped ≡ skipped)
IsRefused extra unfit skipped (InCapture CutOff position) reported read written = (reported ≡ true)
    × EndsWithinPacket extra unfit skipped position read written
IsRefused extra unfit skipped (InCapture (LinkType number) position) reported read written =
    AreReportedBefore extra unfit skipped (LinkType number) position read written
IsRefused extra unfit skipped (InCapture (InterfaceLimit number) position) reported read written =
    AreReportedBefore extra unfit skipped (InterfaceLimit number) position read written
IsRefused extra unfit skipped (InCapture (FrameTooLong captured) position) reported read written =
    AreReportedBefore extra unfit skipped (FrameTooLong captured) position read written
IsRefused extra unfit skipped (InCapture NoFrame position) reported read written =
    AreReportedBefore extra unfit skipped NoFrame position read written
IsRefused extra unfit skipped (InCapture (BlockTooLong len) position) reported read written =
    AreReportedBefore extra unfit skipped (BlockTooLong len) position read written
IsRefused extra unfit skipped (InCapture (Version major minor) position) reported read written =
    AreReportedBefore extra unfit skipped (Version major minor) position read written
IsRefused extra unfit skipped (InCapture BadBlock position) reported read written =
    AreReportedBefore extra unfit skipped BadBlock position read written
IsRefused extra unfit skipped (InLine number) reported read written = ⊥

-- the lines of the packets of a capture, each before the next read. Where the whole capture is
-- reported, or refused at some position, or a write fails, this many packets were passed over
abbrev pub capture_to_lines : Extra → Unfit → Skipped → Task Refusal
capture_to_lines extra unfit skipped = record {
  room = INPUT_CAPACITY;
  due = AreReported extra unfit;
  full = λ reported read text. (state : State) × (rest : List ℕ)
      × (refusal : Option CaptureError) × (noted : Ledger)
      × Takes (blank extra) (Start unfit) read state rest text refusal noted
      × (skipped_in state ≡ skipped);
  whole = λ read written. (packets : List Packet) × IsCapture unfit read packets skipped
      × (written ≡ lines_of extra packets);
  out_of_memory = λ reported read written. (read ≡ []) × (written ≡ []) × (skipped ≡ none_skipped);
  refused = IsRefused extra unfit skipped;
}

-- the result of the end of the input, by the state of the capture and how many bytes are left
abbrev pub fault_at_end : State → ℕ → Result Unit CaptureError
fault_at_end (Start unfit) left = if nat_lt left FIRST_UNIT_LEN then Err NotCapture else Err CutOff
fault_at_end (Classic order time_unit link passing) zero = Ok tt
fault_at_end (Classic order time_unit link passing) (suc left) = Err CutOff
fault_at_end (Pcapng section) zero = Ok tt
fault_at_end (Pcapng section) (suc left) = Err CutOff

-- a fault of a capture, at this position
abbrev pub at_position : Position → Result Unit CaptureError → Result Unit Refusal
at_position position (Ok done) = Ok tt
at_position position (Err error) = Err (InCapture error position)

abbrev pub result_at_end : State → ℕ → Position → Result Unit Refusal
result_at_end state left position = at_position position (fault_at_end state left)

-- a run of at most this many reads from captures to lines that have this beside frames took a
-- device from old to new, and ended by this result, when this many packets were passed over
abbrev pub Runs : Extra → Unfit → Skipped → {D : Type 0} → (D → Call → D → Type 0) → ℕ → D → D
    → Result Unit RunError → Type 0
Runs extra unfit skipped transition limit old new result =
    Goes (capture_to_lines extra unfit skipped) transition limit old new (ending_of result)

-- calls took a device from old to new, and of what they read this many packets were passed over
pub record PassesOver (unfit : Unfit) (skipped : Skipped) {D : Type 0}
    (transition : D → Call → D → Type 0) (old new : D) : Type 0 where
  pub calls : List Call
  pub made : Makes transition old calls new
  pub passed : ArePassedOver unfit skipped (bytes_read calls)
