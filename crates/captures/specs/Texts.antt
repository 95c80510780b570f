-- A text of lines that give frames. Byte 0a ends a line, and isn't part of it.
use Rattle.std.specs.Prelude.{◌≡◌, ◌⊎◌, ℕ, ◌+◌, ◌<◌, ◌≤◌, ◌==◌, Bool, true, false, if◌then◌else◌, List, [], ◌∷◌, ◌++◌}
use Rattle.std.specs.Prelude.{length, Option, Some, None, Result}
use Rattle.std.specs.List.{flat_map}
use Rattle.lines.specs.Lines.{HasNoNewline}
use Rattle.device_runs.specs.Calls.{Call}
use Rattle.device_runs.specs.Runs.{Task, Goes}
use Rattle.captures.specs.declared.limits.TheConstants.{CAPTURED_LINE_LIMIT, INPUT_CAPACITY}
use Rattle.captures.specs.declared.translation.run_error.RunError.{RunError}
use Rattle.captures.specs.Endings.{ending_of}
use Rattle.captures.specs.declared.text.bad_line.BadLine.{BadLine}
use Rattle.captures.specs.declared.text.bad_line.LineFault.{LineFault}
use Rattle.captures.specs.declared.text.bad_line.LineFault.TheVariants.{NoFrame}
use Rattle.captures.specs.declared.translation.refusal.Refusal.{Refusal}
use Rattle.captures.specs.declared.translation.refusal.Refusal.TheVariants.{InCapture, InLine}
use Rattle.captures.specs.CapturedFrames.{CapturedFrame, captured_frame_of, fault_of}
use Rattle.captures.specs.declared.time.time_unit.TimeUnit.{TimeUnit}
use Rattle.captures.specs.Encoding.{record_of, capture_of}

abbrev pub is_newline : ℕ → Bool
is_newline byte = byte == 10

-- some lines, each ended by 0a
abbrev pub with_line_ends : List (List ℕ) → List ℕ
with_line_ends [] = []
with_line_ends (line ∷ lines) = line ++ 10 ∷ with_line_ends lines

-- lines that give these frames, one each
abbrev pub GiveFrames : List (List ℕ) → List CapturedFrame → Type 0
GiveFrames [] frames = frames ≡ []
GiveFrames (line ∷ lines) frames =
    (given : CapturedFrame) × (later : List CapturedFrame) × HasNoNewline line
    × (captured_frame_of line ≡ Some given) × GiveFrames lines later × (frames ≡ given ∷ later)

-- bytes begin with this many lines, which give these frames, and a rest follows them
pub record GivesFrames (bytes : List ℕ) (count : ℕ) (frames : List CapturedFrame)
    (rest : List ℕ) : Type 0 where
  pub lines : List (List ℕ)
  pub each : GiveFrames lines frames
  pub number : length lines ≡ count
  pub parts : bytes ≡ with_line_ends lines ++ rest

-- bytes that may become a line
abbrev pub IsIncompleteLine : List ℕ → Type 0
IsIncompleteLine bytes = HasNoNewline bytes × (length bytes ≤ CAPTURED_LINE_LIMIT)

-- the bytes begin with a line that gives no frame, for this reason
pub record HasBadLine (bytes : List ℕ) (fault : LineFault) : Type 0 where
  pub line : List ℕ
  pub rest : List ℕ
  pub parts : bytes ≡ line ++ 10 ∷ rest
  pub whole : HasNoNewline line
  pub none : captured_frame_of line ≡ None
  pub why : fault_of line ≡ fault

-- no line that gives a frame can be the first, whatever comes after these bytes
abbrev pub BeginsBadLine : List ℕ → LineFault → Type 0
BeginsBadLine bytes fault = HasBadLine bytes fault
    ⊎ (HasNoNewline bytes × (CAPTURED_LINE_LIMIT < length bytes) × (fault ≡ NoFrame))

-- after all lines that give frames: a line is incomplete, or gives no frame
abbrev pub IsLeftLine : Option LineFault → List ℕ → Type 0
IsLeftLine (Some fault) rest = BeginsBadLine rest fault
IsLeftLine None rest = IsIncompleteLine rest

-- all lines up to a bad one are taken, and this is what is written of their frames
pub record TakesLines (time_unit : TimeUnit) (bytes : List ℕ) (count : ℕ) (rest written : List ℕ)
    (fault : Option LineFault) : Type 0 where
  pub frames : List CapturedFrame
  pub gives_frames : GivesFrames bytes count frames rest
  pub encoded : written ≡ flat_map (record_of time_unit) frames
  pub left : IsLeftLine fault rest

abbrev pub ends_line : List ℕ → Bool
ends_line [] = true
ends_line (byte ∷ []) = byte == 10
ends_line (byte ∷ next ∷ bytes) = ends_line (next ∷ bytes)

-- the lines that bytes are where no more come: a last one that no 0a ends is a line all the same
abbrev pub with_last_line_end : List ℕ → List ℕ
with_last_line_end bytes = if ends_line bytes then bytes else bytes ++ 10 ∷ []

-- what is known of a text: these bytes, and whether no more come
abbrev pub known_text : Bool → List ℕ → List ℕ
known_text true bytes = with_last_line_end bytes
known_text false bytes = bytes

-- the bytes are a text whose lines give these frames, one each
abbrev pub IsText : List ℕ → List CapturedFrame → Type 0
IsText bytes frames = (count : ℕ) × GivesFrames (with_last_line_end bytes) count frames []

-- all frames of the whole lines in bytes are written, after the file header, and an incomplete line
-- is left
abbrev pub AreWritten : TimeUnit → List ℕ → List ℕ → Type 0
AreWritten time_unit bytes written =
    (count : ℕ) × (frames : List CapturedFrame) × (rest : List ℕ) × GivesFrames bytes count frames rest
    × IsIncompleteLine rest × (written ≡ capture_of time_unit frames)

-- the frames of all lines before the one with this number are written, and that one gives none
abbrev pub AreWrittenBefore : TimeUnit → BadLine → List ℕ → List ℕ → Type 0
AreWrittenBefore time_unit line bytes written =
    (count : ℕ) × (frames : List CapturedFrame) × (rest : List ℕ) × GivesFrames bytes count frames rest
    × BeginsBadLine rest line.fault × (line.number ≡ count + 1)
    × (written ≡ capture_of time_unit frames)

-- what is written where the text is refused
abbrev pub IsRefusedText : TimeUnit → Refusal → Bool → List ℕ → List ℕ → Type 0
IsRefusedText time_unit (InCapture error position) reported read written = ⊥
IsRefusedText time_unit (InLine line) reported read written =
    AreWrittenBefore time_unit line (known_text reported read) written

-- the capture of the frames that lines give, those of all whole lines before the next read
abbrev pub lines_to_capture : TimeUnit → Task Refusal
lines_to_capture time_unit = record {
  room = INPUT_CAPACITY;
  due = AreWritten time_unit;
  full = λ reported read text. (count : ℕ) × (frames : List CapturedFrame) × (rest : List ℕ)
      × GivesFrames (known_text reported read) count frames rest × (text ≡ capture_of time_unit frames);
  whole = λ read written. (frames : List CapturedFrame) × IsText read frames
      × (written ≡ capture_of time_unit frames);
  out_of_memory = λ reported read written. (read ≡ []) × (written ≡ []);
  refused = IsRefusedText time_unit;
}

-- a run of at most this many reads from lines to a capture took a device from old to new, and ended
-- by this result
abbrev pub WritesCapture : TimeUnit → {D : Type 0} → (D → Call → D → Type 0) → ℕ → D → D
    → Result Unit RunError → Type 0
WritesCapture time_unit transition limit old new result =
    Goes (lines_to_capture time_unit) transition limit old new (ending_of result)
