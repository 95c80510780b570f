-- What a run does to known bytes.
use Rattle.std.proofs.Common.{◌≡◌, subst, ℕ, List, Option, Result, IfSome}
use Rattle.std.specs.Prelude.{OnOk}
use Rattle.std.specs.Io.KnownBytes.{Appends, Consumes}
use Rattle.device_runs.specs.Known.{Known, KnownCall, known_of}
use Rattle.device_runs.specs.Calls.{bytes_read}
use Rattle.device_runs.specs.declared.device.ReaderWriter.{ReaderWriter}
use Rattle.device_runs.proofs.KnownLemmas.{Makes-map, goes_ok, known_read}
use Rattle.captures.specs.declared.skipped.Skipped.{Skipped}
use Rattle.captures.specs.declared.translation.run_error.RunError.{RunError}
use Rattle.captures.specs.declared.unfit.Unfit.{Unfit}
use Rattle.captures.specs.Endings.{cause}
use Rattle.captures.specs.Lines.{Packet, lines_of}
use Rattle.captures.specs.CaptureRuns.{ArePassedOver, IsCapture, PassesOver, Runs, capture_to_lines}
use Rattle.captures.specs.Encoding.{capture_of}
use Rattle.captures.specs.CapturedFrames.{CapturedFrame}
use Rattle.captures.specs.Texts.{IsText, WritesCapture, lines_to_capture}
use Rattle.captures.specs.declared.extra.Extra.{Extra}
use Rattle.captures.specs.declared.time.time_unit.TimeUnit.{TimeUnit}

pub runs_ok : (extra : Extra) (unfit : Unfit) (skipped : Skipped) (limit : ℕ) (a b : Known)
    (result : Result Unit RunError) → Runs extra unfit skipped KnownCall limit a b result
    → OnOk result (IfSome a.input (λ bytes. (packets : List Packet)
    × IsCapture unfit bytes packets skipped × Appends a.output b.output (lines_of extra packets)))
runs_ok extra unfit skipped limit a b result runs =
    goes_ok (capture_to_lines extra unfit skipped) cause limit a b (λ bytes. (packets : List Packet)
    × IsCapture unfit bytes packets skipped × Appends a.output b.output (lines_of extra packets))
    (λ read written whole appended.
    (whole.0, whole.1, subst (Appends a.output b.output) whole.2 appended)) result runs

pub writes_ok : (time_unit : TimeUnit) (limit : ℕ) (a b : Known) (result : Result Unit RunError)
    → WritesCapture time_unit KnownCall limit a b result
    → OnOk result (IfSome a.input (λ bytes. (frames : List CapturedFrame) × IsText bytes frames
    × Appends a.output b.output (capture_of time_unit frames)))
writes_ok time_unit limit a b result runs =
    goes_ok (lines_to_capture time_unit) cause limit a b (λ bytes. (frames : List CapturedFrame) × IsText bytes
    frames
    × Appends a.output b.output (capture_of time_unit frames))
    (λ read written whole appended.
    (whole.0, whole.1, subst (Appends a.output b.output) whole.2 appended)) result runs

-- the calls of a run over a reader and a writer, of which the known bytes are seen
pub passed_known : {A B : Type 0} (remaining : A → Option (List ℕ))
    (contents : B → Option (List ℕ)) → let known = (λ (s : ReaderWriter A B).
    known_of (remaining s.reader.now) (contents s.writer.now)) in
    (unfit : Unfit) (skipped : Skipped) (old new : ReaderWriter A B)
    → PassesOver unfit skipped (λ s call t. (t.reader.ghost_name ≡ s.reader.ghost_name)
    × (t.writer.ghost_name ≡ s.writer.ghost_name) × KnownCall (known s) call (known t)) old new
    → (read : List ℕ) × Consumes (remaining old.reader.now) (remaining new.reader.now) read
    × ArePassedOver unfit skipped read
passed_known {A} {B} remaining contents unfit skipped old new p = (
  bytes_read p.calls,
  known_read _ _ p.calls (Makes-map _ KnownCall (λ (s : ReaderWriter A B).
      known_of (remaining s.reader.now) (contents s.writer.now)) (λ s t call h. h.2)
      old new p.calls p.made),
  p.passed,
)
