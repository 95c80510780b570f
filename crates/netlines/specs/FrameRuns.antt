-- A run over the lines of its input, where each line gets its answer after those before it.
use Rattle.std.specs.Prelude.{ℕ, ◌≤◌, List, length, Option, Result, IfSome, OnOk, IsErrOf}
use Rattle.std.specs.Io.KnownBytes.{Appends, IsAtEnd}
use Rattle.device_runs.specs.Calls.{Call}
use Rattle.device_runs.specs.Known.{KnownCall, known_of}
use Rattle.device_runs.specs.Known as known
use Rattle.lines.specs.Endings.{ending_of}
use Rattle.lines.specs.AnswerRuns.{RunsBy, answer_task}
use Rattle.lines.specs.declared.run_error.RunError.{RunError}
use Rattle.lines.specs.declared.run_error.RunError.TheVariants.{TooManyReads}
use Rattle.netlines.specs.Answers.{answers_of, frame_meaning}

-- a run of at most so many reads took a device from old to new, and ended by this result
abbrev pub Runs : {D : Type 0} → (D → Call → D → Type 0) → ℕ → D → D → Result Unit RunError → Type 0
Runs transition limit old new result = RunsBy transition frame_meaning limit old new result

-- the bytes that a run with this result read, and those that it wrote
abbrev pub Transfers : Option (List ℕ) → Option (List ℕ) → Option (List ℕ) → Option (List ℕ)
    → Result Unit RunError → Type 0
Transfers input input' output output' result =
    known.Transfers (answer_task frame_meaning) input input' output output' (ending_of result)

-- a run of at most so many reads over a reader and a writer, which ended by this result: the
-- clauses of `run`
pub record RunsWithin (limit : ℕ) (input input' output output' : Option (List ℕ))
    (result : Result Unit RunError) : Type 0 where
  pub ok : OnOk result (IfSome input (λ all. Appends output output' (answers_of all)))
  pub end : OnOk result (IsAtEnd input')
  pub bytes : Transfers input input' output output' result
  pub calls : Runs KnownCall limit (known_of input output) (known_of input' output') result
  pub too_many : IsErrOf result TooManyReads → IfSome input (λ all. limit ≤ length all)
