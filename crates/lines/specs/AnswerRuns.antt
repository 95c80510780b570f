-- A run over the lines of its input, which are answered.
use Rattle.std.specs.Prelude.{◌≡◌, ◌⊎◌, ℕ, ◌+◌, ◌<◌, ◌≤◌, ◌^◌, Bool, List, [], length, Result}
use Rattle.device_runs.specs.Calls.{Call, Makes, bytes_read, read_count}
use Rattle.device_runs.specs.Runs.{Task, IsOutcome, EachFollows, Goes}
use Rattle.lines.specs.declared.run_error.RunError.{RunError}
use Rattle.lines.specs.declared.limits.TheConstants.{READ_SIZE_LIMIT}
use Rattle.lines.specs.Endings.{ending_of}
use Rattle.lines.specs.LineAnswers.{Meaning, EndsBefore, answers_to_later, answers_to_text, answers_to_ended}
use Rattle.lines.specs.LineAnswers.{whole_lines_of}

-- the answers to lines that mean this: those to the lines that 0a ends before the next read, and
-- all at the end
abbrev pub answer_task : Meaning → Task ⊥
answer_task meaning = record {
  room = READ_SIZE_LIMIT;
  due = λ read written. written ≡ answers_to_ended meaning read;
  full = λ end_reported read text. answers_to_later meaning.answer [] (whole_lines_of end_reported read) ≡ text;
  whole = λ read written. written ≡ answers_to_text meaning read;
  out_of_memory = λ end_reported read written. ((read ≡ []) × (written ≡ []))
      ⊎ EndsBefore meaning [] (whole_lines_of end_reported read) written;
  refused = λ reason end_reported read written. ⊥;
}

-- what a run that ends by this result has written
abbrev pub IsOutput : Meaning → Result Unit RunError → Bool → List ℕ → List ℕ → Type 0
IsOutput meaning result end_reported read written =
    IsOutcome (answer_task meaning) (ending_of result) end_reported read written

-- a run of at most so many reads, whose lines mean this, took a device from old to new, and ended
-- by this result
abbrev pub RunsBy : {D : Type 0} → (D → Call → D → Type 0) → Meaning → ℕ → D → D
    → Result Unit RunError → Type 0
RunsBy transition meaning limit old new result =
    Goes (answer_task meaning) transition limit old new (ending_of result)

-- so many reads give fewer bytes than 64 bits count, so that each line has its number
abbrev pub NumbersFit : {D : Type 0} → (D → Call → D → Type 0) → Meaning → ℕ → D → Type 0
NumbersFit {D} transition meaning limit old = (new : D) (calls : List Call)
    → Makes transition old calls new → EachFollows (answer_task meaning) [] calls
    → read_count calls ≤ limit → length (bytes_read calls) + 1 < 2 ^ 64
