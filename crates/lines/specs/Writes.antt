-- What becomes of answers that wait to be written.
use Rattle.std.specs.Prelude.{◌≡◌, ℕ, Bool, true, List, ◌++◌}
use Rattle.device_runs.specs.Calls.{Call}
use Rattle.device_runs.specs.Endings.{Ending, Done, Stopped, OutOfMemory, OutOfReads, Refused}
use Rattle.device_runs.specs.Writes.{Written, Stops}
use Rattle.lines.specs.LineAnswers.{Meaning, EndsBefore, answers_to_later}

-- bytes are added to those that wait, and of all these a prefix is written and the rest waits;
-- where memory runs out for them, all that waits is written
abbrev pub Gathers : {D : Type 0} → (D → Call → D → Type 0) → Bool → D → List ℕ → List ℕ
    → Ending ⊥ → List ℕ → D → Type 0
Gathers transition takes old waiting bytes Done waiting' new =
    (prefix : List ℕ) × Written transition old prefix new × (waiting ++ bytes ≡ prefix ++ waiting')
Gathers transition takes old waiting bytes (Stopped fault) waiting' new =
    Stops transition fault old (waiting ++ bytes) new
Gathers transition takes old waiting bytes OutOfMemory waiting' new = (takes ≡ true)
    × Written transition old waiting new
Gathers transition takes old waiting bytes OutOfReads waiting' new = ⊥
Gathers transition takes old waiting bytes (Refused reason) waiting' new = ⊥

-- the answers to these lines are written, or those before a line for which memory runs out, or a
-- write before the last of them ends the run
abbrev pub Serves : {D : Type 0} → (D → Call → D → Type 0) → Meaning → D → List (List ℕ)
    → List (List ℕ) → Ending ⊥ → D → Type 0
Serves transition meaning old earlier lines Done new =
    Written transition old (answers_to_later meaning.answer earlier lines) new
Serves transition meaning old earlier lines (Stopped fault) new =
    Stops transition fault old (answers_to_later meaning.answer earlier lines) new
Serves transition meaning old earlier lines OutOfMemory new =
    (answers : List ℕ) × EndsBefore meaning earlier lines answers
    × Written transition old answers new
Serves transition meaning old earlier lines OutOfReads new = ⊥
Serves transition meaning old earlier lines (Refused reason) new = ⊥
