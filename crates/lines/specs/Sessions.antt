-- A text that comes in chunks, and the answers to its lines that are returned.
use Rattle.std.specs.Prelude.{◌≡◌, ◌⊎◌, ℕ, ◌+◌, ◌^◌, ◌<◌, ◌≤◌, Bool, true, false, List, [], ◌++◌, length, take, Some}
use Rattle.std.specs.Prelude.{None, vec_capacity}
use Rattle.std.specs.declared.vec.Vec.{Vec}
use Rattle.lines.specs.Lines.{ended_lines_of, split}
use Rattle.lines.specs.LineAnswers.{Started, EndsBefore, Meaning, answers_to_later, answers_to_text, answers_to_ended}
use Rattle.device_runs.specs.Calls.{Call, Reads, Writes}
use Rattle.lines.specs.declared.session.Session.{Session}

-- a write appends its bytes, or fails where there is no memory for them; nothing is read
abbrev pub Waits : {A : Type 0} → Vec ℕ A → Call → Vec ℕ A → Type 0
Waits old (Reads given) new = new ≡ old
Waits old (Writes bytes None) new = vec_capacity old < length old.items + length bytes
Waits old (Writes bytes (Some n)) new = (n ≡ length bytes)
    × (new.items ≡ old.items ++ take n bytes) × (vec_capacity old ≤ vec_capacity new)

-- the answers to a text that goes on, or to one that has ended
abbrev pub answers : Meaning → Bool → List ℕ → List ℕ
answers meaning false text = answers_to_ended meaning text
answers meaning true text = answers_to_text meaning text

-- no answer waits to be written before those that are to be returned
abbrev pub IsWrittenOut : {A : Type 0} → Session A → Type 0
IsWrittenOut s = s.has_ended ≡ false → s.lines.answers ≡ []

-- a session took this text, and has returned these bytes of the answers to it: the others wait
pub record Took {A : Type 0} (meaning : Meaning) (shows : A → List (List ℕ) → List ℕ → Type 0)
    (s : Session A) (text returned : List ℕ) : Type 0 where
  pub goes_on : s.has_ended ≡ false → Started (shows s.lines.answerer) s.lines.count
      s.lines.has_started (ended_lines_of text) (split text).rest
  pub waits : answers meaning s.has_ended text ≡ returned ++ s.waiting.output.items

-- why a session is out of memory at these lines, which come after others: memory may run out for
-- one of them, or there is none for the answers to them after those that wait
abbrev pub IsOutOfMemory : {A : Type 0} → Meaning → Session A → (earlier lines : List (List ℕ)) → Type 0
IsOutOfMemory meaning s earlier lines = ((before : List ℕ) × EndsBefore meaning earlier lines before)
    ⊎ (vec_capacity s.waiting.output
    < length s.waiting.output.items + length (answers_to_later meaning.answer earlier lines))

-- or so many bytes more may end lines that can't be counted
abbrev pub RunsOut : {A : Type 0} → Meaning → Session A → (earlier lines : List (List ℕ))
    → (more : ℕ) → Type 0
RunsOut meaning s earlier lines more =
    (2 ^ 64 ≤ length earlier + more + 1) ⊎ IsOutOfMemory meaning s earlier lines
