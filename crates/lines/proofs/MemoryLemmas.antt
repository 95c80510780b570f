-- A run over a device in memory.
use Rattle.std.proofs.Common.{◌≡◌, ◌∙◌, ap, subst, ℕ, ◌+◌, ◌≤◌, arith, zero, suc, List, ◌∷◌, [], ◌++◌, ◌<◌, ◌^◌, length}
use Rattle.std.proofs.Common.{length-append, Some, None, Ok, Err}
use Rattle.device_runs.specs.declared.fault.Fault.TheVariants.{ReadFailed, NothingTaken}
use Rattle.device_runs.specs.Calls.{Call, Reads, Writes, Makes, bytes_read, faults_of}
use Rattle.device_runs.specs.Endings.{Ending, Done, OutOfReads}
use Rattle.device_runs.specs.Known.{Known, KnownCall, known_of}
use Rattle.device_runs.specs.Runs.{EachFollows, Goes}
use Rattle.device_runs.proofs.KnownLemmas.{Goes-map, goes_too_many, known_read}
use Rattle.lines.specs.declared.run_error.RunError.{RunError}
use Rattle.lines.specs.declared.run_error.RunError.TheVariants.{Read, WriteZero, TooManyReads}
use Rattle.lines.specs.Known.{MemoryCall}
use Rattle.lines.specs.LineAnswers.{Meaning, answers_to_text}
use Rattle.lines.specs.AnswerRuns.{RunsBy, answer_task}
use Rattle.lines.proofs.Going.{runs_ok}

-- no more bytes are read than there are
pub memory_fits : (text rest start output : List ℕ) (calls : List Call)
    → Makes KnownCall (known_of (Some text) (Some start)) calls (known_of (Some rest) (Some output))
    → length text + 1 < 2 ^ 64 → length (bytes_read calls) + 1 < 2 ^ 64
memory_fits text rest start output calls made few = grind (arith, known_read, length-append)

-- no read of a device in memory is a fault
no_read : (a b : Known) (calls : List Call) → Makes MemoryCall a calls b
    → faults_of calls ≡ ReadFailed ∷ [] → ⊥
no_read a b [] made faults = cc
no_read a b (Reads None ∷ calls) made faults = made.1.1
no_read a b (Reads (Some bytes) ∷ calls) made faults = no_read made.0 b calls made.2 faults
no_read a b (Writes bytes None ∷ calls) made faults = cc
no_read a b (Writes bytes (Some zero) ∷ calls) made faults = cc
no_read a b (Writes bytes (Some (suc n)) ∷ calls) made faults = no_read made.0 b calls made.2 faults

module _ (m : Meaning) where
  known_run : (limit : ℕ) (a b : Known) (ending : Ending ⊥)
      → Goes (answer_task m) MemoryCall limit a b ending
      → Goes (answer_task m) KnownCall limit a b ending
  known_run limit a b ending runs = Goes-map (answer_task m) MemoryCall KnownCall (λ s. s)
      (λ s t call moved. moved.0) limit a b ending runs

  -- what is written into an empty vector is the answers
  pub memory_ok : (limit : ℕ) (text start rest output : List ℕ) → start ≡ []
      → RunsBy MemoryCall m limit (known_of (Some text) (Some start)) (known_of (Some rest) (Some output))
      (Ok tt) → output ≡ answers_to_text m text
  memory_ok limit text start rest output empty runs =
      runs_ok m limit (known_of (Some text) (Some start)) (known_of (Some rest) (Some output)) (Ok tt)
      (known_run limit _ _ Done runs)
      ∙ ap (λ l. l ++ answers_to_text m text) empty

  -- no read is a fault,
  pub memory_read : (limit : ℕ) (a b : Known) (e : RunError)
      → RunsBy MemoryCall m limit a b (Err e) → e ≡ Read → ⊥
  memory_read limit a b e runs is = grind (arith, no_read)

  -- and no write of some bytes takes none
  no_write_zero : (before : List Call) (a b : Known) (calls : List Call)
      → EachFollows (answer_task m) before calls → Makes MemoryCall a calls b
      → faults_of calls ≡ NothingTaken ∷ [] → ⊥
  no_write_zero before a b [] each made faults = cc
  no_write_zero before a b (Reads None ∷ calls) each made faults = cc
  no_write_zero before a b (Reads (Some bytes) ∷ calls) each made faults =
      no_write_zero (before ++ Reads (Some bytes) ∷ []) made.0 b calls each.1 made.2 faults
  no_write_zero before a b (Writes bytes None ∷ calls) each made faults = cc
  no_write_zero before a b (Writes bytes (Some zero) ∷ calls) each made faults = grind arith
  no_write_zero before a b (Writes bytes (Some (suc n)) ∷ calls) each made faults =
      no_write_zero (before ++ Writes bytes (Some (suc n)) ∷ []) made.0 b calls each.1 made.2 faults

  pub memory_write_zero : (limit : ℕ) (a b : Known) (e : RunError)
      → RunsBy MemoryCall m limit a b (Err e) → e ≡ WriteZero → ⊥
  memory_write_zero limit a b e runs is = grind (arith, no_write_zero)

  -- one read more than there are bytes reports the end
  pub memory_too_many : (text output : List ℕ) (b : Known) (e : RunError)
      → RunsBy MemoryCall m (length text + 1) (known_of (Some text) (Some output)) b (Err e)
      → e ≡ TooManyReads → ⊥
  memory_too_many text output b e runs is =
      let ended = subst (λ e. RunsBy MemoryCall m (length text + 1)
      (known_of (Some text) (Some output)) b (Err e)) is runs in
      let le : length text + 1 ≤ length text =
      goes_too_many (answer_task m) (length text + 1) (known_of (Some text) (Some output))
      b
      (known_run _ _ _ OutOfReads ended) in
      omega arith
