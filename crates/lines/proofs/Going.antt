-- A run, call by call.
use Rattle.std.proofs.Common.{◌≡◌, ◌∙◌, sym, ap, refl, subst, ℕ, ◌+◌, ◌<◌, ◌≤◌, arith, Bool, true, [], false, List, ◌∷◌}
use Rattle.std.proofs.Common.{◌++◌, length, Some, None, Result, Err, IfSome, inl, inr, ◌*◌, ◌^◌, length-append}
use Rattle.std.specs.Prelude.{OnOk}
use Rattle.std.specs.Io.KnownBytes.{Appends}
use Rattle.device_runs.specs.Calls.{Call, Reads, Writes, bytes_given, bytes_read, read_count}
use Rattle.device_runs.specs.Endings.{Ending, OutOfMemory}
use Rattle.device_runs.specs.Known.{Known, KnownCall}
use Rattle.device_runs.specs.Runs.{EachFollows, Goes}
use Rattle.device_runs.specs.Writes.{Written}
use Rattle.device_runs.proofs.Going.{Going, going_start, going_chunk, going_end, going_write, going_ends, going_stops}
use Rattle.device_runs.proofs.Going.{going_unread, going_all, goes_nothing}
use Rattle.device_runs.proofs.CallLemmas.{read_count-append}
use Rattle.device_runs.proofs.KnownLemmas.{goes_ok}
use Rattle.lines.specs.declared.run_error.RunError.{RunError}
use Rattle.lines.specs.declared.run_error.RunError.TheVariants.{Read, Memory, TooManyReads}
use Rattle.lines.specs.declared.limits.TheConstants.{READ_SIZE_LIMIT}
use Rattle.device_runs.specs.declared.limits.TheConstants.{READ_COUNT_LIMIT}
use Rattle.lines.specs.Endings.{cause}
use Rattle.lines.specs.Lines.{split, last_line, ended_lines_of}
use Rattle.lines.specs.LineAnswers.{EndsBefore, Meaning, answers_to_later, answers_to_text, answers_to_ended}
use Rattle.lines.specs.LineAnswers.{whole_lines_of}
use Rattle.lines.specs.AnswerRuns.{NumbersFit, RunsBy, answer_task}
use Rattle.lines.specs.Writes.{Serves}
use Rattle.lines.proofs.AnswersLemmas.{EndsBefore-after, ended-append, answers_to_ended-append, answers_to_ended-nil}
use Rattle.lines.proofs.AnswersLemmas.{answers_to_text-parts, whole_lines_of-nil}
use Rattle.lines.proofs.SplitLemmas.{ended_count, split-append, split-nil}
use Rattle.lines.proofs.WriteLemmas.{Serves-cases, cause_fails}

not_nil : (before : List (List ℕ)) (line : List ℕ) (later : List (List ℕ))
    → before ++ line ∷ later ≡ [] → ⊥
not_nil [] line later none = cc
not_nil (x ∷ before) line later none = cc

-- where a line is whole something was read
some_line : {m : Meaning} (end_reported : Bool) (read written : List ℕ)
    → EndsBefore m [] (whole_lines_of end_reported read) written → read ≡ [] → ⊥
some_line end_reported read written ends nothing = grind (arith, not_nil, whole_lines_of-nil)

-- what these reads give
few_bytes : (m : Meaning) (before calls : List Call) → EachFollows (answer_task m) before calls
    → length (bytes_read calls) ≤ READ_SIZE_LIMIT * read_count calls
few_bytes m before [] each = omega arith
few_bytes m before (Reads given ∷ calls) each =
    omega (
      arith,
      few_bytes m (before ++ Reads given ∷ []) calls each.1,
      each.0.1,
      read_count-append (Reads given ∷ []) calls,
      length-append (bytes_given (Reads given)) (bytes_read calls),
    )
few_bytes m before (Writes bytes taken ∷ calls) each =
    few_bytes m (before ++ Writes bytes taken ∷ []) calls each.1

-- the lines of as many reads as a run may make can be numbered
pub numbers_fit : {D : Type 0} (transition : D → Call → D → Type 0) (m : Meaning) (limit : ℕ)
    (old : D) → limit ≤ READ_COUNT_LIMIT → NumbersFit transition m limit old
numbers_fit transition m limit old le new calls made each reads =
    let few = few_bytes m [] calls each in omega arith

module _ {D : Type 0} (transition : D → Call → D → Type 0) (m : Meaning) where
  -- so many reads are answered, and the line that they have started is kept
  pub record Answered (count : ℕ) (old new : D) (kept : List (List ℕ) → List ℕ → Type 0)
      (waiting : List ℕ) : Type 0 where
    pub came : List ℕ
    pub going : Going (answer_task m) transition came (answers_to_ended m came) false count old new
    pub keeps : kept (ended_lines_of came) (split came).rest
    pub none : waiting ≡ []

  -- memory runs out for the answer to a line, and those before it are written
  going_lacks : (limit : ℕ) (read written : List ℕ) (end_reported : Bool) (count : ℕ) (old mid new : D)
      → Going (answer_task m) transition read written end_reported count old mid → count ≤ limit
      → (text : List ℕ) → Written transition mid text new
      → EndsBefore m [] (whole_lines_of end_reported read) (written ++ text)
      → RunsBy transition m limit old new (Err Memory)
  going_lacks limit read written end_reported count old mid new g fits text w ends =
      let done = going_write (answer_task m) transition read written end_reported count old mid new g text w
      in
      going_ends (answer_task m) transition limit read
      (written ++ text) end_reported count old new done OutOfMemory fits (
        done.faults,
        λ nothing. absurd
            (some_line end_reported read (written ++ text) ends (sym done.gave ∙ nothing)),
      ) (inr ends)

  pub answered_start : (old : D) (kept : List (List ℕ) → List ℕ → Type 0) (waiting : List ℕ)
      → kept [] [] → waiting ≡ [] → Answered 0 old old kept waiting
  answered_start old kept waiting keeps none =
      grind (arith, answers_to_ended-nil, going_start, split-nil)

  module _ (n : ℕ) (old mid later new : D) (kept : List (List ℕ) → List ℕ → Type 0)
      (waiting : List ℕ) (a : Answered n old mid kept waiting) where
    abbrev earlier : List (List ℕ)
    earlier = ended_lines_of a.came

    module _ (chunk : List ℕ) (call : transition mid (Reads (Some chunk)) later)
        (size : length chunk ≤ READ_SIZE_LIMIT) (some : 0 < length chunk) where
      abbrev here : List (List ℕ)
      here = ended_lines_of ((split a.came).rest ++ chunk)

      after_read : Going (answer_task m) transition (a.came ++ chunk)
          (answers_to_ended m a.came) false (n + 1) old later
      after_read = going_chunk (answer_task m) transition a.came
          (answers_to_ended m a.came) n old mid later a.going refl chunk call size some

      -- the lines of a chunk can be numbered,
      pub answered_numbers : (limit : ℕ) → n < limit → NumbersFit transition m limit old
          → (count : ℕ) → count ≡ length (ended_lines_of a.came) → count + length chunk < 2 ^ 64
      answered_numbers limit fits numbers count counted =
          let reads = after_read.reads in
          let few = numbers later after_read.calls after_read.made after_read.each (omega arith) in
          let came = ap length after_read.gave in
          let lines = ended_count a.came in
          let both = length-append a.came chunk in
          omega arith

      -- and where it is read, the lines that end in it are answered
      pub answered_more : Written transition later
          (answers_to_later m.answer (ended_lines_of a.came)
          (ended_lines_of ((split a.came).rest ++ chunk))) new
          → (kept' : List (List ℕ) → List ℕ → Type 0) (waiting' : List ℕ)
          → kept' (ended_lines_of a.came ++ ended_lines_of ((split a.came).rest ++ chunk))
          (split ((split a.came).rest ++ chunk)).rest
          → waiting' ≡ [] → Answered (n + 1) old new kept' waiting'
      answered_more more kept' waiting' keeps none = record {
        came = a.came ++ chunk;
        going =
            grind (arith, answers_to_ended-append, going_write, after_read);
        keeps = grind (arith, split-append);
        none = none;
      }

      -- a write stops before they are answered, or memory runs out for one of them
      pub answered_stops : (limit : ℕ) → n < limit → (e : RunError)
          → Serves transition m later (ended_lines_of a.came)
          (ended_lines_of ((split a.came).rest ++ chunk)) (cause e) new
          → RunsBy transition m limit old new (Err e)
      answered_stops limit fits e fails =
          let read = a.came ++ chunk in
          let written = answers_to_ended m a.came in
          Serves-cases transition (λ ending. Goes (answer_task m) transition limit old new ending)
          later new m earlier here (cause e)
          (λ is done. absurd (cause_fails e is))
          (λ answers ends w. going_lacks limit read written false (n + 1) old later new after_read
          (omega arith) answers w
          (subst (λ ls. EndsBefore m [] ls (written ++ answers)) (sym (ended-append a.came chunk))
          (EndsBefore-after m [] earlier here answers ends)))
          (λ fault stops. going_stops (answer_task m) transition limit read written false
          (n + 1) old later new after_read (omega arith) (answers_to_later m.answer earlier here) fault
          (answers_to_ended-append m a.came chunk) stops)
          fails

    module _ (limit : ℕ) (fits : n < limit) where
      -- a last line can be numbered,
      pub answered_number : NumbersFit transition m limit old → (count : ℕ)
          → count ≡ length (ended_lines_of a.came) → count + 1 < 2 ^ 64
      answered_number numbers count counted = grind (arith, ended_count)

      -- and where the end is reported, it is answered
      pub answered_end : (chunk : List ℕ) → chunk ≡ []
          → transition mid (Reads (Some chunk)) later → (ending : Ending ⊥)
          → Serves transition m later (ended_lines_of a.came)
          (last_line (split a.came).rest) ending new
          → Goes (answer_task m) transition limit old new ending
      answered_end chunk none call ending served =
          let read = a.came in
          let written = answers_to_ended m a.came in
          let line = last_line (split a.came).rest in
          let last = answers_to_later m.answer earlier line in
          let after_read = going_end (answer_task m) transition read written n old mid later a.going
          refl chunk none call in
          Serves-cases transition (λ ending. Goes (answer_task m) transition limit old new ending)
          later new m earlier line ending
          (λ is w.
          let done = going_write (answer_task m) transition read written true
          (n + 1) old later new after_read last w in
          grind (arith, going_ends, answers_to_text-parts))
          (λ answers ends w. going_lacks limit read written true (n + 1) old later new after_read
          (omega arith) answers w (EndsBefore-after m [] earlier line answers ends))
          (λ fault stops. going_stops (answer_task m) transition limit read written true
          (n + 1) old later new after_read (omega arith) last fault
          (answers_to_text-parts m read) stops)
          served

      -- a read fails
      pub answered_fails : transition mid (Reads None) new
          → RunsBy transition m limit old new (Err Read)
      answered_fails call = going_unread (answer_task m) transition limit a.came
          (answers_to_ended m a.came) n old mid new a.going refl call fits

  -- as many reads as may be are made
  pub answered_all : (limit : ℕ) (old new : D) (kept : List (List ℕ) → List ℕ → Type 0)
      (waiting : List ℕ) → Answered limit old new kept waiting
      → RunsBy transition m limit old new (Err TooManyReads)
  answered_all limit old new kept waiting a =
      going_all (answer_task m) transition limit a.came
      (answers_to_ended m a.came) old new a.going refl

-- nothing is called
pub runs_nothing : {D : Type 0} (transition : D → Call → D → Type 0) (m : Meaning) (limit : ℕ)
    (old : D) → RunsBy transition m limit old old (Err Memory)
runs_nothing transition m limit old =
    goes_nothing (answer_task m) transition limit old (inl (refl, refl))

-- where a run is done, all lines are answered
pub runs_ok : (m : Meaning) (limit : ℕ) (a b : Known) (result : Result Unit RunError)
    → RunsBy KnownCall m limit a b result
    → OnOk result (IfSome a.input (λ bytes. Appends a.output b.output (answers_to_text m bytes)))
runs_ok m limit a b result runs =
    goes_ok (answer_task m) cause limit a b
    (λ bytes. Appends a.output b.output (answers_to_text m bytes))
    (λ read written whole appended. subst (Appends a.output b.output) whole appended) result runs
