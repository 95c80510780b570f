-- Texts that go on, and what waits of the answers to them.
use Rattle.std.proofs.Common.{◌≡◌, ◌∙◌, sym, ap, subst, ℕ, Bool, List, ◌∷◌, ◌++◌, Some, None, [], append_assoc}
use Rattle.std.proofs.Common.{append-nil, arith, false, inl, inr, length, length-append, Err, Option, ◌+◌, ◌<◌, ◌≤◌}
use Rattle.std.proofs.Common.{vec_capacity}
use Rattle.std.specs.List.{AllByRecursion}
use Rattle.lines.specs.Lines.{ended_lines_of, split}
use Rattle.lines.specs.Endings.{ending_of}
use Rattle.lines.specs.LineAnswers.{Started, Meaning}
use Rattle.lines.specs.Writes.{Serves}
use Rattle.lines.specs.declared.run_error.RunError.{RunError}
use Rattle.lines.specs.declared.run_error.RunError.TheVariants.{Memory, Read, TooManyReads, Write, WriteZero}
use Rattle.device_runs.specs.Calls.{Call, Makes, Reads, Writes, bytes_written, fault_of}
use Rattle.device_runs.specs.Writes.{Stops, TakesBytes, Written}
use Rattle.device_runs.specs.declared.fault.Fault.{Fault}
use Rattle.device_runs.specs.declared.fault.Fault.TheVariants.{NothingTaken, ReadFailed, WriteFailed}
use Rattle.lines.specs.Sessions.{Took, Waits, IsOutOfMemory, answers}
use Rattle.lines.specs.declared.session.Session.{Session}
use Rattle.lines.specs.declared.session.Waiting.{Waiting}

abbrev transition : Waiting → Call → Waiting → Type 0
transition s call t = Waits s.output call t.output

appended : (a b : Waiting) (calls : List Call) → Makes transition a calls b
    → AllByRecursion TakesBytes calls → b.output.items ≡ a.output.items ++ bytes_written calls
appended a b [] made each = grind (arith, append-nil)
appended a b (Reads given ∷ calls) made each = absurd each.0
appended a b (Writes bytes None ∷ calls) made each = absurd each.0
appended a b (Writes bytes (Some n) ∷ calls) made each =
    grind (arith, appended made.0 b calls made.2 each.1, append_assoc)

no_less : (a b : Waiting) (calls : List Call) → Makes transition a calls b
    → AllByRecursion TakesBytes calls → vec_capacity a.output ≤ vec_capacity b.output
no_less a b [] made each = rw (ap (λ (w : Waiting). vec_capacity w.output) made) (omega arith)
no_less a b (Reads given ∷ calls) made each = absurd each.0
no_less a b (Writes bytes None ∷ calls) made each = absurd each.0
no_less a b (Writes bytes (Some n) ∷ calls) made each =
    omega (arith, made.1.2, no_less made.0 b calls made.2 each.1)

-- a write fails only where there is no memory for all bytes that are to wait
stop_full : (mid new : Waiting) (offered : List ℕ) (taken : Option ℕ) (fault : Fault)
    → transition mid (Writes offered taken) new → 0 < length offered
    → fault_of (Writes offered taken) ≡ Some fault
    → vec_capacity mid.output < length mid.output.items + length offered
stop_full mid new offered taken fault stop some is = grind arith

full : (a b : Waiting) (fault : Fault) (bytes : List ℕ) → Stops transition fault a bytes b
    → vec_capacity a.output < length a.output.items + length bytes
full a b fault bytes s = grind (arith, appended, length-append, no_less, stop_full)

pub runs_out_of_memory : {A : Type 0} (m : Meaning) (s : Session A) (b : Waiting)
    (earlier lines : List (List ℕ)) (e : RunError)
    → Serves transition m s.waiting earlier lines (ending_of (Err e)) b
    → IsOutOfMemory m s earlier lines
runs_out_of_memory m s b earlier lines Read served = inr (full s.waiting b ReadFailed _ served)
runs_out_of_memory m s b earlier lines Write served = inr (full s.waiting b WriteFailed _ served)
runs_out_of_memory m s b earlier lines WriteZero served = inr (full s.waiting b NothingTaken _ served)
runs_out_of_memory m s b earlier lines Memory served = inl (served.0, served.1)
runs_out_of_memory m s b earlier lines TooManyReads served = absurd served

-- what is written waits, after what waited
pub waits_more : (a b : Waiting) (more returned all whole : List ℕ) → Written transition a more b
    → all ≡ returned ++ a.output.items → whole ≡ all ++ more → whole ≡ returned ++ b.output.items
waits_more a b more returned all whole written waits same = grind (arith, append_assoc, appended)

-- a line that goes on
pub started_more : (shown : List (List ℕ) → List ℕ → Type 0) (count : ℕ) (has_started : Bool)
    (text chunk : List ℕ) → (split (text ++ chunk)).rest ≡ (split ((split text).rest ++ chunk)).rest
    → ended_lines_of (text ++ chunk)
    ≡ ended_lines_of text ++ ended_lines_of ((split text).rest ++ chunk)
    → Started shown count has_started (ended_lines_of text
    ++ ended_lines_of ((split text).rest ++ chunk)) (split ((split text).rest ++ chunk)).rest
    → Started shown count has_started (ended_lines_of (text ++ chunk)) (split (text ++ chunk)).rest
started_more shown count has_started text chunk rest ended started = grind arith

-- before any byte
pub took_none : {A : Type 0} (m : Meaning) (shows : A → List (List ℕ) → List ℕ → Type 0)
    (s : Session A) (answerer : A) → shows answerer [] [] → s.lines.answerer ≡ answerer
    → s.lines.count ≡ 0 → s.lines.has_started ≡ false → s.has_ended ≡ false
    → s.waiting.output.items ≡ [] → Took m shows s [] []
unfolding split
took_none m shows s answerer shown is counted unbegun going empty = record {
  goes_on = λ still. record {
    shows = subst (λ a. shows a [] []) (sym is) shown;
    counted = counted;
    begins = unbegun;
    unended = tt;
  };
  waits = ap (λ b. answers m b []) going ∙ sym empty;
}
