-- Answers that wait to be written, and writes.
use Rattle.std.proofs.Common.{arith, ◌≡◌, sym, refl, subst, ℕ, List, ◌++◌, Bool, true, append_assoc, append-nil, []}
use Rattle.device_runs.specs.declared.fault.Fault.{Fault}
use Rattle.device_runs.specs.Calls.{Call}
use Rattle.device_runs.specs.Endings.{Ending, Done, Stopped, OutOfMemory, OutOfReads, Refused}
use Rattle.device_runs.specs.Writes.{Written, Stops, Delivers}
use Rattle.device_runs.proofs.WriteLemmas.{Written-append, Stops-after, Stops-more, Delivers-after}
use Rattle.lines.specs.declared.run_error.RunError.{RunError}
use Rattle.lines.specs.Endings.{cause}
use Rattle.lines.specs.LineAnswers.{Meaning, EndsBefore, answers_to_later}
use Rattle.lines.specs.Writes.{Gathers, Serves}

-- an error isn't the ending `Done`
pub cause_fails : (e : RunError) → cause e ≡ Done → ⊥
cause_fails e is = grind arith

module _ {D : Type 0} (transition : D → Call → D → Type 0) where
  -- of what waits a prefix is written, and the rest is left
  pub record Left (a : D) (waiting left : List ℕ) (b : D) : Type 0 where
    pub prefix : List ℕ
    pub written : Written transition a prefix b
    pub whole : waiting ≡ prefix ++ left

  pub Left-none : (a : D) (waiting left : List ℕ) → left ≡ waiting → Left a waiting left a
  Left-none a waiting left is = grind arith

  pub Left-all : (a b : D) (waiting left : List ℕ) → Written transition a waiting b → left ≡ []
      → Left a waiting left b
  Left-all a b waiting left written is = grind (arith, append-nil)

  -- bytes are gathered,
  pub Gathers-left : (takes : Bool) (a b : D) (waiting left bytes waiting' : List ℕ)
      → Left a waiting left b → waiting' ≡ left ++ bytes
      → Gathers transition takes a waiting bytes Done waiting' b
  Gathers-left takes a b waiting left bytes waiting' l is = grind (arith, append_assoc)

  -- or memory runs out for them, and all that waits is written,
  pub Gathers-memory : (takes : Bool) (a b c : D) (waiting left bytes waiting' : List ℕ)
      → takes ≡ true → Left a waiting left b → Written transition b left c
      → Gathers transition takes a waiting bytes OutOfMemory waiting' c
  Gathers-memory takes a b c waiting left bytes waiting' does l w = (
    does,
    subst (λ all. Written transition a all c) (sym l.whole)
        (Written-append transition a b c l.prefix left l.written w),
  )

  -- or a write stops
  pub Gathers-stops : (takes : Bool) (a b c : D) (waiting left bytes waiting' : List ℕ)
      → Left a waiting left b → (ending : Ending ⊥) → (ending ≡ Done → ⊥)
      → Delivers transition b left ending c
      → Gathers transition takes a waiting bytes ending waiting' c
  Gathers-stops takes a b c waiting left bytes waiting' l Done fails d = absurd (fails refl)
  Gathers-stops takes a b c waiting left bytes waiting' l (Stopped fault) fails d =
      Stops-more transition fault a c waiting bytes
      (subst (λ all. Stops transition fault a all c) (sym l.whole)
      (Stops-after transition fault a b c l.prefix left l.written d))
  Gathers-stops takes a b c waiting left bytes waiting' l OutOfMemory fails d = absurd d
  Gathers-stops takes a b c waiting left bytes waiting' l OutOfReads fails d = d
  Gathers-stops takes a b c waiting left bytes waiting' l (Refused reason) fails d = d

  -- all that was gathered is written
  pub Delivers-gathered : (takes : Bool) (a b c : D) (waiting bytes waiting' : List ℕ)
      (ending : Ending ⊥) → Gathers transition takes a waiting bytes Done waiting' b
      → Delivers transition b waiting' ending c → Delivers transition a (waiting ++ bytes) ending c
  Delivers-gathered takes a b c waiting bytes waiting' ending g d =
      subst (λ l. Delivers transition a l ending c) (sym g.2)
      (Delivers-after transition a b c g.0 waiting' ending g.1 d)

  module _ (P : Ending ⊥ → Type 0) (old new : D) where
    -- what follows where bytes are not gathered
    pub Gathers-fails : (takes : Bool) (waiting bytes waiting' : List ℕ)
        → ((takes ≡ true) × Written transition old waiting new → P OutOfMemory)
        → ((fault : Fault) → Stops transition fault old (waiting ++ bytes) new → P (Stopped fault))
        → (ending : Ending ⊥) → (ending ≡ Done → ⊥)
        → Gathers transition takes old waiting bytes ending waiting' new → P ending
    Gathers-fails takes waiting bytes waiting' memory stops ending fails g = grind arith

    -- and where lines are served
    pub Serves-cases : (m : Meaning) (earlier lines : List (List ℕ)) (ending : Ending ⊥)
        → (ending ≡ Done → Written transition old (answers_to_later m.answer earlier lines) new → P Done)
        → ((answers : List ℕ) → EndsBefore m earlier lines answers
        → Written transition old answers new → P OutOfMemory)
        → ((fault : Fault) → Stops transition fault old (answers_to_later m.answer earlier lines) new
        → P (Stopped fault))
        → Serves transition m old earlier lines ending new → P ending
    Serves-cases m earlier lines Done done memory stops s = done refl s
    Serves-cases m earlier lines (Stopped fault) done memory stops s = stops fault s
    Serves-cases m earlier lines OutOfMemory done memory stops s = memory s.0 s.1 s.2
    Serves-cases m earlier lines OutOfReads done memory stops s = absurd s
    Serves-cases m earlier lines (Refused reason) done memory stops s = absurd s

  -- what is delivered is served
  pub Serves-delivered : (m : Meaning) (old new : D) (earlier lines : List (List ℕ))
      (ending : Ending ⊥) → Delivers transition old (answers_to_later m.answer earlier lines) ending new
      → Serves transition m old earlier lines ending new
  Serves-delivered m old new earlier lines ending d = grind arith
