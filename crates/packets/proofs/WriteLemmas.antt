-- What the writes of a text do to the bytes that a writer holds.
use Rattle.std.proofs.Common.{arith, ◌≡◌, ◌∙◌, sym, refl, subst, ℕ, zero, suc, List, ◌∷◌, ◌++◌, [], append-nil, Option}
use Rattle.std.proofs.Common.{Some, None}
use Rattle.std.specs.Io.KnownBytes.{Appends}
use Rattle.std.proofs.KnownBytes.{Appends-kept, Appends-nil, Appends-trans}
use Rattle.device_runs.specs.Calls.{Call, Makes, Reads, Writes, bytes_taken, bytes_written, fault_of}
use Rattle.device_runs.specs.Known.{Known, KnownCall, known_of}
use Rattle.device_runs.specs.Writes.{Stops, Written}
use Rattle.device_runs.specs.declared.device.ReaderWriter.{ReaderWriter}
use Rattle.device_runs.specs.declared.fault.Fault.{Fault}

call_appends : (a b : Known) (call : Call) → KnownCall a call b
    → Appends a.output b.output (bytes_taken call)
call_appends a b (Reads (Some bytes)) known =
    subst (λ o. Appends a.output o []) (sym known.2) (Appends-nil a.output)
call_appends a b (Reads None) known =
    subst (λ o. Appends a.output o []) (sym known.1) (Appends-nil a.output)
call_appends a b (Writes bytes (Some n)) known = known.0
call_appends a b (Writes bytes None) known =
    Appends-kept a.output a.output b.output [] (Appends-nil a.output) known.0

stop_appends : (a b : Known) (offered : List ℕ) (taken : Option ℕ) (fault : Fault)
    → fault_of (Writes offered taken) ≡ Some fault → KnownCall a (Writes offered taken) b
    → Appends a.output b.output []
stop_appends a b offered None fault is known =
    Appends-kept a.output a.output b.output [] (Appends-nil a.output) known.0
stop_appends a b offered (Some zero) fault is known = known.0
stop_appends a b offered (Some (suc n)) fault is known = absurd (cc)

module _ {A B : Type 0} (remaining : A → Option (List ℕ)) (contents : B → Option (List ℕ)) where
  abbrev seen : ReaderWriter A B → Known
  seen s = known_of (remaining s.reader.now) (contents s.writer.now)

  abbrev Moves : ReaderWriter A B → Call → ReaderWriter A B → Type 0
  Moves s call t = (t.reader.ghost_name ≡ s.reader.ghost_name)
      × (t.writer.ghost_name ≡ s.writer.ghost_name) × KnownCall (seen s) call (seen t)

  calls_append : (old new : ReaderWriter A B) (calls : List Call) → Makes Moves old calls new
      → (new.writer.ghost_name ≡ old.writer.ghost_name)
      × Appends (contents old.writer.now) (contents new.writer.now) (bytes_written calls)
  calls_append old new [] made = subst (λ (s : ReaderWriter A B).
      (s.writer.ghost_name ≡ old.writer.ghost_name)
      × Appends (contents old.writer.now) (contents s.writer.now) []) (sym made)
      (refl, Appends-nil (contents old.writer.now))
  calls_append old new (call ∷ calls) made =
      let later = calls_append made.0 new calls made.2 in (
        later.0 ∙ made.1.1,
        Appends-trans _ _ _ (bytes_taken call) (bytes_written calls)
            (call_appends (seen old) (seen made.0) call made.1.2) later.1,
      )

  pub written_appends : (old new : ReaderWriter A B) (bytes : List ℕ) → Written Moves old bytes new
      → (new.writer.ghost_name ≡ old.writer.ghost_name)
      × Appends (contents old.writer.now) (contents new.writer.now) bytes
  written_appends old new bytes w = grind (arith, calls_append)

  pub stops_appends : (fault : Fault) (old new : ReaderWriter A B) (bytes : List ℕ)
      → Stops Moves fault old bytes new → (new.writer.ghost_name ≡ old.writer.ghost_name)
      × (prefix : List ℕ) × (rest : List ℕ)
      × Appends (contents old.writer.now) (contents new.writer.now) prefix
      × (bytes ≡ prefix ++ rest)
  stops_appends fault old new bytes s =
      let before = written_appends old s.mid s.prefix s.before in (
        s.stop.1 ∙ before.0,
        s.prefix,
        s.missing,
        subst (Appends (contents old.writer.now) (contents new.writer.now)) (append-nil s.prefix)
            (Appends-trans _ _ _ s.prefix [] before.1
            (stop_appends (seen s.mid) (seen new) s.offered s.taken fault s.is_fault s.stop.2)),
        s.whole,
      )
