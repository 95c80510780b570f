-- How a run ends, and with which calls.
use Rattle.std.specs.Prelude.{◌≡◌, ◌⊎◌, ℕ, true, false, List, [], ◌∷◌, Result, Ok, Err}
use Rattle.device_runs.specs.declared.fault.Fault.{Fault}
use Rattle.device_runs.specs.Calls.{Call, bytes_read, read_count, is_end_reported, faults_of}

-- at the end of the input; by a call that is a fault; out of memory; when it has made as many reads
-- as it may; or because its input is refused
pub data Ending (R : Type 0) : Type 0 where
  Done : Ending R
  Stopped : Fault → Ending R
  OutOfMemory : Ending R
  OutOfReads : Ending R
  Refused : R → Ending R

-- the ending that a result describes, where an error describes this one
abbrev pub ending_by : {E R : Type 0} → (E → Ending R) → Result Unit E → Ending R
ending_by cause (Ok done) = Done
ending_by cause (Err e) = cause e

-- what a run returns with a flush after it: its own end, or this error where it was done
abbrev pub EndsFlushed : {E : Type 0} → E → Result Unit E → Result Unit E → Type 0
EndsFlushed failed (Ok done) result = (result ≡ Ok done) ⊎ (result ≡ Err failed)
EndsFlushed failed (Err error) result = result ≡ Err error

-- the calls of a run of at most so many reads that ends so: at the end of the input without a
-- fault; by its one fault; out of memory without a fault, and with no call where nothing is read;
-- without a fault and with no end reported when all the reads are made; and without a fault where
-- the input is refused
abbrev pub Ends : {R : Type 0} → ℕ → List Call → Ending R → Type 0
Ends limit calls Done = (faults_of calls ≡ []) × (is_end_reported calls ≡ true)
Ends limit calls (Stopped fault) = faults_of calls ≡ fault ∷ []
Ends limit calls OutOfMemory = (faults_of calls ≡ []) × (bytes_read calls ≡ [] → calls ≡ [])
Ends limit calls OutOfReads = (faults_of calls ≡ []) × (is_end_reported calls ≡ false)
    × (read_count calls ≡ limit)
Ends limit calls (Refused reason) = faults_of calls ≡ []
