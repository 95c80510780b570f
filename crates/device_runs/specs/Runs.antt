-- How a run uses a device: which call may follow which, how it ends, and what it has written by
-- then.
use Rattle.std.specs.Prelude.{◌≡◌, ℕ, ◌<◌, ◌≤◌, Bool, false, List, [], ◌∷◌, ◌++◌, length}
use Rattle.device_runs.specs.declared.fault.Fault.{Fault}
use Rattle.device_runs.specs.declared.fault.Fault.TheVariants.{ReadFailed, WriteFailed, NothingTaken}
use Rattle.device_runs.specs.Calls.{Call, Reads, Writes, Makes, bytes_given, bytes_read, bytes_written, read_count}
use Rattle.device_runs.specs.Calls.{is_end_reported, faults_of}
use Rattle.device_runs.specs.Endings.{Ending, Done, Stopped, OutOfMemory, OutOfReads, Refused, Ends}

-- what a run is to write for the bytes that it reads, and for whether their end is reported
pub record Task (R : Type 0) : Type 1 where
  -- a read gives so many bytes at most
  pub room : ℕ
  -- before more may be read
  pub due : List ℕ → List ℕ → Type 0
  -- where no write is a fault
  pub full : Bool → List ℕ → List ℕ → Type 0
  -- of all the input
  pub whole : List ℕ → List ℕ → Type 0
  -- when out of memory
  pub out_of_memory : Bool → List ℕ → List ℕ → Type 0
  -- where the input is refused
  pub refused : R → Bool → List ℕ → List ℕ → Type 0

-- what a run that ends so has written: it depends on the bytes that it has read, on whether their
-- end was reported, and on nothing else
abbrev pub IsOutcome : {R : Type 0} → Task R → Ending R → Bool → List ℕ → List ℕ → Type 0
IsOutcome task Done end_reported read written = task.whole read written
IsOutcome task (Stopped ReadFailed) end_reported read written = task.due read written
IsOutcome task (Stopped WriteFailed) end_reported read written = (missing : List ℕ)
    × task.full end_reported read (written ++ missing)
IsOutcome task (Stopped NothingTaken) end_reported read written = (missing : List ℕ)
    × task.full end_reported read (written ++ missing)
IsOutcome task OutOfMemory end_reported read written = task.out_of_memory end_reported read written
IsOutcome task OutOfReads end_reported read written = task.due read written
IsOutcome task (Refused reason) end_reported read written = task.refused reason end_reported read written

-- a read may follow these calls: none of them is a fault, the end is not reported yet, and what is
-- due for the bytes read so far is written
pub record MayRead {R : Type 0} (task : Task R) (before : List Call) : Type 0 where
  pub no_fault : faults_of before ≡ []
  pub no_end : is_end_reported before ≡ false
  pub written : task.due (bytes_read before) (bytes_written before)

-- a call may follow these: a read, which gives so many bytes at most, or a write of some bytes,
-- where none of these is a fault
abbrev pub Follows : {R : Type 0} → Task R → List Call → Call → Type 0
Follows task before (Reads given) = MayRead task before
    × (length (bytes_given (Reads given)) ≤ task.room)
Follows task before (Writes bytes taken) = (faults_of before ≡ []) × (0 < length bytes)

-- each of these calls follows those before it
abbrev pub EachFollows : {R : Type 0} → Task R → List Call → List Call → Type 0
EachFollows task before [] = Unit {0}
EachFollows task before (call ∷ calls) = Follows task before call
    × EachFollows task (before ++ call ∷ []) calls

-- a run of at most so many reads took a device from old to new by these calls, each of which may
-- follow those before it, ended so, and wrote what a run that ends so writes
pub record Goes {D R : Type 0} (task : Task R) (transition : D → Call → D → Type 0)
    (limit : ℕ) (old new : D)
    (ending : Ending R) : Type 0 where
  pub calls : List Call
  pub made : Makes transition old calls new
  pub each : EachFollows task [] calls
  pub reads : read_count calls ≤ limit
  pub ends : Ends limit calls ending
  pub output : IsOutcome task ending (is_end_reported calls) (bytes_read calls) (bytes_written calls)
