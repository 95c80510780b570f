-- What a sequence of writes does with bytes that are to be written.
use Rattle.std.specs.Prelude.{◌≡◌, ℕ, ◌<◌, ◌≤◌, List, ◌++◌, length, Option, Some, None}
use Rattle.std.specs.List.{AllByRecursion}
use Rattle.device_runs.specs.declared.fault.Fault.{Fault}
use Rattle.device_runs.specs.Calls.{Call, Reads, Writes, Makes, bytes_written, fault_of}
use Rattle.device_runs.specs.Endings.{Ending, Done, Stopped, OutOfMemory, OutOfReads, Refused}

-- a write that took a byte at least
abbrev pub TakesBytes : Call → Type 0
TakesBytes (Reads given) = ⊥
TakesBytes (Writes bytes None) = ⊥
TakesBytes (Writes bytes (Some n)) = (0 < n) × (n ≤ length bytes)

-- from old to new, writes that took these bytes
pub record Written {D : Type 0} (transition : D → Call → D → Type 0) (old : D) (bytes : List ℕ)
    (new : D) : Type 0 where
  pub calls : List Call
  pub each : AllByRecursion TakesBytes calls
  pub made : Makes transition old calls new
  pub whole : bytes_written calls ≡ bytes

-- from old to new, writes that took a prefix of these bytes, and then one that is this fault, which
-- was passed the bytes that come next
pub record Stops {D : Type 0} (transition : D → Call → D → Type 0) (fault : Fault) (old : D)
    (bytes : List ℕ) (new : D)
    : Type 0 where
  pub prefix : List ℕ
  pub missing : List ℕ
  pub whole : bytes ≡ prefix ++ missing
  pub mid : D
  pub before : Written transition old prefix mid
  pub offered : List ℕ
  pub later : List ℕ
  pub next : missing ≡ offered ++ later
  pub taken : Option ℕ
  pub some : 0 < length offered
  pub stop : transition mid (Writes offered taken) new
  pub is_fault : fault_of (Writes offered taken) ≡ Some fault

-- the bytes are written, or a write before the last of them is a fault
abbrev pub Delivers : {D R : Type 0} → (D → Call → D → Type 0) → D → List ℕ → Ending R → D → Type 0
Delivers transition old bytes Done new = Written transition old bytes new
Delivers transition old bytes (Stopped fault) new = Stops transition fault old bytes new
Delivers transition old bytes OutOfMemory new = ⊥
Delivers transition old bytes OutOfReads new = ⊥
Delivers transition old bytes (Refused reason) new = ⊥
