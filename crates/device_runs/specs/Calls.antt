-- The calls of a device, one after another, and what they read and write.
use Rattle.std.specs.Prelude.{◌≡◌, ℕ, zero, suc, Bool, true, false, List, [], ◌∷◌, take, count_by, Option, Some, None}
use Rattle.std.specs.Prelude.{Result, Ok, Err}
use Rattle.std.specs.List.{flat_map, filter_map, list_any}
use Rattle.device_runs.specs.declared.fault.Fault.{Fault}
use Rattle.device_runs.specs.declared.fault.Fault.TheVariants.{ReadFailed, WriteFailed, NothingTaken}

-- a read into a buffer that is not empty, with the bytes that it gave, and a write of these bytes,
-- with how many it took; `None` where the call failed
pub data Call : Type 0 where
  Reads : Option (List ℕ) → Call
  Writes : List ℕ → Option ℕ → Call

-- the bytes that a read into a buffer gave, or nothing where it failed
abbrev pub bytes_of_read : {E : Type 0} → Result ℕ E → List ℕ → Option (List ℕ)
bytes_of_read (Ok n) buf = Some (take n buf)
bytes_of_read (Err e) buf = None

-- from one state of a device to another by these calls
abbrev pub Makes : {D : Type 0} → (D → Call → D → Type 0) → D → List Call → D → Type 0
Makes transition old [] new = new ≡ old
Makes {D} transition old (call ∷ calls) new = (mid : D) × transition old call mid
    × Makes transition mid calls new

abbrev pub bytes_given : Call → List ℕ
bytes_given (Reads None) = []
bytes_given (Reads (Some bytes)) = bytes
bytes_given (Writes bytes taken) = []

abbrev pub bytes_taken : Call → List ℕ
bytes_taken (Reads given) = []
bytes_taken (Writes bytes None) = []
bytes_taken (Writes bytes (Some n)) = take n bytes

-- all bytes that these calls read
abbrev pub bytes_read : List Call → List ℕ
bytes_read calls = flat_map bytes_given calls

-- all bytes that these calls wrote
abbrev pub bytes_written : List Call → List ℕ
bytes_written calls = flat_map bytes_taken calls

abbrev pub is_read : Call → Bool
is_read (Reads given) = true
is_read (Writes bytes taken) = false

abbrev pub read_count : List Call → ℕ
read_count calls = count_by is_read calls

abbrev pub reports_end : Call → Bool
reports_end (Reads None) = false
reports_end (Reads (Some [])) = true
reports_end (Reads (Some (b ∷ bytes))) = false
reports_end (Writes bytes taken) = false

-- whether a read reported the end: it gave no bytes
abbrev pub is_end_reported : List Call → Bool
is_end_reported calls = list_any reports_end calls

-- the fault by which a call ends a run
abbrev pub fault_of : Call → Option Fault
fault_of (Reads None) = Some ReadFailed
fault_of (Reads (Some bytes)) = None
fault_of (Writes bytes None) = Some WriteFailed
fault_of (Writes bytes (Some zero)) = Some NothingTaken
fault_of (Writes bytes (Some (suc n))) = None

abbrev pub faults_of : List Call → List Fault
faults_of calls = filter_map fault_of calls
