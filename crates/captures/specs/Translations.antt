-- What a run makes of its input, chunk by chunk. Some bytes are held after these were read and
-- these written: the relation of the three is the caller's.
use Rattle.std.specs.Prelude.{◌≡◌, ℕ, Bool, true, false, List, [], Option, Some, None, Result, Ok, Err}
use Rattle.device_runs.specs.Calls.{Call, Makes, bytes_read}
use Rattle.device_runs.specs.Endings.{Ending}
use Rattle.device_runs.specs.Runs.{Goes, Task}
use Rattle.captures.specs.declared.limits.TheConstants.{INPUT_CAPACITY}
use Rattle.captures.specs.declared.translation.refusal.Refusal.{Refusal}

-- a header is written before anything is read
pub record Begins (task : Task Refusal) (shown : List ℕ → List ℕ → List ℕ → Type 0)
    (header : List ℕ) : Type 0 where
  pub room : task.room ≡ INPUT_CAPACITY
  pub out_of_memory : task.out_of_memory false [] []
  pub full : task.full false [] header
  pub due : task.due [] header
  pub shows : shown [] [] header

-- before more may be read the same is due by both
pub record IsDueBy (task task' : Task Refusal) : Type 0 where
  pub room : task'.room ≡ task.room
  pub due : (read written : List ℕ) → task.due read written → task'.due read written

-- the input is refused, or what is due is written and this is held
abbrev pub Follows : (task : Task Refusal) → (List ℕ → List ℕ → List ℕ → Type 0)
    → (held read written : List ℕ) → Option Refusal → Type 0
Follows task shown held read written None = task.due read written × shown held read written
Follows task shown held read written (Some reason) = task.refused reason false read written

-- after these bytes were read, these are written
pub record Translates (task : Task Refusal) (shown : List ℕ → List ℕ → List ℕ → Type 0)
    (held read written : List ℕ)
    (refusal : Option Refusal) : Type 0 where
  pub full : task.full false read written
  pub follows : Follows task shown held read written refusal

-- where the end is reported, the input is whole, or it is refused
abbrev pub IsWhole : Task Refusal → List ℕ → List ℕ → Result Unit Refusal → Type 0
IsWhole task read written (Ok done) = task.whole read written
IsWhole task read written (Err reason) = task.refused reason true read written

-- these bytes are all that were read, and these are written
pub record Finishes (task : Task Refusal) (read written : List ℕ)
    (result : Result Unit Refusal) : Type 0 where
  pub full : task.full true read written
  pub whole : IsWhole task read written result

-- calls took a device from old to new, and of what they read this is all that is to be written
pub record Fills (task : Task Refusal) {D : Type 0} (transition : D → Call → D → Type 0)
    (old new : D) : Type 0 where
  pub calls : List Call
  pub made : Makes transition old calls new
  pub reported : Bool
  pub text : List ℕ
  pub full : task.full reported (bytes_read calls) text

-- a run that ends so, whose task knows what was read, however it ends
pub record RunEnds (task : Task Refusal) {D : Type 0} (transition : D → Call → D → Type 0)
    (limit : ℕ) (old new : D) (ending : Ending Refusal) : Type 0 where
  pub goes : Goes task transition limit old new ending
  pub fills : Fills task transition old new
