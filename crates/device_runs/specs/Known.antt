-- What is known of a reader and a writer: the bytes that the one has left and those that the other
-- holds.
use Rattle.std.specs.Prelude.{◌≡◌, ℕ, Bool, true, List, [], take, Option, Some, None}
use Rattle.std.specs.Io.KnownBytes.{Appends, Consumes, Keeps, IsAtEnd}
use Rattle.device_runs.specs.Calls.{Call, Reads, Writes}
use Rattle.device_runs.specs.Endings.{Ending}
use Rattle.device_runs.specs.Runs.{Task, IsOutcome}

-- the known bytes of both, as one device
pub record Known : Type 0 where
  pub input : Option (List ℕ)
  pub output : Option (List ℕ)

abbrev pub known_of : Option (List ℕ) → Option (List ℕ) → Known
known_of input output = record { input = input; output = output }

-- a read gave these bytes, and none only at the end; a write took so many of its bytes; a call that
-- failed moved none; the other of the two stays as it was
abbrev pub KnownCall : Known → Call → Known → Type 0
KnownCall old (Reads (Some bytes)) new =
    Consumes old.input new.input bytes × (bytes ≡ [] → IsAtEnd new.input)
    × (new.output ≡ old.output)
KnownCall old (Reads None) new = Keeps old.input new.input × (new.output ≡ old.output)
KnownCall old (Writes bytes (Some n)) new = Appends old.output new.output (take n bytes)
    × (new.input ≡ old.input)
KnownCall old (Writes bytes None) new = Keeps old.output new.output × (new.input ≡ old.input)

-- the bytes that a run that ends so read, and those that it wrote, which are the outcome for the
-- bytes read; where the end was reported no byte is left
pub record Transfers {R : Type 0} (task : Task R)
    (input input' output output' : Option (List ℕ)) (ending : Ending R)
    : Type 0 where
  pub end_reported : Bool
  pub read : List ℕ
  pub written : List ℕ
  pub consumed : Consumes input input' read
  pub appended : Appends output output' written
  pub end : end_reported ≡ true → IsAtEnd input'
  pub outcome : IsOutcome task ending end_reported read written
