-- How many bytes the reassemblies of names hold.
use Rattle.std.specs.Prelude.{ℕ, ◌+◌, Bool, List, [], ◌∷◌, Option, Some, None}
use Rattle.etherparse.specs.ReassemblyTable.{Pool, reassembly_at}
use Rattle.etherparse.specs.Starts.{bytes_held}
use Rattle.etherparse.specs.declared.defrag.reassembly.Reassembly.{Reassembly}

-- the bytes of a reassembly, if there is one
abbrev pub bytes_held_if : {T : Type 0} → Option (Reassembly T) → ℕ
bytes_held_if None = 0
bytes_held_if (Some s) = bytes_held s

-- those of the reassemblies of some names
abbrev pub bytes_of : {K T : Type 0} → (K → K → Bool) → Pool K T → List K → ℕ
bytes_of same pool [] = 0
bytes_of same pool (name ∷ names) = bytes_held_if (reassembly_at same pool name) + bytes_of same pool names
