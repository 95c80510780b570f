-- The buffers of bytes that a pool has, and what becomes of them with an answer.
use Rattle.std.specs.Prelude.{◌≡◌, ℕ, ◌+◌, ◌≤◌, List, [], ◌∷◌, ◌++◌, codes}
use Rattle.etherparse.specs.Counts.{open_in}
use Rattle.etherparse.specs.ReassemblyTable.{Pool}

-- those of the reassemblies, and those that are spare
abbrev pub buffers_in : {K T : Type 0} → Pool K T → ℕ
buffers_in pool = open_in pool + pool.spare

-- the buffer of a message, of this capacity, is one spare buffer more, the one that is taken next
pub record TakesBack {K T : Type 0} (old new : Pool K T) (room : ℕ) : Type 0 where
  pub reassemblies : new.reassemblies ≡ old.reassemblies
  pub spare : new.spare ≡ old.spare + 1
  pub memory : new.memory.bytes ≡ old.memory.bytes ++ room ∷ []

-- with this answer no buffer is lost; but an overlap drops the reassembly with its buffer
pub record KeepsBuffers {K T : Type 0} (old new : Pool K T) (answer : List ℕ) : Type 0 where
  pub none_lost : (answer ≡ codes "refused overlap" → ⊥) → buffers_in old ≤ buffers_in new
  pub one_lost : buffers_in old ≤ buffers_in new + 1
