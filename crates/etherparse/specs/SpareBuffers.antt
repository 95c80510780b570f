-- Memory of reassemblies that ended, for those that start.
use Rattle.std.specs.Prelude.{◌≡◌, ◌+◌, ◌≤◌, ℕ, vec_len, vec_capacity}
use Rattle.etherparse.specs.declared.defrag.spare_buffers.SpareBuffers.{SpareBuffers}

-- there are slots for the buffers of so many more reassemblies
pub record HasSlots (spare : SpareBuffers) (count : ℕ) : Type 0 where
  pub bytes : vec_len spare.bytes + count ≤ vec_capacity spare.bytes
  pub sections : vec_len spare.sections + count ≤ vec_capacity spare.sections

-- there are as many of each kind
pub record SameCounts (old new : SpareBuffers) : Type 0 where
  pub bytes : vec_len new.bytes ≡ vec_len old.bytes
  pub sections : vec_len new.sections ≡ vec_len old.sections

-- the same buffers
pub record SameBuffers (old new : SpareBuffers) : Type 0 where
  pub bytes : new.bytes.items ≡ old.bytes.items
  pub sections : new.sections.items ≡ old.sections.items

-- and no fewer slots in all
pub record NoFewerSlots (old new : SpareBuffers) : Type 0 where
  pub bytes : vec_capacity old.bytes ≤ vec_capacity new.bytes
  pub sections : vec_capacity old.sections ≤ vec_capacity new.sections
