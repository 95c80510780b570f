-- The capacity that a buffer has, and how much of it a fragment needs.
use Rattle.std.specs.Prelude.{ℕ, ◌+◌, ◌-◌, ◌≤◌, ◌==◌, ◌&&◌, if◌then◌else◌, min, Option, Some, None, List, length}
use Rattle.std.specs.Prelude.{vec_capacity}
use Rattle.std.specs.declared.vec.Vec.{Vec}
use Rattle.smallvec.specs.SmallVec.{SmallVec}
use Rattle.etherparse.specs.declared.defrag.ip_frag_range.IpFragRange.{IpFragRange}
use Rattle.etherparse.specs.declared.defrag.stored_fragment.StoredFragment.{StoredFragment}

-- for how many bytes, sections and stored fragments there is memory, those that are there included
pub record Room : Type 0 where
  pub for_bytes : ℕ
  pub for_sections : ℕ
  pub for_fragments : ℕ

-- for no fewer of each
pub record NoLessRoom (old new : Room) : Type 0 where
  pub bytes : old.for_bytes ≤ new.for_bytes
  pub sections : old.for_sections ≤ new.for_sections
  pub stored_fragments : old.for_fragments ≤ new.for_fragments

-- for how many stored fragments, if they are stored
abbrev pub stored_room : Option (SmallVec StoredFragment) → ℕ
stored_room None = 0
stored_room (Some ms) = ms.capacity

-- the capacity of these, and of so many bytes
abbrev pub room_in : {B : Type 0} → ℕ → Vec IpFragRange B → Option (SmallVec StoredFragment) → Room
room_in for_bytes sections stored_fragments = record {
  for_bytes = for_bytes;
  for_sections = vec_capacity sections;
  for_fragments = stored_room stored_fragments;
}

-- that of a new buffer over these: up to four stored fragments take no memory
abbrev pub new_stored_room : Option (List StoredFragment) → ℕ
new_stored_room None = 0
new_stored_room (Some ms) = 4

abbrev pub new_room : {A B : Type 0} → Vec ℕ A → Vec IpFragRange B → Option (List StoredFragment) → Room
new_room bytes sections stored_fragments = record {
  for_bytes = vec_capacity bytes;
  for_sections = vec_capacity sections;
  for_fragments = new_stored_room stored_fragments;
}

-- up to which offset a fragment needs capacity for bytes, where so many are there: up to its end,
-- and the first one, where more follow it, for a second one of its length too
abbrev pub wanted_end : (there : ℕ) → StoredFragment → ℕ
wanted_end there m = if there == 0 && m.more_fragments then min 65535 (m.end + (m.end - m.start))
    else m.end

-- there is capacity for one more of the fragments, if they are stored
abbrev pub HasStoredRoom : Option (List StoredFragment) → ℕ → Type 0
HasStoredRoom None room = Unit {0}
HasStoredRoom (Some ms) room = length ms + 1 ≤ room
