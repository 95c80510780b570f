-- The memory of a pool beside that of its reassemblies, and what becomes of it.
use Rattle.std.specs.Prelude.{◌≡◌, ℕ, ◌+◌, ◌-◌, ◌≤◌, if◌then◌else◌, Option, Some, None, Result, Ok}
use Rattle.std.specs.Prelude.{Err, IfOk, IfSome, IsSome, List, [], ◌∷◌, ◌++◌, length, map, ⊤, vec_len, vec_capacity}
use Rattle.std.specs.declared.vec.Vec.{Vec}
use Rattle.etherparse.specs.declared.defrag.ip_defrag_error.IpDefragError.{IpDefragError}
use Rattle.etherparse.specs.Fragments.{Fragment}
use Rattle.etherparse.specs.IpDefragBuf.{HasRoom}
use Rattle.etherparse.specs.StoredFragment.{stored_of}
use Rattle.etherparse.specs.Room.{NoLessRoom, wanted_end}
use Rattle.etherparse.specs.declared.defrag.spare_buffers.SpareBuffers.{SpareBuffers}
use Rattle.etherparse.specs.declared.defrag.reassembly.Reassembly.{Reassembly}

-- the spare buffers of bytes and of sections, each as the number of elements that it has capacity
-- for, the one that is taken next at the end; for how many more of them there are slots; and how
-- many more names the table takes
pub record Memory : Type 0 where
  pub bytes : List ℕ
  pub sections : List ℕ
  pub bytes_slots : ℕ
  pub sections_slots : ℕ
  pub names : ℕ

abbrev pub capacities : {X Z : Type 0} → List (Vec X Z) → List ℕ
capacities vs = map vec_capacity vs

abbrev pub memory_of : SpareBuffers → (names : ℕ) → Memory
memory_of spare names = record {
  bytes = capacities spare.bytes.items;
  sections = capacities spare.sections.items;
  bytes_slots = vec_capacity spare.bytes - vec_len spare.bytes;
  sections_slots = vec_capacity spare.sections - vec_len spare.sections;
  names = names;
}

-- the memory once no buffer is spare: their slots are free
abbrev pub freed : Memory → Memory
freed memory = record memory {
  bytes = [];
  sections = [];
  bytes_slots = length memory.bytes + memory.bytes_slots;
  sections_slots = length memory.sections + memory.sections_slots;
}

-- for how many the buffer that is taken next has capacity, and those that are left then
abbrev pub next_room : List ℕ → ℕ
next_room [] = 0
next_room (r ∷ []) = r
next_room (r ∷ s ∷ rs) = next_room (s ∷ rs)

abbrev pub without_next : List ℕ → List ℕ
without_next [] = []
without_next (r ∷ []) = []
without_next (r ∷ s ∷ rs) = r ∷ without_next (s ∷ rs)

-- ---- capacity for a fragment

-- a reassembly can start with this fragment, beside so many others: there is memory for its name,
-- for the slots of its buffers once they are spare, and in those that are taken for it
pub record CanBegin (open_len : ℕ) (memory : Memory) (f : Fragment) : Type 0 where
  pub name : 1 ≤ memory.names
  pub bytes_slot : open_len + 1 ≤ memory.bytes_slots
  pub sections_slot : open_len + 1 ≤ memory.sections_slots
  pub bytes : wanted_end 0 (stored_of f) ≤ next_room memory.bytes
  pub sections : 1 ≤ next_room memory.sections

-- there is memory for a fragment of the datagram with this reassembly, or of one that starts
abbrev pub FindsRoom : {T : Type 0} → Option (Reassembly T) → (open_len : ℕ) → Memory → Fragment
    → Type 0
FindsRoom None open_len memory f = CanBegin open_len memory f
FindsRoom (Some s) open_len memory f = HasRoom s.buf f

-- ---- what becomes of the memory

-- as many buffers, each with capacity for as many at least
abbrev pub EachNoLess : List ℕ → List ℕ → Type 0
EachNoLess [] [] = ⊤
EachNoLess [] (s ∷ ss) = ⊥
EachNoLess (r ∷ rs) [] = ⊥
EachNoLess (r ∷ rs) (s ∷ ss) = (r ≤ s) × EachNoLess rs ss

-- one more, with capacity for so many at least
abbrev pub OneMore : List ℕ → ℕ → List ℕ → Type 0
OneMore old room new = (r : ℕ) × (room ≤ r) × (new ≡ old ++ r ∷ [])

-- the spare buffers of bytes after a fragment
abbrev pub BytesAfter : {X E S : Type 0} → Result X E → Option S → List ℕ → List ℕ → Type 0
BytesAfter (Err error) reassembly old new = EachNoLess old new
BytesAfter (Ok reported) None old new = new ≡ without_next old
BytesAfter (Ok reported) (Some s) old new = new ≡ old

-- those of sections
abbrev pub SectionsAfter : {X E T : Type 0} → Result (Option X) E → Option (Reassembly T) → List ℕ
    → List ℕ → Type 0
SectionsAfter (Err error) reassembly old new = EachNoLess old new
SectionsAfter (Ok None) None old new = new ≡ without_next old
SectionsAfter (Ok None) (Some s) old new = new ≡ old
SectionsAfter (Ok (Some whole)) None old new = OneMore (without_next old) (next_room old) new
SectionsAfter (Ok (Some whole)) (Some s) old new = OneMore old s.buf.room.for_sections new

-- a reassembly goes on with the memory that it had, and starts with that of the spare buffers
abbrev pub ReassemblyAfter : {T : Type 0} → Option (Reassembly T) → Memory → Option (Reassembly T) → Type 0
ReassemblyAfter None old new = IfSome new
    (λ t. (next_room old.bytes ≤ t.buf.room.for_bytes)
    × (next_room old.sections ≤ t.buf.room.for_sections))
ReassemblyAfter (Some s) old new = IfSome new (λ t. NoLessRoom s.buf.room t.buf.room)

-- the memory after a fragment; where that completes its datagram, there is a slot for the buffer
-- that is returned, beside those for the buffers of all reassemblies
pub record KeepsMemory {T X : Type 0} (result : Result (Option X) IpDefragError)
    (old_reassembly new_reassembly : Option (Reassembly T)) (old new : Memory) (open_len : ℕ) : Type 0 where
  pub bytes : BytesAfter result old_reassembly old.bytes new.bytes
  pub sections : SectionsAfter result old_reassembly old.sections new.sections
  pub reassembly : ReassemblyAfter old_reassembly old new_reassembly
  pub slot : IfOk result (λ reported. IsSome reported → open_len + 1 ≤ new.bytes_slots)
