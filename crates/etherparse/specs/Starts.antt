-- The order in which the reassemblies of a pool started, by their names.
use Rattle.std.specs.Prelude.{◌≡◌, ℕ, ◌<◌, ◌≤◌, ◌^◌, Bool, not, if◌then◌else◌, min, List, [], ◌∷◌, ◌++◌, length, filter, slice_get}
use Rattle.std.specs.Prelude.{Option, Some, None, Result, Ok, Err, is_some, option_map, ◌+◌}
use Rattle.std.specs.List.{filter_map, sum_by}
use Rattle.std.specs.Map.{keys_of}
use Rattle.indexmap.specs.IndexMap.{swap_remove_entry}
use Rattle.etherparse.specs.declared.defrag.ip_defrag_error.IpDefragError.{IpDefragError}
use Rattle.etherparse.specs.declared.defrag.reassembly.Reassembly.{Reassembly}
use Rattle.etherparse.specs.IpDefragError.{is_overlap}
use Rattle.etherparse.specs.Memory.{Memory}
use Rattle.etherparse.specs.ReassemblyTable.{OthersStay, Pool, reassembly_at}
use Rattle.etherparse.specs.SpareBuffers.{HasSlots}
use Rattle.etherparse.specs.declared.defrag.spare_buffers.SpareBuffers.{SpareBuffers}
use Rattle.etherparse.specs.StartOrder.{IsOrder, order_without}

-- what a fragment does to the reassembly of its name: it starts one; or that ends, complete or
-- overlapped; or it is as before, there or not
pub data Change : Type 0 where
  Starts : Change
  Ends : Change
  Stays : Change

abbrev pub change_of : {X S : Type 0} → Result (Option X) IpDefragError → Option S → Change
change_of (Err error) None = Stays
change_of (Err error) (Some s) = if is_overlap error then Ends else Stays
change_of (Ok None) None = Starts
change_of (Ok None) (Some s) = Stays
change_of (Ok (Some whole)) None = Stays
change_of (Ok (Some whole)) (Some s) = Ends

-- names, without those that are the same as one
abbrev pub names_without : {K : Type 0} → (K → K → Bool) → K → List K → List K
names_without same name names = filter (λ q. not (same name q)) names

-- the names in the order of their starts, after a fragment of this name
abbrev pub names_after : {K : Type 0} → (K → K → Bool) → K → Change → List K → List K
names_after same name Starts names = names ++ name ∷ []
names_after same name Ends names = names_without same name names
names_after same name Stays names = names

-- the slots in that order, where the name's slot in the table was this one
abbrev pub order_after : (slot : ℕ) → Change → List ℕ → List ℕ
order_after slot Starts order = order ++ length order ∷ []
order_after slot Ends order = order_without slot order
order_after slot Stays order = order

-- the entries of the table
abbrev pub EntriesAfter : {K S : Type 0} → (K → Bool) → K → Change → (old new : List (K × S)) → Type 0
EntriesAfter test name Starts old new = keys_of new ≡ keys_of old ++ name ∷ []
EntriesAfter test name Ends old new = new ≡ swap_remove_entry test old
EntriesAfter test name Stays old new = keys_of new ≡ keys_of old

-- the names of slots
abbrev pub names_in : {K : Type 0} → (keys : List K) → (order : List ℕ) → List K
names_in keys order = filter_map (λ slot. slice_get keys slot) order

-- the bytes that a reassembly holds: those of its buffer, which has 65535 at most
abbrev pub bytes_held : {T : Type 0} → Reassembly T → ℕ
bytes_held s = min 65535 (length s.buf.bytes)

-- those of all reassemblies
abbrev pub bytes_in : {K T : Type 0} → List (K × Reassembly T) → ℕ
bytes_in entries = sum_by (λ e. bytes_held e.1) entries

-- the order has each slot of the table, and the sum is that of its entries; there are fewer than
-- 2 ^ 32 of them
pub record Tracks {K T : Type 0} (order : List ℕ) (held_bytes : ℕ) (entries : List (K × Reassembly T)) : Type 0 where
  pub is_order : IsOrder order
  pub count : length order ≡ length entries
  pub fits : length order < 2 ^ 32
  pub bytes : held_bytes ≡ bytes_in entries

-- so it does, and there are slots for the buffers of all reassemblies
pub record IsTracked {K T : Type 0} (spare : SpareBuffers) (order : List ℕ) (held_bytes : ℕ)
    (entries : List (K × Reassembly T)) : Type 0 where
  pub slots : HasSlots spare (length entries)
  pub tracks : Tracks order held_bytes entries

-- for how many more names there is memory, in the table and in the order of starts
abbrev pub room_for : (names starts : ℕ) → ℕ
room_for names starts = min names starts

-- the names in the order of their starts, after a fragment of this name
abbrev pub StartsAfter : {K T X : Type 0} → (K → K → Bool) → (old new : Pool K T) → K
    → Result (Option X) IpDefragError → Type 0
StartsAfter same old new name result =
    new.starts ≡ names_after same name (change_of result (reassembly_at same old name)) old.starts

-- the names whose reassemblies are there
abbrev pub names_there : {K T : Type 0} → (K → K → Bool) → Pool K T → List K → List K
names_there same pool names = filter (λ q. is_some (reassembly_at same pool q)) names

-- the buffers of a reassembly are the spare ones that are taken next
abbrev pub GivesBuffers : {T : Type 0} → (old new : Memory) → Option (Reassembly T) → Type 0
GivesBuffers old new None = ⊥
GivesBuffers old new (Some s) = (new.bytes ≡ old.bytes ++ s.buf.room.for_bytes ∷ [])
    × (new.sections ≡ old.sections ++ s.buf.room.for_sections ∷ [])

-- the reassembly that started first was dropped: its name and timestamp are returned, the order
-- goes on with the next one, and each other reassembly stays; its buffers take one slot each, and no
-- other memory is lost
pub record ForgetsOldest {K T : Type 0} (same : K → K → Bool) (old new : Pool K T) (name : K)
    (timestamp : T) : Type 0 where
  pub oldest : old.starts ≡ name ∷ new.starts
  pub timestamp_is : option_map (λ s. s.timestamp) (reassembly_at same old name) ≡ Some timestamp
  pub gone : reassembly_at same new name ≡ None
  pub others : OthersStay same name old new
  pub open_len : length new.reassemblies + 1 ≡ length old.reassemblies
  pub spare : new.spare ≡ old.spare + 1
  pub sections : new.spare_sections ≡ old.spare_sections + 1
  pub memory : GivesBuffers old.memory new.memory (reassembly_at same old name)
  pub bytes_slots : old.memory.bytes_slots ≤ new.memory.bytes_slots + 1
  pub sections_slots : old.memory.sections_slots ≤ new.memory.sections_slots + 1
  pub names : old.memory.names ≤ new.memory.names
