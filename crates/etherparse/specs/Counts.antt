-- How many reassemblies a pool holds, and how many buffers are spare.
use Rattle.std.specs.Prelude.{◌≡◌, ◌+◌, ◌-◌, ◌≤◌, ◌⊎◌, ℕ, Bool, Option, Some, None, Result, Ok, Err, false, length}
use Rattle.std.specs.Prelude.{if◌then◌else◌, IfErr}
use Rattle.etherparse.specs.declared.defrag.ip_defrag_error.IpDefragError.{IpDefragError}
use Rattle.etherparse.specs.Fragments.{Fragment}
use Rattle.etherparse.specs.IpDefragError.{is_overlap, is_out_of_memory}
use Rattle.etherparse.specs.Memory.{FindsRoom, KeepsMemory}
use Rattle.etherparse.specs.ReassemblyTable.{Pool, reassembly_at}

-- the number of reassemblies
abbrev pub open_in : {K T : Type 0} → Pool K T → ℕ
open_in pool = length pool.reassemblies

-- of so many reassemblies, those that there are after a fragment: one more where it starts one, one
-- fewer where it completes one, or overlaps it
abbrev pub open_after : {X S : Type 0} → Result (Option X) IpDefragError → Option S → ℕ → ℕ
open_after (Err error) reassembly n = if is_overlap error then n - 1 else n
open_after (Ok None) None n = n + 1
open_after (Ok None) (Some s) n = n
open_after (Ok (Some whole)) None n = n
open_after (Ok (Some whole)) (Some s) n = n - 1

-- of so many spare buffers, those that are spare after it: one fewer, if there is one, where it
-- starts a reassembly
abbrev pub spare_after : {X E S : Type 0} → Result X E → Option S → ℕ → ℕ
spare_after (Err error) reassembly n = n
spare_after (Ok reported) None n = n - 1
spare_after (Ok reported) (Some s) n = n

-- of so many spare buffers of sections, those that are spare after it: one fewer, if there is one,
-- where it starts a reassembly, and one more where it completes one, whose bytes alone are returned
abbrev pub sections_after : {X E S : Type 0} → Result (Option X) E → Option S → ℕ → ℕ
sections_after (Err error) reassembly n = n
sections_after (Ok None) None n = n - 1
sections_after (Ok None) (Some s) n = n
sections_after (Ok (Some whole)) None n = n - 1 + 1
sections_after (Ok (Some whole)) (Some s) n = n + 1

-- the counts after a fragment of this name
pub record Counts {K T X : Type 0} (same : K → K → Bool) (old new : Pool K T) (name : K)
    (result : Result (Option X) IpDefragError) : Type 0 where
  pub open_len : open_in new ≡ open_after result (reassembly_at same old name) (open_in old)
  pub spare_len : new.spare ≡ spare_after result (reassembly_at same old name) old.spare
  pub sections : new.spare_sections
      ≡ sections_after result (reassembly_at same old name) old.spare_sections

-- out of memory is answered to a fragment of this name only where there is no capacity for it
abbrev pub HasMemoryFor : {K T X : Type 0} → (K → K → Bool) → Pool K T → K → Fragment
    → Result X IpDefragError → Type 0
HasMemoryFor same old name f result = FindsRoom (reassembly_at same old name) (open_in old) old.memory f
    → IfErr result (λ e. is_out_of_memory e ≡ false)

-- the memory after a fragment of this name
abbrev pub KeepsMemoryOf : {K T X : Type 0} → (K → K → Bool) → (old new : Pool K T) → K
    → Result (Option X) IpDefragError → Type 0
KeepsMemoryOf same old new name result = KeepsMemory result (reassembly_at same old name)
    (reassembly_at same new name) old.memory new.memory (open_in new)

-- there is a slot for one more buffer of bytes
abbrev pub HasSlot : {K T : Type 0} → Pool K T → Type 0
HasSlot pool = open_in pool + 1 ≤ pool.memory.bytes_slots

-- reassemblies and spare buffers together are no more than before, or no buffer is spare: there are
-- as many as reassemblies
abbrev pub Bounded : {K T : Type 0} → Pool K T → Pool K T → Type 0
Bounded old new = (open_in new + new.spare ≤ open_in old + old.spare)
    ⊎ (open_in new + new.spare ≡ open_in new)
