-- Slots for buffers, as reassemblies start and end.
use Rattle.std.proofs.Common.{◌≡◌, ℕ, ◌+◌, ◌-◌, ◌≤◌, arith, inl, inr}
use Rattle.std.proofs.lemmas.Bool.{cases_lt}
use Rattle.etherparse.specs.declared.defrag.spare_buffers.SpareBuffers.{SpareBuffers}
use Rattle.etherparse.specs.SpareBuffers.{HasSlots}

-- where there are slots for so many, there are for fewer
pub fewer_slots : (spare : SpareBuffers) (m n : ℕ) → n ≤ m → HasSlots spare m → HasSlots spare n
fewer_slots spare m n le h = grind arith

-- the same where the number is stated otherwise
pub same_slots : (spare : SpareBuffers) (m n : ℕ) → n ≡ m → HasSlots spare m → HasSlots spare n
same_slots spare m n is h = fewer_slots spare m n (omega arith) h

-- after one of so many reassemblies ended
pub ended_slots : (old new : SpareBuffers) (m n : ℕ)
    → ((count : ℕ) → HasSlots old (count + 1) → HasSlots new count) → HasSlots old 1
    → HasSlots old m → n ≡ m - 1 → HasSlots new n
ended_slots old new m n keeps one all is =
    elim (cases_lt 0 m) [
      | inl some ↦ keeps n (fewer_slots old m (n + 1) (omega arith) all)
      | inr none ↦ keeps n (fewer_slots old 1 (n + 1) (omega arith) one)
    ]
