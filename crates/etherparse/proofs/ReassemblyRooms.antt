-- Spare buffers, by the capacity that they have, and the memory of a pool after a fragment.
use Rattle.std.proofs.Common.{◌≡◌, ℕ, ◌+◌, ◌≤◌, Bool, false, cond, Option, Some, None, Ok, Err, List, [], ◌∷◌, ◌++◌}
use Rattle.std.proofs.Common.{arith, refl, ap, ◌-◌, Vec, vec_capacity, vec_len}
use Rattle.etherparse.specs.declared.defrag.ip_frag_range.IpFragRange.{IpFragRange}
use Rattle.etherparse.specs.declared.defrag.ip_defrag_error.IpDefragError.{IpDefragError}
use Rattle.etherparse.specs.declared.defrag.overlap_rule.OverlapRule.{OverlapRule}
use Rattle.etherparse.specs.declared.defrag.overlap_rule.OverlapRule.TheVariants.{Overwrites, Refuses}
use Rattle.etherparse.specs.Fragments.{Fragment}
use Rattle.etherparse.specs.IpDefragBuf.{HasRoom, empty_of, none_stored}
use Rattle.etherparse.specs.Room.{NoLessRoom, new_room}
use Rattle.etherparse.specs.declared.defrag.spare_buffers.SpareBuffers.{SpareBuffers}
use Rattle.etherparse.specs.declared.defrag.reassembly.Reassembly.{Reassembly}
use Rattle.etherparse.specs.SpareBuffers.{HasSlots}
use Rattle.etherparse.specs.Memory.{CanBegin, EachNoLess, FindsRoom, KeepsMemory, Memory, capacities, next_room}
use Rattle.etherparse.specs.Memory.{without_next}

next_after : (rs : List ℕ) (r : ℕ) → next_room (rs ++ r ∷ []) ≡ r
next_after [] r = refl
next_after (a ∷ []) r = refl
next_after (a ∷ b ∷ rs) r = next_after (b ∷ rs) r

without_after : (rs : List ℕ) (r : ℕ) → without_next (rs ++ r ∷ []) ≡ rs
without_after [] r = refl
without_after (a ∷ []) r = refl
without_after (a ∷ b ∷ rs) r = ap (λ (l : List ℕ). a ∷ l) (without_after (b ∷ rs) r)

each_same : (rs : List ℕ) → EachNoLess rs rs
each_same [] = tt
each_same (r ∷ rs) = (omega arith, each_same rs)

-- the same buffers
pub each_is : {X Z : Type 0} (old new : List (Vec X Z)) → new ≡ old
    → EachNoLess (capacities old) (capacities new)
each_is old new is = rw is (each_same (capacities old))

each_after : (rs : List ℕ) (r s : ℕ) → r ≤ s → EachNoLess (rs ++ r ∷ []) (rs ++ s ∷ [])
each_after [] r s le = (le, tt)
each_after (a ∷ rs) r s le = (omega arith, each_after rs r s le)

no_prefix : (rs : List ℕ) → rs ++ [] ≡ [] → rs ≡ []
no_prefix [] is = refl
no_prefix (r ∷ rs) is = cc

-- ---- buffers that are taken and given back

-- the buffer with this capacity was taken next, if one was spare
pub record TakenNext (old rest : List ℕ) (room : ℕ) : Type 0 where
  pub remain : rest ≡ without_next old
  pub fits : next_room old ≤ room

taken_by : (taken : Bool) (old rest : List ℕ) (room : ℕ) → old ≡ rest ++ cond taken (room ∷ []) []
    → (taken ≡ false → old ≡ []) → TakenNext old rest room
taken_by taken old rest room is none = grind (arith, without_after, next_after, no_prefix)

pub taken_next : {X Z : Type 0} (taken : Bool) (old made rest : List (Vec X Z)) (room : ℕ)
    → made ≡ old → capacities made ≡ capacities rest ++ cond taken (room ∷ []) []
    → (taken ≡ false → made ≡ []) → TakenNext (capacities old) (capacities rest) room
taken_next taken old made rest room same is none =
    let found = taken_by taken (capacities made) (capacities rest) room is
    (λ t. ap capacities (none t)) in
    rw same at found

given_by : (taken : Bool) (old rest new : List ℕ) (room grown : ℕ) → room ≤ grown
    → old ≡ rest ++ cond taken (room ∷ []) [] → new ≡ rest ++ cond taken (grown ∷ []) []
    → EachNoLess old new
given_by taken old rest new room grown le was is = grind (arith, each_after, each_same)

-- it is given back, and may have grown
pub given_back : {X Z : Type 0} (taken : Bool) (old made rest new : List (Vec X Z))
    (room grown : ℕ) → room ≤ grown → made ≡ old
    → capacities made ≡ capacities rest ++ cond taken (room ∷ []) []
    → capacities new ≡ capacities rest ++ cond taken (grown ∷ []) []
    → EachNoLess (capacities old) (capacities new)
given_back taken old made rest new room grown le same was is =
    let each = given_by taken (capacities made) (capacities rest) (capacities new) room grown le was is in
    rw same at each

-- ---- a reassembly that starts

-- there is capacity in its buffer, over the spare ones that were taken
pub first_has_room : {A B : Type 0} (rule : OverlapRule) (f : Fragment) (n : ℕ) (m : Memory)
    (bytes : Vec ℕ A) (sections : Vec IpFragRange B) → CanBegin n m f
    → next_room m.bytes ≤ vec_capacity bytes → next_room m.sections ≤ vec_capacity sections
    → HasRoom (empty_of (tt {0}) (none_stored rule) (new_room bytes sections (none_stored rule))) f
first_has_room Overwrites f n m bytes sections can b s = record {
  bytes = omega (arith, can.bytes, b);
  sections = omega (arith, can.sections, s);
  stored_fragments = tt;
}
first_has_room Refuses f n m bytes sections can b s = record {
  bytes = omega (arith, can.bytes, b);
  sections = omega (arith, can.sections, s);
  stored_fragments = omega arith;
}

-- where no reassembly is there, the capacity that is found is that of one that starts
pub begins : {T : Type 0} (old : Option (Reassembly T)) (n : ℕ) (m : Memory) (f : Fragment)
    → old ≡ None → FindsRoom old n m f → CanBegin n m f
begins None n m f none found = found
begins (Some s) n m f none found = cc

-- the slots that are left once its bytes were returned
pub slot_left : (taken left : SpareBuffers) (n : ℕ) → left.bytes ≡ taken.bytes
    → HasSlots taken (n + 1) → n + 1 ≤ vec_capacity left.bytes - vec_len left.bytes
slot_left taken left n same h = rw same (omega (arith, h.bytes))

-- ---- the memory after a fragment

module _ {T X : Type 0} (old new : Option (Reassembly T)) (m m' : Memory) (n : ℕ) where
  -- it was refused, and its reassembly has ended, or did not start
  pub keeps_gone : (e : IpDefragError) → EachNoLess m.bytes m'.bytes
      → EachNoLess m.sections m'.sections → new ≡ None → KeepsMemory {X = X} (Err e) old new m m' n
  keeps_gone e bytes sections gone = grind arith

  -- it was refused, and its reassembly goes on
  pub keeps_going : (e : IpDefragError) (s t : Reassembly T) → EachNoLess m.bytes m'.bytes
      → EachNoLess m.sections m'.sections → old ≡ Some s → new ≡ Some t
      → NoLessRoom s.buf.room t.buf.room → KeepsMemory {X = X} (Err e) old new m m' n
  keeps_going e s t bytes sections was is more = grind arith

  -- it started its reassembly, which waits for more
  pub keeps_started : (t : Reassembly T) (b s : ℕ) → old ≡ None → new ≡ Some t
      → TakenNext m.bytes m'.bytes b → TakenNext m.sections m'.sections s
      → b ≤ t.buf.room.for_bytes → s ≤ t.buf.room.for_sections
      → KeepsMemory {X = X} (Ok None) old new m m' n
  keeps_started t b s none is bytes sections more more_sections = grind arith

  -- it was the whole datagram
  pub keeps_whole : (whole : X) (rest : List ℕ) (b s r h : ℕ) → old ≡ None → new ≡ None
      → TakenNext m.bytes m'.bytes b → TakenNext m.sections rest s
      → m'.sections ≡ rest ++ r ∷ [] → s ≤ r → n ≡ h → h + 1 ≤ m'.bytes_slots
      → KeepsMemory (Ok (Some whole)) old new m m' n
  keeps_whole whole rest b s r h none gone bytes sections given more is slot = grind arith
