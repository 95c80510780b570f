-- What a reassembly buffer holds, and which fragments it shows.
use Rattle.std.specs.Prelude.{◌≡◌, ℕ, ◌+◌, ◌-◌, ◌<◌, ◌≤◌, ◌⊎◌, ◌↔◌, max, Bool, ◌&&◌, is_some, if◌then◌else◌, Option}
use Rattle.std.specs.Prelude.{Some, None, Result, Ok, Err, MatchResult, IsTrue, List, [], ◌∷◌, ◌++◌, length}
use Rattle.std.specs.Prelude.{slice_index, Any}
use Rattle.ep_base.specs.declared.net.ip_number.IpNumber.{IpNumber}
use Rattle.etherparse.specs.declared.defrag.ip_defrag_error.IpDefragError.{IpDefragError}
use Rattle.etherparse.specs.declared.defrag.ip_defrag_error.IpDefragError.TheVariants.{AllocationFailure}
use Rattle.etherparse.specs.declared.defrag.ip_frag_range.IpFragRange.{IpFragRange}
use Rattle.etherparse.specs.declared.defrag.stored_fragment.StoredFragment.{StoredFragment}
use Rattle.etherparse.specs.declared.defrag.stored_fragment.Location.{Location}
use Rattle.etherparse.specs.declared.defrag.stored_fragment.Location.TheVariants.{At}
use Rattle.etherparse.specs.declared.defrag.overlap_rule.OverlapRule.{OverlapRule}
use Rattle.etherparse.specs.declared.defrag.overlap_rule.OverlapRule.TheVariants.{Overwrites, Refuses}
use Rattle.etherparse.specs.Fragments.{Fragment, end_of, named_end, refusal_of, with_all_accepted, IsAccepted, Covered}
use Rattle.etherparse.specs.Fragments.{Complete}
use Rattle.etherparse.specs.IpDefragError.{is_overlap}
use Rattle.etherparse.specs.IpFragRange.{AreApart, AreOrdered, HasNumber, HasOffset, is_one_from_zero}
use Rattle.etherparse.specs.StoredFragment.{Keeps, IsLocation, stored_of}
use Rattle.etherparse.specs.FragmentBytes.{kept_bytes, Touched}
use Rattle.etherparse.specs.Room.{HasStoredRoom, Room, wanted_end}

-- what a buffer holds, beside the number of the protocol or nothing; one that refuses overlaps
-- stores its fragments without their bytes; and the capacity that it has
pub record Contents (Number : Type 0) : Type 0 where
  pub ip_number : Number
  pub bytes : List ℕ
  pub sections : List IpFragRange
  pub end : Option ℕ
  pub stored_fragments : Option (List StoredFragment)
  pub room : Room

-- the same with this capacity
abbrev pub with_room : {Number : Type 0} → Contents Number → Room → Contents Number
with_room buf room = record buf { room = room }

-- the same, whatever its capacity
abbrev pub SameButRoom : {Number : Type 0} → Contents Number → Contents Number → Type 0
SameButRoom old new = new ≡ with_room old new.room

-- there is capacity for a fragment: for its bytes, for a section, and for itself where fragments
-- are stored
pub record HasRoom {Number : Type 0} (buf : Contents Number) (f : Fragment) : Type 0 where
  pub bytes : wanted_end (length buf.bytes) (stored_of f) ≤ buf.room.for_bytes
  pub sections : length buf.sections + 1 ≤ buf.room.for_sections
  pub stored_fragments : HasStoredRoom buf.stored_fragments buf.room.for_fragments

-- what becomes of a fragment that covers an offset of an earlier one
abbrev pub rule_by : Option (List StoredFragment) → OverlapRule
rule_by None = Overwrites
rule_by (Some ms) = Refuses

-- the fragments that a new buffer of a rule stores
abbrev pub none_stored : OverlapRule → Option (List StoredFragment)
none_stored Overwrites = None
none_stored Refuses = Some []

abbrev pub rule_of : {Number : Type 0} → Contents Number → OverlapRule
rule_of buf = rule_by buf.stored_fragments

-- a buffer that is new, with this capacity
abbrev pub empty_of : {Number : Type 0} → Number → Option (List StoredFragment) → Room → Contents Number
empty_of ip_number stored_fragments room = record {
  ip_number = ip_number;
  bytes = [];
  sections = [];
  end = None;
  stored_fragments = stored_fragments;
  room = room;
}

-- what an error leaves of a buffer: all of it, but after an overlap it is as one that is new
abbrev pub left_after : {Number : Type 0} → IpDefragError → Contents Number → Contents Number
left_after e buf = if is_overlap e then empty_of buf.ip_number (Some []) buf.room else buf

-- the buffer has the contents that these fragments give, the oldest first
pub record Shows {Number : Type 0} (buf : Contents Number) (fs : List Fragment) : Type 0 where
  pub ended : buf.end ≡ named_end fs
  pub kept : buf.bytes ≡ kept_bytes fs
  pub apart : AreApart buf.sections
  pub numbers : (n : ℕ) → Any (λ s. HasNumber s n) buf.sections ↔ Touched fs n
  pub offsets : (p : ℕ) → Any (λ s. HasOffset s p) buf.sections ↔ Covered fs p
  pub stored_fragments : Keeps buf.stored_fragments fs

-- the buffer has the contents of fragments each of which was accepted
abbrev pub ShowsAccepted : {Number : Type 0} → Contents Number → Type 0
ShowsAccepted buf = ∥ ((fs : List Fragment) × IsAccepted (rule_of buf) fs × Shows buf fs) ∥₁

-- so has every buffer, and its sections are in order
pub record IsSound {Number : Type 0} (buf : Contents Number) : Type 0 where
  pub shows_accepted : ShowsAccepted buf
  pub ordered : AreOrdered buf.sections

-- an end is known, and there is one section, from 0 on
abbrev pub is_whole : {Number : Type 0} → Contents Number → Bool
is_whole buf = is_some buf.end && is_one_from_zero buf.sections

-- a fragment is taken unless there is a reason to refuse it, which is answered, or it is out of
-- memory
abbrev pub AnswersAdd : {X : Type 0} → Option IpDefragError → ℕ → Result X IpDefragError → Type 0
AnswersAdd refusal end result = MatchResult result (λ _. refusal ≡ None)
    (λ e. (refusal ≡ Some e) ⊎ (refusal ≡ None) × (e ≡ AllocationFailure end))

-- adding these fragments after those of the list stopped at one that isn't refused but finds no
-- memory, and the buffer shows the accepted ones before it
pub record Stops {Number : Type 0} (rule : OverlapRule) (fs fragments : List Fragment)
    (buf : Contents Number) (error : IpDefragError) : Type 0 where
  pub before : List Fragment
  pub next : Fragment
  pub following : List Fragment
  pub in_order : fragments ≡ before ++ next ∷ following
  pub shown : Shows buf (with_all_accepted rule fs before)
  pub unrefused : refusal_of rule (with_all_accepted rule fs before) next ≡ None
  pub memory : error ≡ AllocationFailure (end_of next)

-- the bytes after some are written at an index, with 0 at each new index before it
pub record Writes (old new : List ℕ) (start : ℕ) (bytes : List ℕ) : Type 0 where
  pub size : length new ≡ max (length old) (start + length bytes)
  pub written : (p : ℕ) → start ≤ p → p < start + length bytes
      → slice_index new p ≡ slice_index bytes (p - start)
  pub kept : (p : ℕ) → (p < start) ⊎ (start + length bytes ≤ p)
      → slice_index new p ≡ slice_index old p

-- what a buffer finds where it looks for a fragment: one that doesn't refuse overlaps looks for none
abbrev pub FindsAmong : {Number : Type 0} → Option (List StoredFragment) → Contents Number → StoredFragment
    → (bytes : List ℕ) → Location → Type 0
FindsAmong None buf stored_fragment bytes location = location ≡ At 0
FindsAmong (Some ms) buf stored_fragment bytes location = IsLocation ms buf.sections buf.bytes stored_fragment bytes location

abbrev pub FindsLocation : {Number : Type 0} → Contents Number → StoredFragment → (bytes : List ℕ) → Location
    → Type 0
FindsLocation buf stored_fragment bytes location = FindsAmong buf.stored_fragments buf stored_fragment bytes location

-- a value, unless it is refused
abbrev pub unless_refused : {X : Type 0} → Option IpDefragError → X → Result X IpDefragError
unless_refused None x = Ok x
unless_refused (Some e) x = Err e

-- of every buffer that shows fragments: an end is known and there is one section, from 0 on,
-- exactly where the fragments are complete
abbrev pub Cover : Type 0
Cover = (buf : Contents IpNumber) (fs : List Fragment) → Shows buf fs
    → IsTrue (is_whole buf) ↔ Complete fs
