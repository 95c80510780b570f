-- What is stored of the fragments of a datagram whose fragments may not overlap.
use Rattle.std.specs.Prelude.{◌≡◌, ℕ, ◌+◌, ◌≤◌, ◌<◌, ◌⊎◌, ◌↔◌, Bool, if◌then◌else◌, Option, Some, None, List, []}
use Rattle.std.specs.Prelude.{length, nat_eq, slice_index, Any, AllPairs, Contains}
use Rattle.std.specs.Bool.{beq}
use Rattle.std.specs.List.Sorted.{IsPartitionPoint}
use Rattle.std.specs.Ordering.{bool_cmp, eq_of_both, nat_cmp, on, ordering_then}
use Rattle.std.specs.declared.cmp.Ordering.{Ordering}
use Rattle.std.specs.declared.cmp.Ordering.TheVariants.{Greater, Less}
use Rattle.smallvec.specs.SmallVec.{SmallVec, HasRoomFor, small_vec_len}
use Rattle.etherparse.specs.declared.defrag.ip_frag_range.IpFragRange.{IpFragRange}
use Rattle.etherparse.specs.declared.defrag.stored_fragment.StoredFragment.{StoredFragment}
use Rattle.etherparse.specs.declared.defrag.stored_fragment.Location.{Location}
use Rattle.etherparse.specs.declared.defrag.stored_fragment.Location.TheVariants.{At, Clash, Repeat}
use Rattle.etherparse.specs.Fragments.{Fragment, start_of, end_of, AreDisjoint}
use Rattle.etherparse.specs.IpFragRange.{SharesWith}

-- the fragments that are stored, if they are
abbrev pub listed_in : Option (SmallVec StoredFragment) → Option (List StoredFragment)
listed_in None = None
listed_in (Some ms) = Some ms.items

-- none of them
abbrev pub emptied : Option (List StoredFragment) → Option (List StoredFragment)
emptied None = None
emptied (Some ms) = Some []

-- where they are stored there is capacity for one more, and this is the index of one or of the end
abbrev pub HasRoomForOne : Option (SmallVec StoredFragment) → Type 0
HasRoomForOne None = Unit {0}
HasRoomForOne (Some ms) = HasRoomFor ms 1

abbrev pub IsIndexIn : Option (SmallVec StoredFragment) → ℕ → Type 0
IsIndexIn None i = Unit {0}
IsIndexIn (Some ms) i = i ≤ small_vec_len ms

-- a fragment without its bytes
abbrev pub stored_of : Fragment → StoredFragment
stored_of f = record { start = start_of f; end = end_of f; more_fragments = f.more }

-- all fields are equal
abbrev pub same_stored : StoredFragment → StoredFragment → Bool
same_stored = eq_of_both (on (λ m. m.start) nat_eq)
    (eq_of_both (on (λ m. m.end) nat_eq) (on (λ m. m.more_fragments) beq))

-- by where they start, then by where they end, then by whether more follows
abbrev pub stored_cmp : StoredFragment → StoredFragment → Ordering
stored_cmp a b = ordering_then (nat_cmp a.start b.start)
    (ordering_then (nat_cmp a.end b.end) (bool_cmp a.more_fragments b.more_fragments))

-- in order, each once
abbrev pub AreListed : List StoredFragment → Type 0
AreListed ms = AllPairs (λ a b. stored_cmp a b ≡ Less) ms

-- those before an index come before a fragment, and those from it on after it
abbrev pub IsGapFor : List StoredFragment → StoredFragment → ℕ → Type 0
IsGapFor ms m i = IsPartitionPoint (λ a. stored_cmp a m ≡ Less) (λ a. stored_cmp a m ≡ Greater) ms i

-- these are the fragments, each once however often it came, and they are disjoint
pub record KeepsAll (ms : List StoredFragment) (fs : List Fragment) : Type 0 where
  pub stored_fragments : (m : StoredFragment) → Contains ms m ↔ Any (λ f. stored_of f ≡ m) fs
  pub listed : AreListed ms
  pub disjoint : AreDisjoint fs

-- what is stored, if it is
abbrev pub Keeps : Option (List StoredFragment) → List Fragment → Type 0
Keeps None fs = Unit {0}
Keeps (Some ms) fs = KeepsAll ms fs

-- the list holds the bytes from an index on
pub record HasBytes (there : List ℕ) (start : ℕ) (bytes : List ℕ) : Type 0 where
  pub fits : start + length bytes ≤ length there
  pub same : (k : ℕ) → k < length bytes → slice_index there (start + k) ≡ slice_index bytes k

-- the offsets that no other fragment may cover: its own, and all after it where it is the last one
abbrev pub reach_of : StoredFragment → IpFragRange
reach_of m =
    record { start = m.start; end = (if m.more_fragments then m.end else 65535) }

-- what is found where a fragment is looked for among the stored ones: it is one of them again, it
-- overlaps them, or it is put at an index
abbrev pub IsLocation : List StoredFragment → List IpFragRange → (there : List ℕ) → StoredFragment → (bytes : List ℕ)
    → Location → Type 0
IsLocation ms rs there m bytes Repeat = Contains ms m × HasBytes there m.start bytes
IsLocation ms rs there m bytes Clash = (Contains ms m × (HasBytes there m.start bytes → ⊥))
    ⊎ ((AreListed ms → Contains ms m → ⊥) × SharesWith rs (reach_of m))
IsLocation ms rs there m bytes (At i) =
    (i ≤ length ms) × (AreListed ms → IsGapFor ms m i) × (SharesWith rs (reach_of m) → ⊥)
