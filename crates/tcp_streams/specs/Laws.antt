-- What holds of all lists of segments.
use Rattle.std.specs.Prelude.{◌≡◌, ℕ, ◌+◌, ◌%◌, ◌^◌, ◌<◌, ◌≤◌, ◌↔◌, nat_lt, nat_le, Bool, false, ◌&&◌, IsTrue}
use Rattle.std.specs.Prelude.{Option, Some, is_some, if◌then◌else◌, List, [], ◌∷◌, ◌++◌, length, take, drop}
use Rattle.std.specs.Prelude.{IsSome, slice_index, map, Contains}
use Rattle.std.specs.List.{list_any, AllByRecursion}
use Rattle.std.specs.Option.{option_map}
use Rattle.tcp_streams.specs.declared.gaps.Gap.{Gap}
use Rattle.tcp_streams.specs.Following.{Side, placed_on, side_without}
use Rattle.tcp_streams.specs.Losses.{given_up}
use Rattle.tcp_streams.specs.Segments.{Segment, first_number, placed, next_position, start_number}
use Rattle.tcp_streams.specs.Refusals.{refusal_of}
use Rattle.tcp_streams.specs.PlacedSegments.{Placed, byte_at, end_of, text_of, conflicts_of}

-- ---- segments of one text

-- the bytes of a segment are those of a text at its position
pub record IsPartOf (text : List ℕ) (s : Placed) : Type 0 where
  pub fits : end_of s ≤ length text
  pub same : (i : ℕ) → i < length s.bytes → slice_index s.bytes i ≡ slice_index text (s.position + i)

-- some segment has a byte at the position
abbrev pub is_covered : List Placed → ℕ → Bool
is_covered ss p = list_any (λ s. nat_le s.position p && nat_lt p (end_of s)) ss

-- segments of one text, cut, repeated, overlapping and in any order, have no conflict
abbrev pub OneTextHasNoConflict : Type 0
OneTextHasNoConflict = (text : List ℕ) (ss : List Placed) → AllByRecursion (IsPartOf text) ss
    → conflicts_of ss ≡ []

-- they give a prefix of it
abbrev pub OneTextGivesPrefix : Type 0
OneTextGivesPrefix = (text : List ℕ) (ss : List Placed) → AllByRecursion (IsPartOf text) ss
    → text_of ss ≡ take (length (text_of ss)) text

-- and all of it, where none of its bytes is missing
abbrev pub OneTextGivesAll : Type 0
OneTextGivesAll = (text : List ℕ) (ss : List Placed) → AllByRecursion (IsPartOf text) ss
    → ((p : ℕ) → p < length text → IsTrue (is_covered ss p)) → text_of ss ≡ text

-- a segment has the bytes of a text from an offset on, where the first byte of the text has this
-- number, and no RST
pub record IsCutOf (text : List ℕ) (start offset : ℕ) (s : Segment) : Type 0 where
  pub no_reset : s.flags.rst ≡ false
  pub number : first_number s.number s.flags ≡ (start + offset) % 2 ^ 32
  pub fits : offset + length s.payload ≤ length text
  pub bytes : s.payload ≡ take (length s.payload) (drop offset text)

-- less than half of all numbers lie between the offset and the position that is expected next, as
-- where the window isn't greater than RFC 7323 allows (section 2.3)
pub record IsNear (offset next : ℕ) : Type 0 where
  pub ahead : offset < next + 2 ^ 31
  pub back : next ≤ offset + 2 ^ 31

-- such a segment, placed, is a part of the text, wherever it comes
abbrev pub CutsArePlaced : Type 0
CutsArePlaced = (text : List ℕ) (start offset taken : ℕ) (ss : List Placed) (s : Segment)
    → IsCutOf text start offset s → IsNear offset (next_position ss) → taken ≤ length text
    → IsPartOf text (placed (Some start) taken ss s)

-- ---- what stays

-- what a stream has shown never changes, whatever comes
abbrev pub TextStays : Type 0
TextStays = (ss ts : List Placed) → take (length (text_of ss)) (text_of (ss ++ ts)) ≡ text_of ss

-- where there is no conflict, neither the order of segments matters nor how often each came
abbrev pub OrderDoesNotMatter : Type 0
OrderDoesNotMatter = (ss ts : List Placed) → conflicts_of ss ≡ []
    → ((s : Placed) → Contains ss s ↔ Contains ts s) → (conflicts_of ts ≡ []) × (text_of ts ≡ text_of ss)

-- a byte that came stays at its position where others are given up
abbrev pub BytesStay : Type 0
BytesStay = (ss : List Placed) (gap : Gap) (p : ℕ) → IsSome (byte_at ss p)
    → byte_at (ss ++ given_up gap ∷ []) p ≡ byte_at ss p

-- of a segment that comes after the first missing bytes of a side were given up, those at their positions and before them
-- are left out
abbrev pub LateBytesAreLeftOut : Type 0
LateBytesAreLeftOut = (kept : ℕ) (side : Side) (gap : Gap) (s : Segment) → gap.start ≡ length (text_of side.segments)
    → gap.start < gap.end → gap.end ≤ (placed_on kept (side_without side (Some gap)) s).position

-- ---- the number of the first byte

-- a segment, and how many bytes were taken when it came
pub record ReceivedSegment : Type 0 where
  pub taken : ℕ
  pub segment : Segment

-- the list with this segment at its end, unless it is refused
abbrev pub with_accepted : (window : ℕ) → Option ℕ → List Placed → ReceivedSegment → List Placed
with_accepted window start ss a =
    let s = placed start a.taken ss a.segment in
    if is_some (refusal_of window a.taken ss s) then ss else ss ++ s ∷ []

-- the number of position 0 after it
abbrev pub start_after : (window : ℕ) → Option ℕ → List Placed → ReceivedSegment → Option ℕ
start_after window start ss a =
    if is_some (refusal_of window a.taken ss (placed start a.taken ss a.segment)) then start
    else Some (start_number start a.segment.number a.segment.flags)

-- those of the segments that are accepted, each after those before it
abbrev pub with_all_accepted : (window : ℕ) → Option ℕ → List Placed → List ReceivedSegment → List Placed
with_all_accepted window start ss [] = ss
with_all_accepted window start ss (a ∷ rest) =
    with_all_accepted window (start_after window start ss a) (with_accepted window start ss a) rest

-- the same segments with numbers that are greater by so many
abbrev pub number_later : ℕ → ℕ → ℕ
number_later k n = (n + k) % 2 ^ 32

abbrev pub segment_later : ℕ → ReceivedSegment → ReceivedSegment
segment_later k a = record a { segment = record a.segment { number = number_later k a.segment.number } }

-- what becomes of segments doesn't depend on the number of the first byte
abbrev pub NumbersAreRelative : Type 0
NumbersAreRelative = (window k : ℕ) (start : Option ℕ) (arrivals : List ReceivedSegment)
    → with_all_accepted window (option_map (number_later k) start) [] (map (segment_later k) arrivals)
    ≡ with_all_accepted window start [] arrivals
