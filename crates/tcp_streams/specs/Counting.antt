-- What is counted of the connections between two endpoints while they are followed.
use Rattle.std.specs.Prelude.{◌≡◌, ℕ, ◌+◌, ◌-◌, ◌^◌, if◌then◌else◌, is_some, min, Option, Some, None}
use Rattle.std.specs.Prelude.{List, [], ◌∷◌, ◌++◌, fold, map, sum_by}
use Rattle.tcp_streams.specs.declared.direction.Direction.{Direction}
use Rattle.tcp_streams.specs.declared.direction.Direction.TheVariants.{FromLower, FromHigher}
use Rattle.tcp_streams.specs.declared.follower.FollowedSegment.{FollowedSegment}
use Rattle.tcp_streams.specs.declared.follower.Follower.{Follower}
use Rattle.tcp_streams.specs.declared.gaps.Gap.{Gap}
use Rattle.tcp_streams.specs.declared.segment_flags.SegmentFlags.{SegmentFlags}
use Rattle.tcp_streams.specs.declared.stream_counter.StreamCounter.{StreamCounter}
use Rattle.tcp_streams.specs.declared.stream_counter.StreamCounts.{StreamCounts}
use Rattle.tcp_streams.specs.ConnectionStates.{by_direction}
use Rattle.tcp_streams.specs.FlowKeys.{other_direction}
use Rattle.tcp_streams.specs.Following.{Connection, ConnectionSegment, Follows, IsFollowed, connection_segment, connection_with}
use Rattle.tcp_streams.specs.Following.{connection_without, held_size, lost_on, no_connection, side_in}
use Rattle.tcp_streams.specs.StreamBuf.{IsGapIn}

-- ---- what becomes of a segment

-- a segment, and the number by which it acknowledges, if it has ACK
pub record Arrival : Type 0 where
  pub segment : ConnectionSegment
  pub acknowledgment : Option ℕ

abbrev pub arrival : Direction → (number : ℕ) → (acknowledgment : Option ℕ) → SegmentFlags → (payload : List ℕ) → Arrival
arrival direction number acknowledgment flags payload = record {
  segment = connection_segment direction number flags (is_some acknowledgment) payload;
  acknowledgment = acknowledgment;
}

-- the number by which bytes may be given up: one with RST acknowledges none
abbrev pub number_of : SegmentFlags → (acknowledgment : Option ℕ) → Option ℕ
number_of flags acknowledgment = if flags.rst then None else acknowledgment

-- what a number says to be lost
abbrev pub IsLost : (kept : ℕ) → Connection → Direction → (number : ℕ) → Option Gap → Type 0
IsLost kept connection direction number lost =
    let side = side_in direction connection in
    (first : Option Gap) × IsGapIn side.segments first × (lost ≡ lost_on kept side first number)

-- gaps are given up one after the other, each of which is lost after those before it
abbrev pub AreLost : (kept : ℕ) → Connection → Direction → (number : ℕ) → List Gap → Type 0
AreLost kept connection direction number [] = Unit {0}
AreLost kept connection direction number (gap ∷ gaps) = IsLost kept connection direction number (Some gap)
    × AreLost kept (connection_without connection direction (Some gap)) direction number gaps

abbrev pub connection_without_all : Connection → Direction → List Gap → Connection
connection_without_all connection direction gaps =
    fold (λ (c : Connection) (gap : Gap). connection_without c direction (Some gap)) connection gaps

-- and nothing is lost after them; without a number nothing is lost
abbrev pub AreAllLost : (kept : ℕ) → Connection → Direction → (number : Option ℕ) → List Gap → Type 0
AreAllLost kept connection direction None gaps = gaps ≡ []
AreAllLost kept connection direction (Some number) gaps = AreLost kept connection direction number gaps
    × IsLost kept (connection_without_all connection direction gaps) direction number None

-- what becomes of it: the gaps of the other direction whose bytes it acknowledges, which are given up before it comes; and
-- what it does then
pub record Outcome : Type 0 where
  pub lost : List Gap
  pub followed : FollowedSegment

abbrev pub connection_before : Connection → Arrival → Outcome → Connection
connection_before connection a outcome =
    connection_without_all connection (other_direction a.segment.direction) outcome.lost

pub record IsOutcome (kept : ℕ) (connection : Connection) (a : Arrival) (outcome : Outcome) : Type 0 where
  pub lost : AreAllLost kept connection (other_direction a.segment.direction)
      (number_of a.segment.segment.flags a.acknowledgment) outcome.lost
  pub followed : IsFollowed kept (connection_before connection a outcome) a.segment outcome.followed

-- the connection after it
abbrev pub connection_past : (kept : ℕ) → Connection → Arrival × Outcome → Connection
connection_past kept connection e = connection_with kept (connection_before connection e.0 e.1) e.0.segment

-- how many bytes are lost
abbrev pub lost_size : List Gap → ℕ
lost_size gaps = sum_by (λ gap. gap.end - gap.start) gaps

-- a follower that followed a connection gives up what a number says to be lost, so many bytes
abbrev pub GivesUpAll : (kept : ℕ) → Connection → Direction → (number : Option ℕ) → Follower → (missing : ℕ) → Type 0
GivesUpAll kept connection direction number follower missing = (gaps : List Gap)
    × AreAllLost kept connection direction number gaps
    × Follows follower (connection_without_all connection direction gaps)
    × (missing ≡ min (lost_size gaps) (2 ^ 64 - 1))

-- and takes a segment
abbrev pub IsFollowedAs : (kept : ℕ) → Connection → Arrival → Follower → FollowedSegment → (missing : ℕ) → Type 0
IsFollowedAs kept connection a follower followed missing = (gaps : List Gap) ×
    let outcome : Outcome = record { lost = gaps; followed = followed } in
    IsOutcome kept connection a outcome × Follows follower (connection_past kept connection (a, outcome))
    × (missing ≡ min (lost_size gaps) (2 ^ 64 - 1))

-- ---- what becomes of segments, the oldest first

abbrev pub Course : Type 0
Course = List (Arrival × Outcome)

abbrev pub AreOutcomes : (kept : ℕ) → Connection → Course → Type 0
AreOutcomes kept connection [] = Unit {0}
AreOutcomes kept connection (e ∷ es) =
    IsOutcome kept connection e.0 e.1 × AreOutcomes kept (connection_past kept connection e) es

abbrev pub connection_in : (kept : ℕ) → Course → Connection
connection_in kept course = fold (connection_past kept) no_connection course

abbrev pub course_arrivals : Course → List Arrival
course_arrivals course = map (λ e. e.0) course

-- ---- what is counted

-- of a direction: what its segments do, and the bytes that segments of the other one give up
abbrev pub counts_of : Direction → Course → StreamCounts
counts_of own course = record {
  repeated = min (sum_by (λ e. by_direction own e.0.segment.direction e.1.followed.repeated 0) course) (2 ^ 64 - 1);
  gaps = min (sum_by (λ e. by_direction own e.0.segment.direction (if e.1.followed.begins_gap then 1 else 0) 0) course)
      (2 ^ 64 - 1);
  missing = min (sum_by (λ e. by_direction own e.0.segment.direction 0 (lost_size e.1.lost)) course) (2 ^ 64 - 1);
  conflicts = min (sum_by (λ e. by_direction own e.0.segment.direction e.1.followed.conflicts.count 0) course)
      (2 ^ 64 - 1);
}

-- with what a segment of the direction does
abbrev pub counts_with : StreamCounts → FollowedSegment → StreamCounts
counts_with counts followed = record {
  repeated = min (counts.repeated + followed.repeated) (2 ^ 64 - 1);
  gaps = min (counts.gaps + (if followed.begins_gap then 1 else 0)) (2 ^ 64 - 1);
  missing = counts.missing;
  conflicts = min (counts.conflicts + followed.conflicts.count) (2 ^ 64 - 1);
}

-- with bytes of it that are given up
abbrev pub counts_without : StreamCounts → (missing : ℕ) → StreamCounts
counts_without counts missing = record counts { missing = min (counts.missing + missing) (2 ^ 64 - 1) }

-- and what a segment of its direction does, beside the bytes of the other direction that it gives up
abbrev pub counter_with : Direction → FollowedSegment → (missing : ℕ) → StreamCounter → StreamCounter
counter_with direction followed missing counter = record counter {
  from_lower = by_direction FromLower direction (counts_with counter.from_lower followed)
      (counts_without counter.from_lower missing);
  from_higher = by_direction FromHigher direction (counts_with counter.from_higher followed)
      (counts_without counter.from_higher missing);
}

abbrev pub counts_in : Direction → StreamCounter → StreamCounts
counts_in FromLower counter = counter.from_lower
counts_in FromHigher counter = counter.from_higher

-- how much it holds
abbrev pub size_in : Option Follower → ℕ
size_in None = 0
size_in (Some follower) = held_size follower

-- the segments are followed to the last one, or no more
abbrev pub IsUpTo : (kept : ℕ) → Option Follower → Course → (rest : List Arrival) → Type 0
IsUpTo kept None course rest = Unit {0}
IsUpTo kept (Some follower) course rest =
    (follower.window ≡ kept) × Follows follower (connection_in kept course) × (rest ≡ [])

-- a counter counts these segments, of which the last ones aren't followed
pub record CountsCourse (kept : ℕ) (counter : StreamCounter) (course : Course) (rest : List Arrival) : Type 0 where
  pub outcomes : AreOutcomes kept no_connection course
  pub up_to : IsUpTo kept counter.follower course rest
  pub from_lower : counter.from_lower ≡ counts_of FromLower course
  pub from_higher : counter.from_higher ≡ counts_of FromHigher course

-- it counts these segments: as long as it follows them all of them, and else the first ones
abbrev pub Counts : (kept : ℕ) → StreamCounter → List Arrival → Type 0
Counts kept counter arrivals = (course : Course) × (rest : List Arrival)
    × (arrivals ≡ course_arrivals course ++ rest) × CountsCourse kept counter course rest
