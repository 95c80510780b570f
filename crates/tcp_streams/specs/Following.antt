-- A connection that is followed: its state, and the segments of both directions that were accepted.
use Rattle.std.specs.Prelude.{◌≡◌, ℕ, ◌-◌, ◌*◌, ◌≤◌, ◌==◌, ◌+◌, ◌%◌, ◌^◌, Bool, true, false, not, ◌&&◌, ◌||◌, if◌then◌else◌, is_some, max, min}
use Rattle.std.specs.Prelude.{List, [], ◌∷◌, ◌++◌, fold, length, Option, Some, None}
use Rattle.tcp_streams.specs.declared.connection_state.ConnectionState.{ConnectionState}
use Rattle.tcp_streams.specs.declared.connection_state.ConnectionState.TheVariants.{Unseen, SynSent, SynReceived}
use Rattle.tcp_streams.specs.declared.connection_state.ConnectionState.TheVariants.{Established, Closing, Closed, Reset}
use Rattle.tcp_streams.specs.declared.connection_state.Control.{Control}
use Rattle.tcp_streams.specs.declared.connection_state.Control.TheVariants.{Rst, Syn, SynAck, Fin, Ack, Nothing}
use Rattle.tcp_streams.specs.declared.direction.Direction.{Direction}
use Rattle.tcp_streams.specs.declared.direction.Direction.TheVariants.{FromLower, FromHigher}
use Rattle.tcp_streams.specs.declared.follower.Follower.{Follower}
use Rattle.tcp_streams.specs.declared.follower.FollowedSegment.{FollowedSegment}
use Rattle.tcp_streams.specs.declared.gaps.Gap.{Gap}
use Rattle.tcp_streams.specs.declared.refusal.Refused.{Refused}
use Rattle.tcp_streams.specs.declared.refusal.Refused.TheVariants.{OutsideWindow, AfterFin, AfterReset, OutOfMemory}
use Rattle.tcp_streams.specs.declared.segment_flags.SegmentFlags.{SegmentFlags}
use Rattle.tcp_streams.specs.ConnectionStates.{control_in, state_after}
use Rattle.tcp_streams.specs.Losses.{given_up, lost_of}
use Rattle.tcp_streams.specs.Segments.{Segment, placed, repeated_of, segment, start_number}
use Rattle.tcp_streams.specs.Refusals.{refusal_of}
use Rattle.tcp_streams.specs.PlacedSegments.{Placed, conflicts_with, text_of}
use Rattle.tcp_streams.specs.SparseBytes.{counted, size_of}
use Rattle.tcp_streams.specs.StreamBuf.{Contents, Shows, IsGapIn}

-- ---- one direction

-- the number of position 0, once a segment was accepted; whether the first of them had no SYN; those that were, the
-- oldest first; and the end of the last bytes that were given up
pub record Side : Type 0 where
  pub start : Option ℕ
  pub joined_late : Bool
  pub segments : List Placed
  pub given_up : ℕ

abbrev pub no_side : Side
no_side = record { start = None; joined_late = false; segments = []; given_up = 0 }

-- of the bytes up to the first gap the last ones are kept, so many at most, and only those after bytes that were given up;
-- those before them aren't
abbrev pub taken_of : (kept : ℕ) → Side → ℕ
taken_of kept side = max (length (text_of side.segments) - kept) side.given_up

-- a segment at its place
abbrev pub placed_on : (kept : ℕ) → Side → Segment → Placed
placed_on kept side s = placed side.start (taken_of kept side) side.segments s

-- why it is refused: the window has as many bytes that are missing as ones that are kept
abbrev pub refusal_on : (kept : ℕ) → Side → Segment → Option Refused
refusal_on kept side s =
    refusal_of (2 * kept) (taken_of kept side) side.segments (placed_on kept side s)

-- the side with it, unless it is refused
abbrev pub side_with : (kept : ℕ) → Side → Segment → Side
side_with kept side s = if is_some (refusal_on kept side s) then side else record {
  start = Some (start_number side.start s.number s.flags);
  joined_late = if is_some side.start then side.joined_late else not s.flags.syn;
  segments = side.segments ++ placed_on kept side s ∷ [];
  given_up = side.given_up;
}

-- the bytes that are lost, by a number of the other endpoint that acknowledges, where this is the first gap
abbrev pub lost_on : (kept : ℕ) → Side → (first : Option Gap) → (number : ℕ) → Option Gap
lost_on kept side first number = lost_of (2 * kept) (taken_of kept side) side.start side.segments first number

-- the side with bytes given up: a segment that has bytes at their positions comes too late, and changes nothing
abbrev pub side_without : Side → Option Gap → Side
side_without side None = side
side_without side (Some gap) =
    record side { segments = side.segments ++ given_up gap ∷ []; given_up = gap.end }

-- ---- both

-- a segment, its direction, and whether it acknowledges something
pub record ConnectionSegment : Type 0 where
  pub direction : Direction
  pub ack : Bool
  pub segment : Segment

abbrev pub connection_segment : Direction → (number : ℕ) → SegmentFlags → (ack : Bool) → (payload : List ℕ)
    → ConnectionSegment
connection_segment direction number flags ack payload =
    record { direction = direction; ack = ack; segment = segment number flags payload }

abbrev pub control_with : SegmentFlags → (ack : Bool) → Control
control_with flags ack = control_in flags.syn ack flags.fin flags.rst

abbrev pub control_on : ConnectionSegment → Control
control_on s = control_with s.segment.flags s.ack

pub record Connection : Type 0 where
  pub state : ConnectionState
  pub from_lower : Side
  pub from_higher : Side

abbrev pub no_connection : Connection
no_connection = record { state = Unseen; from_lower = no_side; from_higher = no_side }

-- SYN without ACK
abbrev pub opens : Control → Bool
opens Rst = false
opens Syn = true
opens SynAck = false
opens Fin = false
opens Ack = false
opens Nothing = false

-- FIN of both endpoints came, or RST
abbrev pub is_ended : ConnectionState → Bool
is_ended Unseen = false
is_ended (SynSent opener) = false
is_ended (SynReceived opener) = false
is_ended Established = false
is_ended (Closing closer) = false
is_ended Closed = true
is_ended Reset = true

-- position 0 has another number than this one
abbrev pub begins_elsewhere : (start : Option ℕ) → (number : ℕ) → Bool
begins_elsewhere None number = false
begins_elsewhere (Some start) number = not (start == number)

-- SYN without ACK begins a new connection after the end of one, and also before it, where position 0 of its direction
-- hasn't the number after that of SYN: an endpoint uses its port again (RFC 9293, section 3.6.1). The same number is a repeat
abbrev pub begins_anew_by : ConnectionState → (start : Option ℕ) → (number : ℕ) → Control → Bool
begins_anew_by state start number control =
    opens control && (is_ended state || begins_elsewhere start ((number + 1) % 2 ^ 32))

abbrev pub side_in : Direction → Connection → Side
side_in FromLower connection = connection.from_lower
side_in FromHigher connection = connection.from_higher

abbrev pub with_side : Direction → Connection → Side → Connection
with_side FromLower connection side = record connection { from_lower = side }
with_side FromHigher connection side = record connection { from_higher = side }

abbrev pub begins_anew : Connection → Direction → (number : ℕ) → Control → Bool
begins_anew connection direction number control =
    begins_anew_by connection.state (side_in direction connection).start number control

-- the connection that a segment is one of
abbrev pub connection_for : Connection → Direction → (number : ℕ) → Control → Connection
connection_for connection direction number control =
    if begins_anew connection direction number control then no_connection else connection

abbrev pub connection_of : Connection → ConnectionSegment → Connection
connection_of connection s = connection_for connection s.direction s.segment.number (control_on s)

-- that connection with the segment
abbrev pub with_state : ConnectionState → Connection → Connection
with_state state connection = record connection { state = state }

abbrev pub connection_with_counted : (kept : ℕ) → Connection → ConnectionSegment → Connection
connection_with_counted kept earlier s =
    let connection = connection_of earlier s in
    with_state (state_after connection.state s.direction (control_on s))
    (with_side s.direction connection (side_with kept (side_in s.direction connection) s.segment))

-- one with neither SYN, ACK nor RST changes nothing: in each state endpoints drop it (RFC 9293, section 3.10.7)
abbrev pub counts : Control → Bool
counts Rst = true
counts Syn = true
counts SynAck = true
counts Fin = true
counts Ack = true
counts Nothing = false

abbrev pub connection_with : (kept : ℕ) → Connection → ConnectionSegment → Connection
connection_with kept earlier s =
    if counts (control_on s) then connection_with_counted kept earlier s else earlier

-- the connection with bytes of a direction given up
abbrev pub connection_without : Connection → Direction → Option Gap → Connection
connection_without connection direction lost =
    with_side direction connection (side_without (side_in direction connection) lost)

-- what happens to a follower: a segment comes, or bytes that are lost are given up
pub data Step : Type 0 where
  Comes : (segment : ConnectionSegment) → Step
  GivesUp : (direction : Direction) → (lost : Option Gap) → Step

abbrev pub connection_with_step : (kept : ℕ) → Connection → Step → Connection
connection_with_step kept connection (Comes s) = connection_with kept connection s
connection_with_step kept connection (GivesUp direction lost) = connection_without connection direction lost

-- the connection after these, the oldest first
abbrev pub connection_after : (kept : ℕ) → List Step → Connection
connection_after kept steps = fold (connection_with_step kept) no_connection steps

-- ---- what a segment does

-- a gap that begins elsewhere than the one before, or where there was none
abbrev pub new_gap : (before after : Option Gap) → Option Gap
new_gap None after = after
new_gap (Some before) None = None
new_gap (Some before) (Some after) = if before.start == after.start then None else Some after

-- bytes begin to be missing: there is a first gap, and there was none
abbrev pub gap_begins : (before after : Option Gap) → Bool
gap_begins before after = not (is_some before) && is_some after

-- a segment is refused for what it is, and not since there is no memory
abbrev pub is_of_segment : Refused → Bool
is_of_segment (OutsideWindow window_end) = true
is_of_segment (AfterFin fin) = true
is_of_segment AfterReset = true
is_of_segment OutOfMemory = false

-- the bytes that it makes available begin where those ended that were available; which gap begins, at
-- how many positions it differs, how many of its bytes it repeats, and why it is refused
pub record IsTaken (kept : ℕ) (side : Side) (s : Segment) (taken : FollowedSegment) : Type 0 where
  pub position : taken.position ≡ length (text_of side.segments)
  pub gap : (before : Option Gap) × (after : Option Gap) × IsGapIn side.segments before
      × IsGapIn (side_with kept side s).segments after × (taken.gap ≡ new_gap before after)
      × (taken.begins_gap ≡ gap_begins before after)
  pub conflicts : taken.conflicts ≡ counted (if is_some (refusal_on kept side s) then []
      else conflicts_with side.segments (placed_on kept side s))
  pub repeated : taken.repeated ≡ (if is_some (refusal_on kept side s) then 0
      else repeated_of side.segments s (placed_on kept side s))
  pub refused : taken.refused ≡ refusal_on kept side s

-- and whether it begins a new connection
pub record IsCounted (kept : ℕ) (earlier : Connection) (s : ConnectionSegment) (followed : FollowedSegment)
    : Type 0 where
  pub anew : followed.begins_anew ≡ begins_anew earlier s.direction s.segment.number (control_on s)
  pub taken : IsTaken kept (side_in s.direction (connection_of earlier s)) s.segment followed

-- one that changes nothing does nothing
pub record DoesNothing (side : Side) (followed : FollowedSegment) : Type 0 where
  pub anew : followed.begins_anew ≡ false
  pub position : followed.position ≡ length (text_of side.segments)
  pub gap : followed.gap ≡ None
  pub begins_gap : followed.begins_gap ≡ false
  pub conflicts : followed.conflicts ≡ counted []
  pub repeated : followed.repeated ≡ 0
  pub refused : followed.refused ≡ None

pub record IsFollowed (kept : ℕ) (earlier : Connection) (s : ConnectionSegment) (followed : FollowedSegment)
    : Type 0 where
  pub counted : counts (control_on s) ≡ true → IsCounted kept earlier s followed
  pub left_out : counts (control_on s) ≡ false → DoesNothing (side_in s.direction earlier) followed

-- ---- what a follower holds

-- a buffer shows a side, whose last bytes it keeps, so many at least
pub record ShowsSide (kept : ℕ) (buf : Contents) (side : Side) : Type 0 where
  pub shows : Shows buf side.segments
  pub start : buf.start ≡ side.start
  pub joined_late : buf.joined_late ≡ side.joined_late
  pub window : buf.window ≡ 2 * kept
  pub taken : buf.held.taken ≤ taken_of kept side
  pub given_up : side.given_up ≤ buf.held.taken

-- the buffer of a direction
abbrev pub buf_in : Direction → Follower → Contents
buf_in FromLower follower = follower.from_lower
buf_in FromHigher follower = follower.from_higher

-- how much both hold
abbrev pub held_size : Follower → ℕ
held_size follower = min (size_of follower.from_lower.held + size_of follower.from_higher.held) (2 ^ 64 - 1)

-- both buffers show those of a connection
pub record Follows (follower : Follower) (connection : Connection) : Type 0 where
  pub state : follower.state ≡ connection.state
  pub from_lower : ShowsSide follower.window follower.from_lower connection.from_lower
  pub from_higher : ShowsSide follower.window follower.from_higher connection.from_higher
