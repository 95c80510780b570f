-- What a buffer of one direction of a TCP connection holds, and which segments it shows.
use Rattle.std.specs.Prelude.{◌≡◌, ◌*◌, ℕ, ◌<◌, ◌≤◌, ◌⊎◌, Bool, not, ◌||◌, if◌then◌else◌, Option, Some, None}
use Rattle.std.specs.Prelude.{IsSome, IfSome, IfNone}
use Rattle.std.specs.Prelude.{is_some, unwrap_or, Result, MatchResult, List, ◌+◌, ◌++◌, ◌-◌, length, slice_index, take, drop}
use Rattle.tcp_streams.specs.declared.conflicts.Conflicts.{Conflicts}
use Rattle.tcp_streams.specs.declared.gaps.Gap.{Gap}
use Rattle.tcp_streams.specs.declared.stream_buf.Added.{Added}
use Rattle.tcp_streams.specs.declared.stream_buf.Location.{Location}
use Rattle.tcp_streams.specs.declared.refusal.Refused.{Refused}
use Rattle.tcp_streams.specs.declared.refusal.Refused.TheVariants.{OutOfMemory}
use Rattle.tcp_streams.specs.Segments.{Segment, start_number, next_after, distance_from, placed_at}
use Rattle.tcp_streams.specs.Refusals.{window_end, refusal_by}
use Rattle.tcp_streams.specs.PlacedSegments.{Placed, end_of, byte_at, last_end, fin_of, is_reset, text_of, clashes}
use Rattle.tcp_streams.specs.PlacedSegments.{conflicts_of}
use Rattle.tcp_streams.specs.SparseBytes.{Sparse, IsSparse, AddsBytes, byte_in, held_end, available_end, counted}

-- the size of the window; the number of position 0, once a segment came; whether SYN wasn't seen;
-- the bytes that aren't taken; the position of FIN; whether the connection was reset; and conflicts
pub record Contents : Type 0 where
  pub window : ℕ
  pub start : Option ℕ
  pub joined_late : Bool
  pub held : Sparse
  pub fin : Option ℕ
  pub is_reset : Bool
  pub conflicts : Conflicts

-- the buffer holds what these segments give
pub record Shows (buf : Contents) (ss : List Placed) : Type 0 where
  pub before : (p : ℕ) → p < buf.held.taken → IsSome (byte_at ss p)
  pub held : (p : ℕ) → buf.held.taken ≤ p → byte_in buf.held p ≡ byte_at ss p
  pub last : last_end ss ≡ held_end buf.held
  pub fin : buf.fin ≡ fin_of ss
  pub reset : buf.is_reset ≡ is_reset ss
  pub conflicts : buf.conflicts ≡ counted (conflicts_of ss)

-- the bytes fit into the window
pub record IsSound (buf : Contents) : Type 0 where
  pub sparse : IsSparse buf.held
  pub window : held_end buf.held ≤ window_end buf.window buf.held.taken

-- no more bytes are held than the window has, and no more than half as many gaps
abbrev pub IsBounded : Contents → Type 0
IsBounded buf = (length buf.held.bytes ≤ buf.window) × (2 * length buf.held.gaps ≤ length buf.held.bytes)

-- the bytes that follow those that were taken, up to the first gap
abbrev pub available_in : Sparse → List ℕ
available_in held = take (available_end held - held.taken) held.bytes

-- the first gap: it begins where the text ends, and no segment has a byte in it, but one has one
-- after it
pub record IsFirstGap (ss : List Placed) (gap : Gap) : Type 0 where
  pub start : gap.start ≡ length (text_of ss)
  pub order : gap.start < gap.end
  pub missing : (p : ℕ) → gap.start ≤ p → p < gap.end → byte_at ss p ≡ None
  pub end_held : IsSome (byte_at ss gap.end)

-- the first gap, if bytes are held after one
pub record IsGapIn (ss : List Placed) (gap : Option Gap) : Type 0 where
  pub some : IfSome gap (IsFirstGap ss)
  pub none : IfNone gap ((p : ℕ) → length (text_of ss) ≤ p → byte_at ss p ≡ None)

-- the bytes after a gap: no segment has one in the gap, and none has the one after them
pub record IsAfterGap (ss : List Placed) (gap : Gap) (bytes : List ℕ) : Type 0 where
  pub missing : (p : ℕ) → gap.start ≤ p → p < gap.end → byte_at ss p ≡ None
  pub some : 0 < length bytes
  pub held : (i : ℕ) → i < length bytes → byte_at ss (gap.end + i) ≡ Some (slice_index bytes i)
  pub past : byte_at ss (gap.end + length bytes) ≡ None

-- what is answered to a segment: the refusal, where there is one; else it is accepted, unless there
-- is no memory
abbrev pub AnswersAdd : {X : Type 0} → Option Refused → Result X Refused → Type 0
AnswersAdd refusal result = MatchResult result (λ _. refusal ≡ None)
    (λ e. (refusal ≡ Some e) ⊎ (refusal ≡ None) × (e ≡ OutOfMemory))

-- ---- the same by what a buffer holds

-- the position that is expected next
abbrev pub next_in : Contents → ℕ
next_in buf = next_after (available_end buf.held) buf.fin

-- a segment at its place
abbrev pub placed_in : Contents → Segment → Placed
placed_in buf s = placed_at (distance_from (next_in buf) (start_number buf.start s.number s.flags) s)
    (next_in buf) buf.held.taken s

-- why it is refused
abbrev pub refusal_in : Contents → Placed → Option Refused
refusal_in buf s = refusal_by (window_end buf.window buf.held.taken) buf.fin (held_end buf.held) buf.is_reset s

-- where a segment with these bytes stands
pub record IsLocation (location : Location) (bytes : List ℕ) (s : Placed) : Type 0 where
  pub position : location.position ≡ s.position
  pub skipped : location.skipped ≤ length bytes
  pub rest : drop location.skipped bytes ≡ s.bytes
  pub fin : location.fin ≡ s.fin
  pub reset : location.reset ≡ s.reset

-- the segment of these bytes that stands there
pub record IsLocated (location : Location) (rest : List ℕ) (s : Placed) : Type 0 where
  pub position : location.position ≡ s.position
  pub bytes : rest ≡ s.bytes
  pub fin : location.fin ≡ s.fin
  pub reset : location.reset ≡ s.reset

-- a buffer with one more segment, the number of whose first byte this is
pub record Accepts (old new : Contents) (s : Placed) (number : ℕ) (syn : Bool) : Type 0 where
  pub adds : AddsBytes old.held new.held s.position s.bytes
  pub window : new.window ≡ old.window
  pub start : new.start ≡ Some (unwrap_or old.start number)
  pub joined_late : new.joined_late ≡ (if is_some old.start then old.joined_late else not syn)
  pub fin : new.fin ≡ (if s.fin then Some (end_of s) else old.fin)
  pub reset : new.is_reset ≡ (old.is_reset || s.reset)
  pub conflicts : (ps : List ℕ) → old.conflicts ≡ counted ps
      → new.conflicts ≡ counted (ps ++ clashes (byte_in old.held) s.position s.bytes)

-- and what is returned of it
pub record IsAdded (old new : Contents) (s : Placed) (number : ℕ) (syn : Bool) (added : Added) : Type 0 where
  pub accepts : Accepts old new s number syn
  pub position : added.position ≡ s.position
  pub conflicts : added.conflicts ≡ counted (clashes (byte_in old.held) s.position s.bytes)
