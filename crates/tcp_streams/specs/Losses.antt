-- Bytes that the capture lacks, though they came to the other endpoint: it acknowledged them (RFC 9293, section 3.4).
use Rattle.std.specs.Prelude.{ℕ, ◌+◌, ◌-◌, ◌%◌, ◌^◌, nat_lt, nat_le, false, if◌then◌else◌, min, replicate}
use Rattle.std.specs.Prelude.{Option, Some, None, List, [], ◌∷◌, ◌++◌, length, slice_get}
use Rattle.tcp_streams.specs.declared.gaps.Gap.{Gap}
use Rattle.tcp_streams.specs.declared.sequence_numbers.Distance.{Distance}
use Rattle.tcp_streams.specs.declared.sequence_numbers.Distance.TheVariants.{After, Before}
use Rattle.tcp_streams.specs.Segments.{next_position}
use Rattle.tcp_streams.specs.Refusals.{window_end}
use Rattle.tcp_streams.specs.PlacedSegments.{Placed, fin_of, placed_segment, text_of}
use Rattle.tcp_streams.specs.SequenceNumbers.{distance}
use Rattle.tcp_streams.specs.SparseBytes.{available_end}
use Rattle.tcp_streams.specs.StreamBuf.{Contents, next_in}

-- a number acknowledges the bytes before this position, the nearest to what is expected next; no position is greater
-- than 2 to the 63
abbrev pub acknowledged_at : Distance → (next : ℕ) → ℕ
acknowledged_at (After n) next = min (next + n) (2 ^ 63)
acknowledged_at (Before n) next = min (next - n) (2 ^ 63)

-- the same, where position 0 has this number; before a segment came, no byte is acknowledged
abbrev pub acknowledged : (start : Option ℕ) → (next number : ℕ) → ℕ
acknowledged None next number = 0
acknowledged (Some start) next number = acknowledged_at (distance ((start + next) % 2 ^ 32) number) next

-- the positions from one on up to another, if there are any
abbrev pub gap_between : (start end : ℕ) → Option Gap
gap_between start end = if nat_lt start end then Some (record { start = start; end = end }) else None

-- which bytes are lost where none is held after those that are available: those before FIN; and where FIN didn't come, those
-- before what is acknowledged, if that stands after the window
abbrev pub lost_after : (end : ℕ) → (fin : Option ℕ) → (window_end acknowledged : ℕ) → Option Gap
lost_after end (Some fin) window_end acknowledged = if nat_le fin acknowledged then gap_between end fin else None
lost_after end None window_end acknowledged =
    if nat_lt window_end acknowledged then gap_between end acknowledged else None

-- which bytes are lost: those of the first gap, if they are acknowledged
abbrev pub lost_by : (first : Option Gap) → (end : ℕ) → (fin : Option ℕ) → (window_end acknowledged : ℕ) → Option Gap
lost_by (Some gap) end fin window_end acknowledged = if nat_le gap.end acknowledged then Some gap else None
lost_by None end fin window_end acknowledged = lost_after end fin window_end acknowledged

-- which ones a number says to be lost, after segments with this first gap
abbrev pub lost_of : (window taken : ℕ) → (start : Option ℕ) → List Placed → (first : Option Gap) → (number : ℕ) → Option Gap
lost_of window taken start ss first number =
    lost_by first (length (text_of ss)) (fin_of ss) (window_end window taken) (acknowledged start (next_position ss) number)

-- the same by what a buffer holds
abbrev pub lost_in : Contents → (number : ℕ) → Option Gap
lost_in buf number = lost_by (slice_get buf.held.gaps 0) (available_end buf.held) buf.fin
    (window_end buf.window buf.held.taken) (acknowledged buf.start (next_in buf) number)

-- positions that are given up count as bytes: a 0 each, which nobody sees
abbrev pub given_up : Gap → Placed
given_up gap = placed_segment gap.start (replicate (gap.end - gap.start) 0) false false

-- segments, and what is given up after them
abbrev pub with_given_up : List Placed → Option Gap → List Placed
with_given_up ss None = ss
with_given_up ss (Some gap) = ss ++ given_up gap ∷ []
