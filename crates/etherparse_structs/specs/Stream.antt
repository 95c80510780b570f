-- One direction of a TCP connection as C holds it.
use Rattle.std.specs.Prelude.{◌≡◌, ◌⊎◌, ◌↔◌, ℕ, ◌+◌, ◌<◌, ◌≤◌, Bool, true, false, not, if◌then◌else◌, min}
use Rattle.std.specs.Prelude.{Option, Some, None, IfSome, IfNone, IsTrue, is_some}
use Rattle.std.specs.Prelude.{List, [], ◌∷◌, ◌++◌, length, take, drop}
use Rattle.tcp_streams.specs.Segments.{Segment, placed, segment, start_number}
use Rattle.tcp_streams.specs.Refusals.{refusal_of}
use Rattle.tcp_streams.specs.PlacedSegments.{Placed, byte_at, conflicts_of, conflicts_with, fin_of, is_reset, text_of}
use Rattle.tcp_streams.specs.SparseBytes.{counted}
use Rattle.tcp_streams.specs.StreamBuf.{Contents, IsFirstGap, Shows}
use Rattle.tcp_streams.specs.declared.gaps.Gap.{Gap}
use Rattle.tcp_streams.specs.declared.refusal.Refused.{Refused}
use Rattle.etherparse_structs.specs.StreamAdded.{conflicts_struct, segment_accepted, segment_refused, segment_status}
use Rattle.etherparse_structs.specs.declared.connection.EpSegmentFlags.{EpSegmentFlags}
use Rattle.etherparse_structs.specs.declared.stream_box.StreamBox.{StreamBox}
use Rattle.etherparse_structs.specs.declared.stream.EpStream.{EpStream}
use Rattle.etherparse_structs.specs.declared.stream_added.EpStreamAdded.{EpStreamAdded}
use Rattle.etherparse_structs.specs.declared.stream_progress.EpGap.{EpGap}
use Rattle.etherparse_structs.specs.declared.stream_progress.EpStreamProgress.{EpStreamProgress}

-- the size of the window; the number of position 0, once a segment came; whether SYN wasn't seen; how
-- many bytes were taken; and the segments that were accepted, the oldest first
pub record Stream : Type 0 where
  pub window : ℕ
  pub start : Option ℕ
  pub joined_late : Bool
  pub taken : ℕ
  pub segments : List Placed

-- one without segments
abbrev pub new_stream : (window : ℕ) → Stream
new_stream window =
    record { window = window; start = None; joined_late = false; taken = 0; segments = [] }

-- the bytes that follow those that were taken, up to the first that is missing
abbrev pub bytes_left : Stream → List ℕ
bytes_left s = drop s.taken (text_of s.segments)

-- a segment at its place, and why it is refused
abbrev pub placed_in : Stream → Segment → Placed
placed_in s segment = placed s.start s.taken s.segments segment

abbrev pub refusal_in : Stream → Segment → Option Refused
refusal_in s segment = refusal_of s.window s.taken s.segments (placed_in s segment)

-- with one more segment, which is accepted
abbrev pub with_segment : Stream → Segment → Stream
with_segment s segment = record s {
  start = Some (start_number s.start segment.number segment.flags);
  joined_late = if is_some s.start then s.joined_late else not segment.flags.syn;
  segments = s.segments ++ placed_in s segment ∷ [];
}

-- a segment with these flags
abbrev pub segment_with : ℕ → EpSegmentFlags → List ℕ → Segment
segment_with number flags payload =
    segment number (record { syn = flags.syn; fin = flags.fin; rst = flags.rst }) payload

-- what is answered to a segment; `ends` holds of the stream then: the refusal, where there is one; else
-- it is accepted, unless it has a byte and there is no memory
abbrev pub AnsweredBy : Option Refused → (ends : Stream → Type 0) → Stream → Segment → EpStreamAdded → Type 0
AnsweredBy (Some refused) ends s segment result = (result ≡ segment_refused refused) × ends s
AnsweredBy None ends s segment result =
    (result ≡ segment_accepted (placed_in s segment).position
    (counted (conflicts_with s.segments (placed_in s segment)))) × ends (with_segment s segment)
    ⊎ (result ≡ segment_status 2) × (0 < length (placed_in s segment).bytes) × ends s

abbrev pub IsSegmentAnswered : (ends : Stream → Type 0) → Stream → Segment → EpStreamAdded → Type 0
IsSegmentAnswered ends s segment result = AnsweredBy (refusal_in s segment) ends s segment result

-- so many bytes were written to the start of the output, and taken away: all that are left, or as many
-- as the output has; `ends` holds of the stream then
pub record IsRead (ends : Stream → Type 0) (s : Stream) (old new : List ℕ) (count : ℕ) : Type 0 where
  pub size : count ≡ min (length old) (length (bytes_left s))
  pub output : new ≡ take count (bytes_left s) ++ drop count old
  pub rest : ends (record s { taken = s.taken + count })

-- a gap, or none
abbrev pub gap_struct : Option Gap → EpGap
gap_struct None = record { start = 0; end = 0 }
gap_struct (Some gap) = record { start = gap.start; end = gap.end }

-- what is reported of a stream: its gap is the first one before bytes that are held, if there is one
pub record IsProgress (s : Stream) (result : EpStreamProgress) : Type 0 where
  pub available : result.available ≡ length (bytes_left s)
  pub consumed : result.consumed ≡ s.taken
  pub gap : Option Gap
  pub gap_numbers : result.gap ≡ gap_struct gap
  pub is_first : IfSome gap (IsFirstGap s.segments)
  pub no_gap : IfNone gap ((p : ℕ) → length (text_of s.segments) ≤ p → byte_at s.segments p ≡ None)
  pub conflicts : result.conflicts ≡ conflicts_struct (counted (conflicts_of s.segments))
  pub is_finished : IsTrue result.is_finished ↔ (fin_of s.segments ≡ Some (length (text_of s.segments)))
  pub is_reset : result.is_reset ≡ is_reset s.segments
  pub joined_late : result.joined_late ≡ s.joined_late

-- a buffer that shows these segments
abbrev pub stream_of : Contents → List Placed → Stream
stream_of buf segments = record {
  window = buf.window;
  start = buf.start;
  joined_late = buf.joined_late;
  taken = buf.held.taken;
  segments = segments;
}

pub record ShowsStream (buf : Contents) (s : Stream) : Type 0 where
  pub shows : Shows buf s.segments
  pub is : stream_of buf s.segments ≡ s

-- one that is open has a buffer
abbrev pub IsStream : EpStream → Type 0
IsStream p = p.is_open ≡ true → (box : StreamBox) × (p.held.value ≡ Some box)

-- an open one has these segments
pub record HasSegments (p : EpStream) (s : Stream) : Type 0 where
  pub box : StreamBox
  pub is_open : p.is_open ≡ true
  pub held : p.held.value ≡ Some box
  pub shown : ShowsStream box.buf s
