-- What is known of a stream when its buffer is taken, and when it is put back.
use Rattle.std.proofs.Common.{arith, inl, inr, refl, ◌≡◌, ◌⊎◌, ◌+◌, ap, ap₂, sym, subst, ◌∙◌, ℕ, List, [], ◌∷◌, ◌++◌}
use Rattle.std.proofs.Common.{Option, Some, None, true, Result, Ok, Err, OnOk, OnErr, IfOk, IsOk, length, is_some, not}
use Rattle.std.proofs.Common.{if◌then◌else◌, drop, min, take}
use Rattle.tcp_streams.specs.Segments.{Segment, placed, start_number}
use Rattle.tcp_streams.specs.Refusals.{refusal_of}
use Rattle.tcp_streams.specs.PlacedSegments.{Placed, byte_at, conflicts_with, text_of}
use Rattle.tcp_streams.specs.SparseBytes.{AllHeld, counted}
use Rattle.tcp_streams.specs.StreamBuf.{AnswersAdd, Contents, Shows, available_in}
use Rattle.tcp_streams.specs.declared.refusal.Refused.{Refused}
use Rattle.tcp_streams.specs.declared.refusal.Refused.TheVariants.{OutOfMemory}
use Rattle.tcp_streams.specs.declared.stream_buf.Added.{Added}
use Rattle.etherparse_structs.specs.Stream.{AnsweredBy, HasSegments, ShowsStream, IsProgress, IsRead, IsSegmentAnswered, Stream}
use Rattle.etherparse_structs.specs.Stream.{placed_in, refusal_in, stream_of, with_segment}
use Rattle.etherparse_structs.specs.StreamAdded.{segment_accepted, segment_refused, segment_struct}
use Rattle.etherparse_structs.specs.declared.stream_box.StreamBox.{StreamBox}
use Rattle.etherparse_structs.specs.declared.stream.EpStream.{EpStream}
use Rattle.etherparse_structs.specs.declared.stream_added.EpStreamAdded.{EpStreamAdded}
use Rattle.etherparse_structs.specs.declared.stream_progress.EpStreamProgress.{EpStreamProgress}

-- the buffer that is taken, and is read as this one
pub taken_holds : (p : EpStream) (x y : StreamBox) (s : Stream) → HasSegments p s
    → p.held.value ≡ Some y → x ≡ y → ShowsStream x.buf s
taken_holds p x y s h held same = grind arith

-- the buffer that is put back
pub put_has : (p : EpStream) (x : StreamBox) (s : Stream) → p.held.value ≡ Some x
    → p.is_open ≡ true → ShowsStream x.buf s → HasSegments p s
put_has p x s held is_open h = record { box = x; is_open = is_open; held = held; shown = h }

-- what is answered so is answered with a proposition that follows
by_then : (refusal : Option Refused) (ends after : Stream → Type 0) (s : Stream) (segment : Segment)
    (result : EpStreamAdded) → ((t : Stream) → ends t → after t)
    → AnsweredBy refusal ends s segment result → AnsweredBy refusal after s segment result
by_then (Some refused) ends after s segment result follows a = (a.0, follows s a.1)
by_then None ends after s segment result follows (inl a) = inl (a.0, follows (with_segment s segment) a.1)
by_then None ends after s segment result follows (inr a) = inr (a.0, a.1, follows s a.2)

pub answered_then : (ends after : Stream → Type 0) (s : Stream) (segment : Segment)
    (result : EpStreamAdded) → ((t : Stream) → ends t → after t)
    → IsSegmentAnswered ends s segment result → IsSegmentAnswered after s segment result
answered_then ends after s segment result follows a =
    by_then (refusal_in s segment) ends after s segment result follows a

pub read_then : (ends after : Stream → Type 0) (s : Stream) (old new : List ℕ) (count : ℕ)
    → ((t : Stream) → ends t → after t) → IsRead ends s old new count → IsRead after s old new count
read_then ends after s old new count follows r =
    record { size = r.size; output = r.output; rest = follows _ r.rest }

-- a buffer as it was
stays : (old new : Contents) (segments : List Placed) → new ≡ old → Shows old segments
    → ShowsStream new (stream_of old segments)
stays old new segments same shows =
    subst (λ (b : Contents). ShowsStream b (stream_of old segments)) (sym same)
    (record { shows = shows; is = refl })

-- what the buffer answers to a segment, as numbers
module _ (old new : Contents) (segments : List Placed) (segment : Segment) where
  abbrev before : Stream
  before = stream_of old segments

  abbrev there : Placed
  there = placed_in before segment

  accepts : (added : Added) → Shows new (segments ++ there ∷ [])
      → added.position ≡ there.position → added.conflicts ≡ counted (conflicts_with segments there)
      → new.start ≡ Some (start_number old.start segment.number segment.flags)
      → new.joined_late ≡ (if is_some old.start then old.joined_late else not segment.flags.syn)
      → new.held.taken ≡ old.held.taken → new.window ≡ old.window
      → AnsweredBy None (ShowsStream new) before segment (segment_struct (Ok added))
  accepts added shows position conflicts start joined_late taken window = inl (
    ap₂ (λ p k. segment_accepted p k) position conflicts,
    record {
      shows = shows;
      is = λ i. record {
        window = window i;
        start = start i;
        joined_late = joined_late i;
        taken = taken i;
        segments = segments ++ there ∷ [];
      };
    },
  )

  refuses : (e : Refused) (refusal : Option Refused) → Shows old segments → new ≡ old
      → (refusal ≡ Some e) ⊎ (refusal ≡ None) × (e ≡ OutOfMemory)
      → (refusal ≡ None → length there.bytes ≡ 0 → ⊥)
      → AnsweredBy refusal (ShowsStream new) before segment (segment_struct (Err e))
  refuses e refusal shows same (inl is) empty =
      subst (λ (r : Option Refused). AnsweredBy r (ShowsStream new) before segment (segment_refused e))
      (sym is) (refl, stays old new segments same shows)
  refuses e refusal shows same (inr is) empty =
      subst (λ (r : Option Refused). AnsweredBy r (ShowsStream new) before segment (segment_refused e))
      (sym is.0)
      (inr (cc is.1, omega (arith, empty is.0), stays old new segments same shows))

-- and of any stream that the buffer holds
pub answers : (old new : Contents) (s : Stream) (segment : Segment) (result : Result Added Refused)
    → ShowsStream old s
    → ((ss : List Placed) → Shows old ss
    → OnOk result (Shows new (ss ++ placed old.start old.held.taken ss segment ∷ [])))
    → ((ss : List Placed) → Shows old ss
    → AnswersAdd (refusal_of old.window old.held.taken ss (placed old.start old.held.taken ss segment)) result)
    → ((ss : List Placed) → Shows old ss
    → IfOk result (λ added. added.position ≡ (placed old.start old.held.taken ss segment).position))
    → ((ss : List Placed) → Shows old ss
    → IfOk result (λ added. added.conflicts
    ≡ counted (conflicts_with ss (placed old.start old.held.taken ss segment))))
    → OnOk result (new.start ≡ Some (start_number old.start segment.number segment.flags))
    → OnOk result (new.joined_late
    ≡ (if is_some old.start then old.joined_late else not segment.flags.syn))
    → OnErr result (new ≡ old) → new.held.taken ≡ old.held.taken → new.window ≡ old.window
    → ((ss : List Placed) → Shows old ss
    → refusal_of old.window old.held.taken ss (placed old.start old.held.taken ss segment) ≡ None
    → (let s = placed old.start old.held.taken ss segment in AllHeld (byte_at ss) s.position (length s.bytes))
    → IsOk result)
    → IsSegmentAnswered (ShowsStream new) s segment (segment_struct result)
answers old new s segment (Ok added) h accepted refused position conflicts start late same taken window succeeds =
    subst (λ (x : Stream). IsSegmentAnswered (ShowsStream new) x segment (segment_struct (Ok added))) h.is
    (subst (λ (r : Option Refused). AnsweredBy r (ShowsStream new) (stream_of old s.segments) segment
    (segment_struct (Ok added))) (sym (refused s.segments h.shows))
    (accepts old new s.segments segment added (accepted s.segments h.shows) (position s.segments h.shows)
    (conflicts s.segments h.shows) start late taken window))
answers old new s segment (Err e) h accepted refused position conflicts start late same taken window succeeds =
    subst (λ (x : Stream). IsSegmentAnswered (ShowsStream new) x segment (segment_struct (Err e))) h.is
    (refuses old new s.segments segment e
    (refusal_of old.window old.held.taken s.segments (placed old.start old.held.taken s.segments segment)) h.shows
    same (refused s.segments h.shows)
    (λ none empty. cc (succeeds s.segments h.shows none (λ p low high. absurd (omega (arith, empty, low, high))))))

-- what is read of the buffer
pub reads : (old new : Contents) (s : Stream) (bytes was now : List ℕ) (count : ℕ) → ShowsStream old s
    → bytes ≡ available_in old.held
    → ((ss : List Placed) → Shows old ss → bytes ≡ drop old.held.taken (text_of ss))
    → count ≡ min (length was) (length bytes) → now ≡ take count bytes ++ drop count was
    → ((ss : List Placed) → Shows old ss → Shows new ss)
    → new.held.taken ≡ old.held.taken + min count (length (available_in old.held))
    → new.start ≡ old.start → new.joined_late ≡ old.joined_late → new.window ≡ old.window
    → IsRead (ShowsStream new) s was now count
reads old new s bytes was now count h available text is_count output shows taken start late window =
    let left = text s.segments h.shows in
    let size : length bytes ≡ length (available_in old.held) = ap (λ (xs : List ℕ). length xs) available in
    let more : new.held.taken ≡ old.held.taken + count = omega (arith, taken, is_count, size) in
    subst (λ (x : Stream). IsRead (ShowsStream new) x was now count) h.is (record {
      size = is_count ∙ ap (λ (xs : List ℕ). min (length was) (length xs)) left;
      output = output ∙ ap (λ (xs : List ℕ). take count xs ++ drop count was) left;
      rest = record {
        shows = shows s.segments h.shows;
        is = λ i. record {
          window = window i;
          start = start i;
          joined_late = late i;
          taken = more i;
          segments = s.segments;
        };
      };
    })

-- what is reported of the buffer
pub reports : (buf : Contents) (s : Stream) (progress : EpStreamProgress) → ShowsStream buf s
    → IsProgress (stream_of buf s.segments) progress → IsProgress s progress
reports buf s progress h p = subst (λ (x : Stream). IsProgress x progress) h.is p
