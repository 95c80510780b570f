-- What becomes of segments, whatever the number of the first byte.
use Rattle.std.proofs.Common.{◌≡◌, ℕ, ◌+◌, ◌-◌, ◌%◌, ◌^◌, ◌<◌, ◌≤◌, inl, inr, cond, Bool, true, false, Option, Some}
use Rattle.std.proofs.Common.{None}
use Rattle.std.proofs.Common.{List, [], ◌∷◌, length, take, drop, get_or, map, max, arith, refl, ap, sym, ◌∙◌}
use Rattle.std.proofs.lemmas.Bool.{cases_lt}
use Rattle.std.proofs.lemmas.List.{get_or-take, get_or-drop, length-drop}
use Rattle.std.specs.Option.{option_map}
use Rattle.std.specs.Prelude.{is_some}
use Rattle.tcp_streams.specs.declared.segment_flags.SegmentFlags.{SegmentFlags}
use Rattle.tcp_streams.specs.declared.sequence_numbers.Distance.{Distance}
use Rattle.tcp_streams.specs.declared.sequence_numbers.Distance.TheVariants.{After, Before}
use Rattle.tcp_streams.specs.Laws.{IsPartOf, IsCutOf, CutsArePlaced, ReceivedSegment, with_accepted, start_after}
use Rattle.tcp_streams.specs.Laws.{with_all_accepted, number_later, segment_later, NumbersAreRelative}
use Rattle.tcp_streams.specs.Segments.{Segment, bytes_of, first_number, start_number, distance_from, placed}
use Rattle.tcp_streams.specs.Segments.{placed_at}
use Rattle.tcp_streams.specs.Segments.{next_position}
use Rattle.tcp_streams.specs.Refusals.{refusal_of}
use Rattle.tcp_streams.specs.PlacedSegments.{Placed}
use Rattle.tcp_streams.specs.SequenceNumbers.{distance}
use Rattle.tcp_streams.proofs.NumberLemmas.{distance-after, distance-before, distance-later}

-- ---- cut segments

cut_byte : (text bytes : List ℕ) (offset i : ℕ) → bytes ≡ take (length bytes) (drop offset text) → i < length bytes
    → get_or bytes i 0 ≡ get_or text (offset + i) 0
cut_byte text bytes offset i is h =
    ap (λ (xs : List ℕ). get_or xs i 0) is ∙ get_or-take (length bytes) (drop offset text) i 0 h
    ∙ get_or-drop offset text i 0

cut_after : (text : List ℕ) (start offset next taken n : ℕ) (s : Segment) → IsCutOf text start offset s
    → offset ≡ next + n → IsPartOf text (placed_at (After n) next taken s)
cut_after text start offset next taken n s cut at =
    let bytes : bytes_of s ≡ s.payload = rw cut.no_reset in rw (bytes, ← at) record {
      fits = cut.fits;
      same = λ i h. cut_byte text s.payload offset i cut.bytes h;
    }

cut_before : (text : List ℕ) (start offset next taken n : ℕ) (s : Segment) → IsCutOf text start offset s
    → next ≡ offset + n → taken ≤ length text → IsPartOf text (placed_at (Before n) next taken s)
cut_before text start offset next taken n s cut at short =
    let bytes : bytes_of s ≡ s.payload = rw cut.no_reset in
    let skipped : taken + n - next ≡ taken - offset = omega arith in
    let position : max taken (next - n) ≡ max taken offset = omega arith in
    let size = length-drop (taken - offset) s.payload in
    let fits = cut.fits in
    rw (bytes, skipped, position) record {
      fits = omega (arith, size, fits);
      same = λ i h.
          let within : taken - offset + i < length s.payload = omega (arith, size, h) in
          let where_it_is : offset + (taken - offset + i) ≡ max taken offset + i = omega (arith, size, h, fits, short) in
          get_or-drop (taken - offset) s.payload i 0
          ∙ cut_byte text s.payload offset (taken - offset + i) cut.bytes within
          ∙ ap (λ (p : ℕ). get_or text p 0) where_it_is;
    }

pub cuts_are_placed : CutsArePlaced
cuts_are_placed text start offset taken ss s cut near short =
    let next = next_position ss in elim (cases_lt offset next) [
      | inl less ↦
          let n = next - offset in
          let at : next ≡ offset + n = omega (arith, less) in
          let far : distance_from next start s ≡ Before n =
          ap (distance ((start + next) % 2 ^ 32)) cut.number
          ∙ ap (λ (p : ℕ). distance ((start + p) % 2 ^ 32) ((start + offset) % 2 ^ 32)) at
          ∙ distance-before start offset n (omega (arith, less)) (omega (arith, near.back)) in
          rw far (cut_before text start offset next taken n s cut at short)
      | inr more ↦
          let n = offset - next in
          let at : offset ≡ next + n = omega (arith, more) in
          let far : distance_from next start s ≡ After n =
          ap (distance ((start + next) % 2 ^ 32)) cut.number
          ∙ ap (λ (p : ℕ). distance ((start + next) % 2 ^ 32) ((start + p) % 2 ^ 32)) at
          ∙ distance-after start next n (omega (arith, near.ahead)) in
          rw far (cut_after text start offset next taken n s cut at)
    ]

-- ---- greater numbers

first_later : (k n : ℕ) (flags : SegmentFlags)
    → first_number (number_later k n) flags ≡ (n + cond flags.syn 1 0 + k) % 2 ^ 32
first_later k n flags = omega arith

first_later_is : (k n : ℕ) (flags : SegmentFlags)
    → first_number (number_later k n) flags ≡ number_later k (first_number n flags)
first_later_is k n flags = omega arith

start_later : (k next : ℕ) (start : Option ℕ) (n : ℕ) (flags : SegmentFlags)
    → distance ((start_number (option_map (number_later k) start) (number_later k n) flags + next) % 2 ^ 32)
    (first_number (number_later k n) flags)
    ≡ distance ((start_number start n flags + next) % 2 ^ 32) (first_number n flags)
start_later k next None n flags =
    let m = n + cond flags.syn 1 0 in
    let first : first_number (number_later k n) flags ≡ (m + k) % 2 ^ 32 = first_later k n flags in
    let later : (first_number (number_later k n) flags + next) % 2 ^ 32 ≡ (m + next + k) % 2 ^ 32 = omega (arith, first) in
    let now : (first_number n flags + next) % 2 ^ 32 ≡ (m + next) % 2 ^ 32 = omega arith in
    ap (distance ((first_number (number_later k n) flags + next) % 2 ^ 32)) first
    ∙ ap (λ (e : ℕ). distance e ((m + k) % 2 ^ 32)) later
    ∙ distance-later m (m + next) k ∙ ap (λ (e : ℕ). distance e (m % 2 ^ 32)) (sym now)
start_later k next (Some start) n flags =
    let m = n + cond flags.syn 1 0 in
    let first : first_number (number_later k n) flags ≡ (m + k) % 2 ^ 32 = first_later k n flags in
    let later : (number_later k start + next) % 2 ^ 32 ≡ (start + next + k) % 2 ^ 32 = omega arith in
    ap (distance ((number_later k start + next) % 2 ^ 32)) first
    ∙ ap (λ (e : ℕ). distance e ((m + k) % 2 ^ 32)) later ∙ distance-later m (start + next) k

same_position : (k : ℕ) (d : Distance) (next : ℕ) (a : ReceivedSegment)
    → placed_at d next a.taken (segment_later k a).segment ≡ placed_at d next a.taken a.segment
same_position k (After n) next a = refl
same_position k (Before n) next a = refl

placed_later : (k : ℕ) (start : Option ℕ) (ss : List Placed) (a : ReceivedSegment)
    → placed (option_map (number_later k) start) a.taken ss (segment_later k a).segment ≡ placed start a.taken ss a.segment
placed_later k start ss a =
    ap (λ (d : Distance). placed_at d (next_position ss) a.taken (segment_later k a).segment)
    (start_later k (next_position ss) start a.segment.number a.segment.flags)
    ∙ same_position k (distance_from (next_position ss) (start_number start a.segment.number a.segment.flags) a.segment)
    (next_position ss) a

accepted_later : (window k : ℕ) (start : Option ℕ) (ss : List Placed) (a : ReceivedSegment)
    → with_accepted window (option_map (number_later k) start) ss (segment_later k a) ≡ with_accepted window start ss a
accepted_later window k start ss a = rw (placed_later k start ss a)

started : (k n : ℕ) (start : Option ℕ) (flags : SegmentFlags)
    → start_number (option_map (number_later k) start) (number_later k n) flags
    ≡ number_later k (start_number start n flags)
started k n None flags = first_later_is k n flags
started k n (Some start) flags = refl

start_either : (k : ℕ) (refused : Bool) (start : Option ℕ) (n : ℕ) (flags : SegmentFlags)
    → cond refused (option_map (number_later k) start)
    (Some (start_number (option_map (number_later k) start) (number_later k n) flags))
    ≡ option_map (number_later k) (cond refused start (Some (start_number start n flags)))
start_either k true start n flags = refl
start_either k false start n flags = ap Some (started k n start flags)

start_after_later : (window k : ℕ) (start : Option ℕ) (ss : List Placed) (a : ReceivedSegment)
    → start_after window (option_map (number_later k) start) ss (segment_later k a)
    ≡ option_map (number_later k) (start_after window start ss a)
start_after_later window k start ss a =
    rw (placed_later k start ss a)
    (start_either k (is_some (refusal_of window a.taken ss (placed start a.taken ss a.segment))) start a.segment.number
    a.segment.flags)

relative : (window k : ℕ) (start : Option ℕ) (ss : List Placed) (arrivals : List ReceivedSegment)
    → with_all_accepted window (option_map (number_later k) start) ss (map (segment_later k) arrivals)
    ≡ with_all_accepted window start ss arrivals
relative window k start ss [] = refl
relative window k start ss (a ∷ rest) =
    let more = map (segment_later k) rest in
    ap (λ (o : Option ℕ). with_all_accepted window o
    (with_accepted window (option_map (number_later k) start) ss (segment_later k a)) more)
    (start_after_later window k start ss a)
    ∙ ap (λ (xs : List Placed). with_all_accepted window
    (option_map (number_later k) (start_after window start ss a)) xs more) (accepted_later window k start ss a)
    ∙ relative window k (start_after window start ss a) (with_accepted window start ss a) rest

pub numbers_are_relative : NumbersAreRelative
numbers_are_relative window k start arrivals = relative window k start [] arrivals
