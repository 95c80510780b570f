-- A segment as it came (RFC 9293, section 3.1), and its place in the stream.
use Rattle.std.specs.Prelude.{ℕ, ◌+◌, ◌-◌, ◌%◌, ◌^◌, ◌==◌, nat_le, Bool, false, not, ◌&&◌, if◌then◌else◌}
use Rattle.std.specs.Prelude.{max, unwrap_or, Option, Some, List, [], length, drop}
use Rattle.std.specs.Option.{option_eq}
use Rattle.std.specs.Prelude.{nat_eq}
use Rattle.tcp_streams.specs.declared.segment_flags.SegmentFlags.{SegmentFlags}
use Rattle.tcp_streams.specs.declared.sequence_numbers.Distance.{Distance}
use Rattle.tcp_streams.specs.declared.sequence_numbers.Distance.TheVariants.{After, Before}
use Rattle.tcp_streams.specs.SequenceNumbers.{distance}
use Rattle.tcp_streams.specs.PlacedSegments.{Placed, fin_of, repeats_with, text_of}

-- its sequence number, flags and payload
pub record Segment : Type 0 where
  pub number : ℕ
  pub flags : SegmentFlags
  pub payload : List ℕ

abbrev pub segment : ℕ → SegmentFlags → List ℕ → Segment
segment number flags payload = record { number = number; flags = flags; payload = payload }

-- its bytes of the stream: those of a segment with RST are no part of it (RFC 1122, section 4.2.2.12)
abbrev pub bytes_of : Segment → List ℕ
bytes_of s = if s.flags.rst then [] else s.payload

-- FIN follows them
abbrev pub has_fin : SegmentFlags → Bool
has_fin flags = flags.fin && not flags.rst

-- the number of its first byte: SYN has the one before
abbrev pub first_number : ℕ → SegmentFlags → ℕ
first_number number flags = (number + (if flags.syn then 1 else 0)) % 2 ^ 32

-- the number of position 0: that of the first byte of the first segment
abbrev pub start_number : Option ℕ → ℕ → SegmentFlags → ℕ
start_number start number flags = unwrap_or start (first_number number flags)

-- the position that is expected next: that of the first missing byte, or the one after FIN
abbrev pub next_after : (available_end : ℕ) → (fin : Option ℕ) → ℕ
next_after end fin = end + (if option_eq nat_eq fin (Some end) then 1 else 0)

abbrev pub next_position : List Placed → ℕ
next_position ss = next_after (length (text_of ss)) (fin_of ss)

-- a segment that begins so far from the position that is expected next, without the bytes before
-- those that aren't taken yet; its FIN counts unless it is before that position, and RST only at it
abbrev pub placed_at : Distance → (next taken : ℕ) → Segment → Placed
placed_at (After n) next taken s = record {
  position = next + n;
  bytes = bytes_of s;
  fin = has_fin s.flags;
  reset = s.flags.rst && (n == 0);
}
placed_at (Before n) next taken s = record {
  position = max taken (next - n);
  bytes = drop ((taken + n) - next) (bytes_of s);
  fin = has_fin s.flags && nat_le n (length (bytes_of s));
  reset = false;
}

-- how far it begins from that position, where position 0 has this number
abbrev pub distance_from : (next start : ℕ) → Segment → Distance
distance_from next start s = distance ((start + next) % 2 ^ 32) (first_number s.number s.flags)

-- a segment at its place after those that were accepted, of whose text so many bytes were taken
abbrev pub placed : (start : Option ℕ) → (taken : ℕ) → List Placed → Segment → Placed
placed start taken ss s =
    let next = next_position ss in
    placed_at (distance_from next (start_number start s.number s.flags) s) next taken s

-- how many of its bytes it repeats, after those that were accepted: bytes that stand before those that aren't taken, and so
-- are left out at its place, and bytes at positions at which one came
abbrev pub repeated_of : List Placed → Segment → Placed → ℕ
repeated_of ss s at = (length (bytes_of s) - length at.bytes) + repeats_with ss at
