-- What is written of the lines of packets.
use Rattle.std.proofs.Common.{◌≡◌, sym, ap, refl, subst, ℕ, ◌/◌, ◌<◌, ◌≤◌, ◌==◌, ◌^◌, Bool, true, false, List, [], ◌∷◌, ◌++◌}
use Rattle.std.proofs.Common.{length, map, Some, append_assoc, append-nil, arith, eqb-true}
use Rattle.std.specs.Prelude.{if◌then◌else◌}
use Rattle.std.specs.List.{AllByRecursion, flat_map}
use Rattle.captures.specs.ComeBack.{HasLine, at_no_time, on_one_channel, LinesComeBack, at_its_time, with_time}
use Rattle.captures.specs.ComeBack.{without_time, TimedLinesComeBack}
use Rattle.captures.specs.Lines.{Packet, packets_of, line_of, lines_of, origin_text, timed_line_of, wire_text}
use Rattle.captures.specs.CaptureRuns.{IsCapture}
use Rattle.captures.specs.Skipping.{none_skipped}
use Rattle.captures.specs.Encoding.{IsWritable, capture_of, timed_packets, packets_in}
use Rattle.captures.specs.Texts.{with_line_ends, GiveFrames, IsText, with_last_line_end}
use Rattle.captures.specs.declared.extra.Extra.TheVariants.{Nothing, Times}
use Rattle.captures.specs.declared.origin.Origin.{Origin}
use Rattle.captures.specs.declared.time.time_unit.TimeUnit.{TimeUnit}
use Rattle.captures.specs.declared.unfit.Unfit.{Unfit}
use Rattle.captures.proofs.EncodingLemmas.{capture_is}
use Rattle.captures.proofs.TextLemmas.{ends_ended}
use Rattle.captures.proofs.WireLemmas.{wired_frame, wired_one_line}
use Rattle.captures.specs.CapturedFrames.{CapturedFrame, captured_frame_of}
use Rattle.line_grammar.specs.Written.{time_text, written_frame}
use Rattle.line_grammar.proofs.WrittenLemmas.{written_frame-one_line}
use Rattle.line_grammar.proofs.WrittenTimes.{written_frame-timed, written_timed_frame-one_line}
use Rattle.line_grammar.proofs.WrittenTimes.{written_timed_frame-timed}
use Rattle.lines.specs.Lines.{HasNoNewline}

-- ---- a packet's line, without its line end, gives its frame

text_of : Packet → List ℕ
text_of packet = written_frame packet.origin.channel packet.frame

line_is : (packet : Packet) (rest : List ℕ) → line_of packet ++ rest ≡ text_of packet ++ 10 ∷ rest
unfolding text_of
line_is packet rest = grind (arith, append_assoc)

line_gives_frame : (packet : Packet) → HasLine packet
    → captured_frame_of (text_of packet) ≡ Some (at_no_time packet)
unfolding text_of captured_frame_of
line_gives_frame packet fits = grind (arith, written_frame-timed)

one_line : (packet : Packet) → HasLine packet → HasNoNewline (text_of packet)
unfolding text_of
one_line packet fits =
    written_frame-one_line packet.origin.channel packet.frame fits.number fits.bytes

-- ---- and with times

timed_text_of : Packet → List ℕ
timed_text_of packet = written_frame packet.origin.channel packet.frame
    ++ origin_text (length packet.frame) packet.origin.time packet.origin.wire_len

timed_line_is : (packet : Packet) (rest : List ℕ)
    → timed_line_of packet ++ rest ≡ timed_text_of packet ++ 10 ∷ rest
unfolding timed_text_of
timed_line_is packet rest = grind (arith, append_assoc)

-- by whether the frame has as many bytes as it had on the wire
given_by : (whole : Bool) (packet : Packet) → (packet.origin.wire_len == length packet.frame) ≡ whole
    → HasLine packet → captured_frame_of (written_frame packet.origin.channel packet.frame
    ++ (if whole then time_text packet.origin.time
    else wire_text packet.origin.time packet.origin.wire_len)) ≡ Some (at_its_time packet)
unfolding captured_frame_of
given_by true packet whole fits =
    let same = eqb-true packet.origin.wire_len (length packet.frame) whole in
    let few : packet.origin.time / 1000000000 < 2 ^ 32 = omega (arith, fits.time) in
    rw (
      written_timed_frame-timed packet.origin.channel packet.frame packet.origin.time fits.number
          fits.bytes fits.some fits.short few,
      same,
    ) refl
given_by false packet whole fits =
    wired_frame packet.origin.channel packet.frame packet.origin.time packet.origin.wire_len
    fits.number fits.bytes fits.some fits.short (omega (arith, fits.time)) fits.wire_len fits.whole

timed_line_gives_frame : (packet : Packet) → HasLine packet
    → captured_frame_of (timed_text_of packet) ≡ Some (at_its_time packet)
unfolding timed_text_of
timed_line_gives_frame packet fits = given_by _ packet refl fits

line_by : (whole : Bool) (packet : Packet) → HasLine packet
    → HasNoNewline (written_frame packet.origin.channel packet.frame
    ++ (if whole then time_text packet.origin.time
    else wire_text packet.origin.time packet.origin.wire_len))
line_by true packet fits =
    written_timed_frame-one_line packet.origin.channel packet.frame packet.origin.time fits.number
    fits.bytes (omega (arith, fits.time))
line_by false packet fits =
    wired_one_line packet.origin.channel packet.frame packet.origin.time packet.origin.wire_len
    fits.number fits.bytes (omega (arith, fits.time)) fits.wire_len

timed_one_line : (packet : Packet) → HasLine packet → HasNoNewline (timed_text_of packet)
unfolding timed_text_of
timed_one_line packet fits =
    line_by (packet.origin.wire_len == length packet.frame) packet fits

-- ---- all lines

module _ (line text : Packet → List ℕ) (timed : Packet → CapturedFrame)
    (ended : (packet : Packet) (rest : List ℕ) → line packet ++ rest ≡ text packet ++ 10 ∷ rest)
    (gives_frames : (packet : Packet) → HasLine packet → captured_frame_of (text packet) ≡ Some (timed packet))
    (one : (packet : Packet) → HasLine packet → HasNoNewline (text packet)) where
  all_ended : (packets : List Packet) → flat_map line packets ≡ with_line_ends (map text packets)
  all_ended [] = refl
  all_ended (packet ∷ packets) = grind (arith, all_ended packets)

  all_give_frames : (packets : List Packet) → AllByRecursion HasLine packets
      → GiveFrames (map text packets) (map timed packets)
  all_give_frames [] all = refl
  all_give_frames (packet ∷ packets) all = (
    timed packet,
    map timed packets,
    one packet all.0,
    gives_frames packet all.0,
    all_give_frames packets all.1,
    refl,
  )

  last_ended : (packets : List Packet) → with_last_line_end (flat_map line packets)
      ≡ with_line_ends (map text packets)
  last_ended packets = grind (arith, all_ended, ends_ended)

  is_text : (packets : List Packet) → AllByRecursion HasLine packets
      → IsText (flat_map line packets) (map timed packets)
  is_text packets all = (
    length (map text packets),
    grind (arith, all_give_frames, last_ended, append-nil),
  )

-- the frames' capture
module _ (time_unit : TimeUnit) (timed : Packet → CapturedFrame) (reported : Packet → Packet)
    (fits : (packet : Packet) → HasLine packet → IsWritable (timed packet))
    (same : (packet : Packet) → HasLine packet
    → timed_packets time_unit (timed packet) ≡ reported packet ∷ []) where
  all_writable : (packets : List Packet) → AllByRecursion HasLine packets
      → AllByRecursion IsWritable (map timed packets)
  all_writable [] all = tt
  all_writable (packet ∷ packets) all = (fits packet all.0, all_writable packets all.1)

  same_packets : (packets : List Packet) → AllByRecursion HasLine packets
      → packets_in time_unit (map timed packets) ≡ map reported packets
  same_packets [] all = refl
  same_packets (packet ∷ packets) all = grind (arith, same_packets packets all.1)

  is_capture : (unfit : Unfit) (packets : List Packet) → AllByRecursion HasLine packets
      → IsCapture unfit (capture_of time_unit (map timed packets)) (map reported packets) none_skipped
  is_capture unfit packets all =
      subst (λ (ps : List Packet). IsCapture unfit (capture_of time_unit (map timed packets))
      ps none_skipped) (same_packets packets all)
      (capture_is unfit time_unit (map timed packets) (all_writable packets all))

-- a packet that has bytes
one_packet : (origin : Origin) (frame : List ℕ) → 1 ≤ length frame
    → packets_of origin frame ≡ record { origin = origin; frame = frame } ∷ []
one_packet origin frame some = grind arith

packet_at : (time wire_len : ℕ) (packet : Packet) (origin : Origin) → HasLine packet
    → origin.channel ≡ 0 → origin.time ≡ time → origin.wire_len ≡ wire_len
    → packets_of origin packet.frame ≡ on_one_channel time wire_len packet ∷ []
packet_at time wire_len packet origin fits none is same = grind arith

without_writable : (packet : Packet) → HasLine packet → IsWritable (at_no_time packet)
without_writable packet fits =
    let short = fits.short in record {
      short = fits.short;
      seconds = omega arith;
      nanoseconds = omega arith;
      wire_len = omega arith;
      whole = omega arith;
    }

without_same : (time_unit : TimeUnit) (packet : Packet) → HasLine packet
    → timed_packets time_unit (at_no_time packet) ≡ without_time packet ∷ []
without_same time_unit packet fits = grind arith

timed_writable : (packet : Packet) → HasLine packet → IsWritable (at_its_time packet)
timed_writable packet fits = let few = fits.time in
    record {
      short = fits.short;
      seconds = omega arith;
      nanoseconds = omega arith;
      wire_len = fits.wire_len;
      whole = fits.whole;
    }

timed_same : (time_unit : TimeUnit) (packet : Packet) → HasLine packet
    → timed_packets time_unit (at_its_time packet) ≡ with_time time_unit packet ∷ []
timed_same time_unit packet fits = grind arith

plain_lines : (packets : List Packet) → lines_of Nothing packets ≡ flat_map line_of packets
plain_lines [] = refl
plain_lines (packet ∷ packets) = ap (λ l. line_of packet ++ l) (plain_lines packets)

timed_lines : (packets : List Packet) → lines_of Times packets ≡ flat_map timed_line_of packets
timed_lines [] = refl
timed_lines (packet ∷ packets) = ap (λ l. timed_line_of packet ++ l) (timed_lines packets)

pub lines_come_back : LinesComeBack
lines_come_back packets all = (
  subst (λ (l : List ℕ). IsText l (map at_no_time packets)) (sym (plain_lines packets))
      (is_text line_of text_of at_no_time line_is line_gives_frame one_line packets all),
  grind (arith, is_capture, without_writable, without_same),
)

pub timed_lines_come_back : TimedLinesComeBack
timed_lines_come_back packets all = (
  subst (λ (l : List ℕ). IsText l (map at_its_time packets)) (sym (timed_lines packets))
      (is_text timed_line_of timed_text_of at_its_time timed_line_is timed_line_gives_frame timed_one_line
      packets all),
  grind (arith, is_capture, timed_writable, timed_same),
)
