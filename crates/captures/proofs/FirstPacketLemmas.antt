-- The first packet of some bytes.
use Rattle.std.proofs.Common.{◌≡◌, ◌∙◌, sym, ap, ap₂, refl, subst, ℕ, ◌-◌, ◌<◌, ◌==◌, arith, true, false, List, [], ◌∷◌}
use Rattle.std.proofs.Common.{◌++◌, length, inl, inr}
use Rattle.std.proofs.Common.{append_assoc, length-append, append-nil, Option, Some}
use Rattle.captures.specs.Framed.{FrameParts, captured_len, frame_bytes, frame_parts, frame_wire_len, wire_len_on}
use Rattle.captures.specs.Numbers.{word}
use Rattle.captures.specs.Pcapng.{Says, block_wire_len}
use Rattle.captures.specs.Pcapng.Content.{Holds}
use Rattle.captures.specs.PacketSteps.{HasNone, IsFirst, IsFromEnd, origin_of, taken_of}
use Rattle.captures.specs.Lines.{Packet as TakenPacket, noted, reported}
use Rattle.captures.specs.Pcap.{record_wire_len}
use Rattle.captures.specs.Units.{HasPacket, IsBlockOn, IsOn, IsUnit, Passes, StandsAt, Takes, in_a_row, no_section}
use Rattle.captures.specs.declared.byte_order.ByteOrder.{ByteOrder}
use Rattle.captures.specs.declared.capture_error.CaptureError.{CaptureError}
use Rattle.captures.specs.declared.link.kind.Link.{Link}
use Rattle.captures.specs.declared.origin.Origin.{Origin}
use Rattle.captures.specs.declared.packet.Packet.{Packet}
use Rattle.captures.specs.declared.pcapng.section.Section.{Section}
use Rattle.captures.specs.declared.state.State.{State}
use Rattle.captures.specs.declared.state.State.TheVariants.{Start, Classic, Pcapng}
use Rattle.captures.specs.declared.text.ledger.Ledger.{Ledger}
use Rattle.captures.proofs.BlockLemmas.{word_prefix}
use Rattle.captures.proofs.FrameLengthLemmas.{captured_of, frame_len_is}
use Rattle.captures.proofs.UnitLemmas.{Reported, lines_from-append, no_packets_of, noted_all-append, one_packet}
use Rattle.captures.proofs.UnitLemmas.{passes_none, passes_unit}

-- one more unit without a packet
pub passes_empty : (state mid after : State) (bytes rest rest' : List ℕ) (origin : Origin)
    (link : Link) (wire_len : ℕ) (frame : FrameParts) → Passes state bytes [] mid rest
    → HasPacket mid rest after origin link wire_len frame rest' → (length (frame_bytes frame) == 0) ≡ true
    → Passes state bytes [] after rest'
passes_empty state mid after bytes rest rest' origin link wire_len frame p h none =
    subst (λ (packets : List TakenPacket). Passes state bytes packets after rest')
    (no_packets_of origin (frame_bytes frame) none)
    (passes_unit state mid after bytes rest rest' [] origin (frame_bytes frame) p h.has_unit)

pub some_bytes : (frame : FrameParts) → (length (frame_bytes frame) == 0) ≡ false
    → 0 < length (frame_bytes frame)
some_bytes frame some = grind arith

-- ---- the length of a packet's frame on the wire, by that of the packet

held_wire_len : (section : Section) (order : ByteOrder) (block : List ℕ) (origin : Origin) (link : Link)
    (packet : List ℕ) (wire_len : ℕ) → Says section order block (Holds origin link packet)
    → block_wire_len order block ≡ wire_len
    → origin.wire_len ≡ wire_len_on link (length packet) wire_len
held_wire_len section order block origin link packet wire_len (inl h) is =
    let which : block_wire_len order block ≡ word order block 24 = rw h.0 refl in
    sym h.1.wire ∙ ap (wire_len_on link (length packet)) (sym which ∙ is)
held_wire_len section order block origin link packet wire_len (inr (inl h)) is =
    let which : block_wire_len order block ≡ word order block 24 = rw h.0 refl in
    sym h.1.wire ∙ ap (wire_len_on link (length packet)) (sym which ∙ is)
held_wire_len section order block origin link packet wire_len (inr (inr h)) is =
    let which : block_wire_len order block ≡ word order block 8 = rw h.kind refl in
    sym h.wire ∙ ap (wire_len_on link (length packet)) (sym which ∙ is)

-- a packet by its frame
by_frame : (link : Link) (packet : List ℕ) (wire_len : ℕ) (frame : FrameParts)
    → frame_parts link packet ≡ Some frame → 0 < length (frame_bytes frame)
    → wire_len_on link (length packet) wire_len
    ≡ frame_wire_len (length (frame_bytes frame)) (captured_len link frame) wire_len
by_frame link packet wire_len frame is some =
    rw (captured_of link packet frame some is, frame_len_is link packet frame some is) refl

on_block : (section : Section) (block : List ℕ) (origin : Origin) (link : Link) (wire_len : ℕ)
    (frame : FrameParts) → IsBlockOn section block origin link wire_len frame
    → 0 < length (frame_bytes frame)
    → origin.wire_len ≡ frame_wire_len (length (frame_bytes frame)) (captured_len link frame) wire_len
on_block section block origin link wire_len frame on some =
    held_wire_len section on.0 block origin link on.2.packet wire_len on.2.says on.2.wire
    ∙ by_frame link on.2.packet wire_len frame on.2.parts some

on_wire : (state : State) (unit : List ℕ) (after : State) (origin : Origin) (link : Link)
    (wire_len : ℕ) (frame : FrameParts) → IsUnit state unit after origin (frame_bytes frame)
    → IsOn state unit origin link wire_len frame → 0 < length (frame_bytes frame)
    → origin.wire_len ≡ frame_wire_len (length (frame_bytes frame)) (captured_len link frame) wire_len
on_wire (Start unfit) unit after origin link wire_len frame is on some =
    on_block (no_section unfit) unit origin link wire_len frame on some
on_wire (Classic order time_unit link' passing) unit after origin link wire_len frame is on some =
    let r = on.1.is_record in
    let captured : word order unit 8 ≡ length on.1.packet =
    rw r.parts (word_prefix order r.head on.1.packet 8 (omega (arith, r.size)) ∙ r.captured) in
    ap (λ (o : Origin). o.wire_len) is.1
    ∙ ap₂ (λ (k : Link) (n : ℕ). wire_len_on k n (record_wire_len order unit)) on.0 captured
    ∙ ap (wire_len_on link (length on.1.packet)) on.1.wire
    ∙ by_frame link on.1.packet wire_len frame on.1.parts some
on_wire (Pcapng section) unit after origin link wire_len frame is on some =
    on_block section unit origin link wire_len frame on some

origin_is : (state : State) (bytes : List ℕ) (after : State) (origin : Origin) (link : Link)
    (wire_len : ℕ) (frame : FrameParts) (rest : List ℕ)
    → HasPacket state bytes after origin link wire_len frame rest → 0 < length (frame_bytes frame)
    → origin ≡ record {
      channel = origin.channel;
      time = origin.time;
      wire_len = frame_wire_len (length (frame_bytes frame)) (captured_len link frame) wire_len;
    }
origin_is state bytes after origin link wire_len frame rest h some =
    let same = on_wire state h.has_unit.unit after origin link wire_len frame h.has_unit.is_unit
    (h.is_on some) some in
    λ i. record { channel = origin.channel; time = origin.time; wire_len = same i }

pub with_wire_len : (state : State) (bytes : List ℕ) (after : State) (origin : Origin) (link : Link)
    (wire_len : ℕ) (frame : FrameParts) (rest : List ℕ)
    → HasPacket state bytes after origin link wire_len frame rest → 0 < length (frame_bytes frame)
    → HasPacket state bytes after (record {
      channel = origin.channel;
      time = origin.time;
      wire_len = frame_wire_len (length (frame_bytes frame)) (captured_len link frame) wire_len;
    }) link wire_len frame rest
with_wire_len state bytes after origin link wire_len frame rest h some =
    subst (λ (o : Origin). HasPacket state bytes after o link wire_len frame rest)
    (origin_is state bytes after origin link wire_len frame rest h some) h

-- where the frame of a unit is, after other units
pub from_end : (bytes rest part : List ℕ) (at from : ℕ) (units : List (List ℕ))
    → bytes ≡ in_a_row units ++ rest → StandsAt rest at part → from ≡ length rest - at
    → IsFromEnd bytes from part
from_end bytes rest part at from units parts s is = record {
  before = in_a_row units ++ s.before;
  following = s.following;
  parts =
      grind (arith, append_assoc);
  position =
      grind (arith, length-append);
}

-- one more packet
pub passes_first : (state mid after : State) (bytes rest rest' : List ℕ)
    (packets : List TakenPacket) (packet : Packet) → Passes state bytes packets mid rest
    → IsFirst mid rest after packet rest'
    → Passes state bytes (packets ++ taken_of packet ∷ []) after rest'
passes_first state mid after bytes rest rest' packets packet p f =
    let frame = frame_bytes packet.frame in
    let one = one_packet (origin_of packet) frame f.some in
    subst (λ (l : List TakenPacket). Passes state bytes (packets ++ l) after rest') one
    (passes_unit state f.mid after bytes f.between rest' packets (origin_of packet) frame
    (passes_none state mid f.mid bytes rest f.between packets p f.passes) f.has.has_unit)

pub reported_first : (ledger come come' : Ledger) (state mid after : State)
    (bytes rest rest' text text' : List ℕ) (packet : Packet)
    → Reported ledger state bytes mid rest text come → IsFirst mid rest after packet rest'
    → text' ≡ text ++ reported come (taken_of packet) → come' ≡ noted come (taken_of packet)
    → Reported ledger state bytes after rest' text' come'
reported_first ledger come come' state mid after bytes rest rest' text text' packet t f all
    next =
    let taken = taken_of packet in
    record {
      packets = t.packets ++ taken ∷ [];
      passes = passes_first state mid after bytes rest rest' t.packets packet t.passes f;
      lines =
          grind (arith, append-nil, lines_from-append);
      come = grind (arith, noted_all-append);
    }

-- no more
pub reported_all : (ledger come : Ledger) (state mid after : State) (bytes rest rest' text : List ℕ)
    (refusal : Option CaptureError)
    → Reported ledger state bytes mid rest text come → HasNone mid rest after rest' refusal
    → Takes ledger state bytes after rest' text refusal come
reported_all ledger come state mid after bytes rest rest' text refusal t n = record {
  packets = t.packets;
  passes = passes_none state mid after bytes rest rest' t.packets t.passes n.passes;
  reported = t.lines;
  left = n.left;
  come = t.come;
}
