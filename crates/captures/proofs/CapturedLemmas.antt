-- Each packet of a capture has a line.
use Rattle.std.proofs.Common.{◌≡◌, ◌∙◌, sym, ap, subst, ℕ, ◌+◌, ◌*◌, ◌^◌, ◌<◌, ◌≤◌, arith, List, [], ◌∷◌, length, drop, inl}
use Rattle.std.proofs.Common.{inr}
use Rattle.std.specs.Prelude.{min}
use Rattle.std.specs.List.{AllByRecursion}
use Rattle.captures.proofs.ByteLemmas.{Bytes, bytes_by, bytes_at, bytes_drop, bytes_take, bytes_prefix, bytes_back}
use Rattle.captures.proofs.BlockLemmas.{word_prefix}
use Rattle.captures.proofs.FramedLemmas.{reported_bytes, reported_fits, reported_whole}
use Rattle.captures.specs.Framed.{frame_len, wire_len_on}
use Rattle.captures.specs.ComeBack.{HasLine, CapturedPacketsHaveLines}
use Rattle.captures.specs.Lines.{Packet, packets_of}
use Rattle.captures.specs.Numbers.{half, word}
use Rattle.captures.specs.Pcapng.{Content, Says, Becomes, IsTimedPacket, clock_at}
use Rattle.captures.specs.Pcapng.Content.{Opens, OpensOther, Describes, Holds, Nothing}
use Rattle.captures.specs.Units.{IsUnit, IsBlockUnit, Row, in_a_row, no_section}
use Rattle.captures.specs.declared.byte_order.ByteOrder.{ByteOrder}
use Rattle.captures.specs.declared.limits.TheConstants.{TIME_LIMIT}
use Rattle.line_grammar.specs.declared.frame_limits.TheConstants.{FRAME_LIMIT}
use Rattle.captures.specs.Times.{moved, nanoseconds_in, nanoseconds_of}
use Rattle.captures.specs.declared.link.kind.Link.{Link}
use Rattle.captures.specs.declared.pcapng.section.Section.{Section}
use Rattle.captures.specs.declared.state.State.{State}
use Rattle.captures.specs.declared.state.State.TheVariants.{Start, Classic, Pcapng}
use Rattle.captures.specs.declared.origin.Origin.{Origin}

most_time : (n : ℕ) → min n TIME_LIMIT ≤ TIME_LIMIT
most_time n = omega arith

most_wire_len : (link : Link) (captured n : ℕ) → wire_len_on link captured n < 2 ^ 32
most_wire_len link captured n = omega arith

-- on the wire a frame had at least its own length
least_wire_len : (link : Link) (len captured n : ℕ) → len ≤ frame_len link captured → len ≤ FRAME_LIMIT
    → len ≤ wire_len_on link captured n
least_wire_len link len captured n fits short = omega arith

-- ---- a unit's packet

abbrev Fit : Origin → List ℕ → Type 0
Fit origin frame = AllByRecursion HasLine (packets_of origin frame)

fits_line : (origin : Origin) (frame : List ℕ) → length frame ≤ FRAME_LIMIT → Bytes frame
    → origin.channel < 2 ^ 32 → origin.time ≤ TIME_LIMIT → origin.wire_len < 2 ^ 32
    → length frame ≤ origin.wire_len → Fit origin frame
fits_line origin frame short bytes number time wire_len whole = grind (arith, bytes_at)

none_fits : (origin : Origin) (frame : List ℕ) → frame ≡ [] → Fit origin frame
none_fits origin frame none = subst (λ (f : List ℕ). Fit origin f) (sym none) tt

-- the numbers of a section's interfaces begin with one of 32 bits
abbrev InRange : State → Type 0
InRange (Start unfit) = Unit {0}
InRange (Classic order time_unit link passing) = Unit {0}
InRange (Pcapng section) = section.first < 2 ^ 32

timed_fits : (interface : ℕ) (section : Section) (order : ByteOrder) (block : List ℕ)
    (after : Section) (origin : Origin) (frame : List ℕ) → section.first < 2 ^ 32 → Bytes block
    → (number : Origin) (link : Link) (held : List ℕ)
    → IsTimedPacket interface section order block number link held
    → Becomes section order (Holds number link held) after origin frame
    → (after.first < 2 ^ 32) × Fit origin frame
timed_fits interface section order block after origin frame range bytes number link held says
    becomes =
    let number' = ap (λ (o : Origin). o.channel) becomes.1 in
    let in' = says.fits in
    let time = ap (λ (o : Origin). o.time) becomes.1 in
    let reported_time = says.time in
    let on_wire = ap (λ (o : Origin). o.wire_len) becomes.1 in
    let reported_len = says.wire in
    let most_len = most_wire_len link (length held) (word order block 24) in
    let least_len = least_wire_len link (length frame) (length held) (word order block 24) in
    let most = most_time (moved (clock_at section interface).offset
    (nanoseconds_of (clock_at section interface).resolution
    (2 ^ 32 * word order block 12 + word order block 16))) in
    let held' : Bytes held = subst Bytes (sym says.bytes)
    (bytes_take (length held) (drop 28 block) (bytes_drop 28 block bytes)) in
    grind (arith, fits_line, reported_fits, reported_bytes, reported_whole)

block_fits : (section : Section) (order : ByteOrder) (block : List ℕ) (after : Section)
    (origin : Origin) (frame : List ℕ) → section.first < 2 ^ 32 → Bytes block
    → (content : Content) → Says section order block content
    → Becomes section order content after origin frame → (after.first < 2 ^ 32) × Fit origin frame
block_fits section order block after origin frame range bytes (Opens first) says becomes =
    grind arith
block_fits section order block after origin frame range bytes (OpensOther major minor) says
    becomes = absurd becomes
block_fits section order block after origin frame range bytes
    (Describes link_type snap_len clock) says becomes = (
      grind arith,
      none_fits origin frame becomes.3,
    )
block_fits section order block after origin frame range bytes
    (Holds number link held) (inl says) becomes =
    timed_fits (word order block 8) section order block after origin frame range bytes number
    link held says.1 becomes
block_fits section order block after origin frame range bytes
    (Holds number link held) (inr (inl says)) becomes =
    timed_fits (half order block 8) section order block after origin frame range bytes number
    link held says.1 becomes
block_fits section order block after origin frame range bytes
    (Holds number link held) (inr (inr says)) becomes =
    let number' = ap (λ (o : Origin). o.channel) becomes.1 in
    let first = says.number in
    let time = ap (λ (o : Origin). o.time) becomes.1 in
    let reported_time = says.time in
    let on_wire = ap (λ (o : Origin). o.wire_len) becomes.1 in
    let reported_len = says.wire in
    let most_len = most_wire_len link (length held) (word order block 8) in
    let least_len = least_wire_len link (length frame) (length held) (word order block 8) in
    let held' : Bytes held = grind (arith, bytes_take, bytes_drop) in
    grind (arith, fits_line, reported_fits, reported_bytes, reported_whole)
block_fits section order block after origin frame range bytes Nothing says becomes = grind arith

block_unit_fits : (section : Section) (unit : List ℕ) (after : State) (origin : Origin) (frame : List ℕ)
    → section.first < 2 ^ 32 → Bytes unit
    → IsBlockUnit section unit after origin frame → InRange after × Fit origin frame
block_unit_fits section unit after origin frame range bytes b = grind (arith, block_fits)

unit_fits : (state : State) (unit : List ℕ) (after : State) (origin : Origin) (frame : List ℕ)
    → InRange state → Bytes unit → IsUnit state unit after origin frame
    → InRange after × Fit origin frame
unit_fits (Start unfit) unit after origin frame range bytes (inl is) =
    (subst InRange (sym is.0.next) tt, none_fits origin frame is.1)
unit_fits (Start unfit) unit after origin frame range bytes (inr is) =
    block_unit_fits (no_section unfit) unit after origin frame (omega arith) bytes is.1
unit_fits (Classic order time_unit link passing) unit after origin frame range bytes is =
    let zero' = ap (λ (o : Origin). o.channel) is.1 in
    let i = is.0 in
    let time = ap (λ (o : Origin). o.time) is.1 in
    let on_wire = ap (λ (o : Origin). o.wire_len) is.1 in
    let r = i.is_record in
    let captured : word order unit 8 ≡ length i.packet =
    rw r.parts (word_prefix order r.head i.packet 8 (omega (arith, r.size)) ∙ r.captured) in
    let most_len = most_wire_len link (word order unit 8) (word order unit 12) in
    let least_len = least_wire_len link (length frame) (word order unit 8) (word order unit 12) in
    let most = most_time (1000000000 * word order unit 0
    + nanoseconds_in time_unit * word order unit 4) in
    grind (arith, fits_line, reported_fits, reported_bytes, reported_whole, bytes_back)
unit_fits (Pcapng section) unit after origin frame range bytes is =
    block_unit_fits section unit after origin frame range bytes is

row_fits : (state : State) (units : List (List ℕ)) (packets : List Packet) (after : State)
    → InRange state → Bytes (in_a_row units) → Row state units packets after
    → AllByRecursion HasLine packets
row_fits state [] packets after range bytes row = subst (AllByRecursion HasLine) (sym row.0) tt
row_fits state (unit ∷ units) packets after range bytes row =
    let first = unit_fits state unit row.0 row.1 row.2 range
    (bytes_prefix unit (in_a_row units) bytes) row.4 in
    let later = row_fits row.0 units row.3 after first.0
    (bytes_back unit (in_a_row units) bytes) row.5 in
    grind arith

pub captured_packets_have_lines : CapturedPacketsHaveLines
captured_packets_have_lines unfit bytes packets skipped all capture =
    let p = capture.passes in
    grind (arith, row_fits, bytes_prefix, bytes_by)
