-- What is reported of bytes is determined by them: where no more units are taken, none follows.
use Rattle.std.proofs.Common.{◌≡◌, ◌∙◌, sym, ap, refl, subst, ℕ, ◌-◌, ◌≤◌, arith, List, [], ◌∷◌, ◌++◌, length}
use Rattle.std.proofs.Common.{append_assoc, length-append, inl, inr, Option, Some, None}
use Rattle.std.specs.Prelude.{IsTrue}
use Rattle.hex.specs.Hex.{IsBytes}
use Rattle.captures.specs.Lines.{Packet, blank}
use Rattle.captures.specs.Numbers.{word}
use Rattle.captures.specs.Pcap.{is_magic}
use Rattle.captures.specs.Pcapng.{Content, HasOrder, Says, Reads, RefusesBlock, section_header}
use Rattle.captures.specs.CaptureRuns.{ArePassedOver, IsCapture}
use Rattle.captures.specs.Units.{IsUnit, IsBlockUnit, IsRecordUnit, OpensFile, Row, in_a_row, no_section, HasNoFrame}
use Rattle.captures.specs.Units.{IsShortBlock, IsShortRecord, HasLongFrame, HasBadLength, HasRefusedBlock}
use Rattle.captures.specs.Units.{RefusesAt, RefusesFirst, BeginsSection, IsLeft, Takes}
use Rattle.captures.specs.declared.byte_order.ByteOrder.{ByteOrder}
use Rattle.captures.specs.declared.byte_order.ByteOrder.TheVariants.{Big}
use Rattle.captures.specs.declared.capture_error.CaptureError.{CaptureError}
use Rattle.captures.specs.declared.capture_error.CaptureError.TheVariants.{NotCapture, LinkType, FrameTooLong, CutOff}
use Rattle.captures.specs.declared.capture_error.CaptureError.TheVariants.{BlockTooLong, BadBlock, InterfaceLimit, NoFrame, Version}
use Rattle.captures.specs.declared.link.kind.Link.{Link}
use Rattle.captures.specs.declared.pcapng.section.Section.{Section}
use Rattle.captures.specs.declared.skipped.Passing.{Passing}
use Rattle.captures.specs.declared.skipped.Skipped.{Skipped}
use Rattle.captures.specs.declared.state.State.{State}
use Rattle.captures.specs.declared.unfit.Unfit.{Unfit}
use Rattle.captures.specs.declared.state.State.TheVariants.{Start, Classic, Pcapng}
use Rattle.captures.proofs.AloneLemmas.{prefix_same, rest_same, bytes_after, order_alone, order_more}
use Rattle.captures.proofs.AloneLemmas.{no_section_in, unit_alone}
use Rattle.captures.proofs.BlockLemmas.{word_of, skipped_prefix}
use Rattle.captures.specs.declared.extra.Extra.{Extra}
use Rattle.captures.specs.declared.text.ledger.Ledger.{Ledger}
use Rattle.captures.specs.declared.origin.Origin.{Origin}
use Rattle.captures.specs.declared.time.time_unit.TimeUnit.{TimeUnit}

-- ---- a section header's kind reads the same in both byte orders

section_kind : (o : ByteOrder) (bytes : List ℕ) → IsBytes bytes → word Big bytes 0 ≡ section_header
    → word o bytes 0 ≡ section_header
section_kind o bytes all big = grind arith

-- a block of that kind has 28 bytes at least
opens : (section : Section) (order : ByteOrder) (block : List ℕ) (content : Content)
    → Says section order block content → word order block 0 ≡ section_header → 28 ≤ length block
opens section order block content says kind = grind arith

-- ---- a block that is refused says nothing that is read

refused_says : (section : Section) (order : ByteOrder) (block : List ℕ) (error : CaptureError)
    → RefusesBlock section order block error → (after : Section) (origin : Origin) (frame : List ℕ)
    → Reads section order block after origin frame → ⊥
refused_says section order block error refused after origin frame reads = grind arith

-- ---- where the bytes begin with a unit

module _ (bytes u r : List ℕ) (all : IsBytes bytes) (parts : bytes ≡ u ++ r) (after : State)
    (origin : Origin) (frame : List ℕ) where
  fits : length u ≤ length bytes
  fits = let sizes = ap length parts in omega (arith, length-append u r)

  -- a block
  module _ (section : Section) (b : IsBlockUnit section u after origin frame) where
    long : 12 ≤ length u
    long = b.block.size

    its_order : (o : ByteOrder) → HasOrder section.order bytes o → o ≡ b.order
    its_order o has = order_alone section.order o b.order bytes all has
        (order_more section.order b.order bytes u r parts long b.has_order)

    its_length : (o : ByteOrder) → HasOrder section.order bytes o → word o bytes 4 ≡ length u
    its_length o has = let l = long in
        cc (its_order o has, word_of b.order bytes u r 4 parts (omega arith), b.block.prefix)

    -- is whole,
    not_short : IsShortBlock section bytes → ⊥
    not_short h = omega (arith, h.short, its_length h.order h.has_order, fits)

    -- and the block that is refused would be this one
    block_is : (o : ByteOrder) (block rest : List ℕ) → bytes ≡ block ++ rest
        → HasOrder section.order bytes o → word o bytes 4 ≡ length block → u ≡ block
    block_is o block rest parts' has size =
        prefix_same bytes u r block rest parts parts' (sym (its_length o has) ∙ size)

    not_refused : (error : CaptureError) → HasRefusedBlock section bytes error → ⊥
    not_refused error h =
        let size = h.is_block.size in
        let has = order_more section.order h.order bytes h.block h.rest h.parts size h.has_order in
        let reported = word_of h.order bytes h.block h.rest 4 h.parts (omega arith)
        ∙ h.is_block.prefix in
        let same = block_is h.order h.block h.rest h.parts has reported in
        let refused = subst (λ (l : List ℕ). RefusesBlock section h.order l error)
        (sym same) h.refused in
        refused_says section b.order u error
        (subst (λ (o : ByteOrder). RefusesBlock section o u error)
        (its_order h.order has) refused) b.next origin frame b.reads

    not_bad : HasBadLength section bytes → ⊥
    not_bad h =
        let size = its_length h.order h.has_order in
        let l = long in
        let words = b.block.words in
        elim h.bad [
          | inl few ↦ absurd (omega arith)
          | inr (inl half) ↦ grind arith
          | inr (inr other) ↦
              (let same = block_is h.order other.block other.rest other.parts h.has_order
              (sym other.size) in
              let back = subst (λ (o : ByteOrder). word o u (length u - 4) ≡ length u)
              (sym (its_order h.order h.has_order)) b.block.back in
              grind arith)
        ]

    not_at : (error : CaptureError) → RefusesAt section bytes error → ⊥
    not_at NotCapture refuses = refuses
    not_at (LinkType number) refuses = not_refused (LinkType number) refuses
    not_at (InterfaceLimit number) refuses = not_refused (InterfaceLimit number) refuses
    not_at (FrameTooLong captured) refuses = not_refused (FrameTooLong captured) refuses
    not_at NoFrame refuses = not_refused NoFrame refuses
    not_at CutOff refuses = refuses
    not_at (BlockTooLong len) refuses = grind (arith, its_order, its_length, long, skipped_prefix)
    not_at (Version major minor) refuses = not_refused (Version major minor) refuses
    not_at BadBlock (size, inl none) =
        none b.order (order_more section.order b.order bytes u r parts long b.has_order)
    not_at BadBlock (size, inr (inl bad)) = not_bad bad
    not_at BadBlock (size, inr (inr refused)) = not_refused BadBlock refused

  -- a file header
  module _ (unfit : Unfit) (o : OpensFile unfit u after) where
    no_kind : word Big bytes 0 ≡ section_header → ⊥
    no_kind kind =
        let size = o.header.size in
        no_section_in o.order bytes all
        (subst (λ (n : ℕ). IsTrue (is_magic n))
        (sym (word_of o.order bytes u r 0 parts (omega arith))) o.header.magic) kind

    not_first : (error : CaptureError) → RefusesFirst unfit bytes error → ⊥
    not_first error refuses = grind (arith, no_kind)

  -- a section header
  module _ (kind : word Big u 0 ≡ section_header)
      (unfit : Unfit) (b : IsBlockUnit (no_section unfit) u after origin frame) where
    kind_in : word Big bytes 0 ≡ section_header
    kind_in = let l = b.block.size in word_of Big bytes u r 0 parts (omega arith) ∙ kind

    begins : BeginsSection bytes
    begins = (
      kind_in,
      grind (arith, order_more, kind_in),
    )

    long_enough : (content : Content) → Says (no_section unfit) b.order u content → 28 ≤ length u
    long_enough content says =
        let l = b.block.size in
        let own = sym (word_of b.order bytes u r 0 parts (omega arith))
        ∙ section_kind b.order bytes all kind_in in
        opens (no_section unfit) b.order u content says own

    not_section : (error : CaptureError) → RefusesFirst unfit bytes error → ⊥
    not_section NotCapture refuses = grind (arith, long_enough, fits, begins)
    not_section (LinkType number) refuses =
        not_at (no_section unfit) b (LinkType number) refuses.1
    not_section (InterfaceLimit number) refuses =
        not_at (no_section unfit) b (InterfaceLimit number) refuses.1
    not_section (FrameTooLong captured) refuses =
        not_at (no_section unfit) b (FrameTooLong captured) refuses.1
    not_section NoFrame refuses = not_at (no_section unfit) b NoFrame refuses.1
    not_section CutOff refuses = refuses
    not_section (BlockTooLong len) refuses =
        not_at (no_section unfit) b (BlockTooLong len) refuses.1
    not_section (Version major minor) refuses =
        not_at (no_section unfit) b (Version major minor) refuses.1
    not_section BadBlock refuses = not_at (no_section unfit) b BadBlock refuses.1

  -- a packet record
  module _ (order : ByteOrder) (time_unit : TimeUnit) (link : Link) (passing : Passing)
      (i : IsRecordUnit order time_unit link passing u after frame) where
    long_record : 16 ≤ length u
    long_record = grind (arith, length-append)

    head_is : (head rest : List ℕ) → bytes ≡ head ++ rest → length head ≡ 16
        → word order head 8 ≡ length i.packet
    head_is head rest parts' size =
        let p = i.is_record in
        let prefix = parts ∙ ap (λ l. l ++ r) p.parts ∙ append_assoc p.head i.packet r in
        ap (λ (l : List ℕ). word order l 8)
        (prefix_same bytes head rest p.head (i.packet ++ r) parts' prefix (size ∙ sym p.size))
        ∙ p.captured

    not_cut : IsShortRecord order link passing.unfit bytes → ⊥
    not_cut h = grind (arith, head_is, fits, length-append)

    not_long : (captured : ℕ) → HasLongFrame order link passing.unfit bytes captured → ⊥
    not_long captured h = grind (arith, head_is)

    -- the packet without a frame would be this one
    not_unframed : HasNoFrame order link passing.unfit bytes → ⊥
    not_unframed h =
        let p = i.is_record in
        let p' = h.is_record in
        let parts' = h.parts ∙ ap (λ l. l ++ h.rest) p'.parts
        ∙ append_assoc p'.head h.packet h.rest in
        let prefix = parts ∙ ap (λ l. l ++ r) p.parts ∙ append_assoc p.head i.packet r in
        let size = p'.size ∙ sym p.size in
        let reported = head_is p'.head (h.packet ++ h.rest) parts' p'.size in
        let following = rest_same bytes p'.head (h.packet ++ h.rest) p.head
        (i.packet ++ r) parts' prefix size in
        let same : h.packet ≡ i.packet =
        prefix_same (h.packet ++ h.rest) h.packet h.rest i.packet r refl following
        (sym p'.captured ∙ reported) in
        grind arith

-- ---- so what is left begins with none

left_no_unit : (state : State) (bytes u r : List ℕ) → IsBytes bytes → bytes ≡ u ++ r
    → (after : State) (origin : Origin) (frame : List ℕ) → IsUnit state u after origin frame
    → (refusal : Option CaptureError) → IsLeft state bytes refusal → ⊥
left_no_unit (Start unfit) bytes u r all parts after origin frame (inl i) None (inl few) =
    omega (arith, i.0.header.size, fits bytes u r all parts after origin frame)
left_no_unit (Start unfit) bytes u r all parts after origin frame (inl i) None (inr h) =
    no_kind bytes u r all parts after origin frame unfit i.0 h.0
left_no_unit (Start unfit) bytes u r all parts after origin frame (inr i) None (inl few) =
    omega (
      arith,
      long_enough bytes u r all parts after origin frame i.0 unfit i.1 i.1.reads.content i.1.reads.says,
      fits bytes u r all parts after origin frame,
    )
left_no_unit (Start unfit) bytes u r all parts after origin frame (inr i) None (inr h) =
    not_short bytes u r all parts after origin frame (no_section unfit) i.1 h.1
left_no_unit (Start unfit) bytes u r all parts after origin frame (inl i) (Some error) refuses =
    not_first bytes u r all parts after origin frame unfit i.0 error refuses.1
left_no_unit (Start unfit) bytes u r all parts after origin frame (inr i) (Some error) refuses =
    not_section bytes u r all parts after origin frame i.0 unfit i.1 error refuses.1
left_no_unit (Classic order time_unit link passing) bytes u r all parts after origin frame i None (inl few) =
    let l = long_record bytes u r all parts after origin frame order time_unit link passing i.0 in
    let f = fits bytes u r all parts after origin frame in
    absurd (omega arith)
left_no_unit (Classic order time_unit link passing) bytes u r all parts after origin frame i None (inr h) =
    not_cut bytes u r all parts after origin frame order time_unit link passing i.0 h
left_no_unit (Classic order time_unit link passing) bytes u r all parts after origin frame i
    (Some NotCapture) refuses = refuses
left_no_unit (Classic order time_unit link passing) bytes u r all parts after origin frame i
    (Some (LinkType number)) refuses = cc (i.0.read, refuses.other)
left_no_unit (Classic order time_unit link passing) bytes u r all parts after origin frame i
    (Some (InterfaceLimit number)) refuses = refuses
left_no_unit (Classic order time_unit link passing) bytes u r all parts after origin frame i
    (Some (FrameTooLong captured)) refuses =
    not_long bytes u r all parts after origin frame order time_unit link passing i.0 captured refuses
left_no_unit (Classic order time_unit link passing) bytes u r all parts after origin frame i
    (Some NoFrame) refuses =
    not_unframed bytes u r all parts after origin frame order time_unit link passing i.0 refuses
left_no_unit (Classic order time_unit link passing) bytes u r all parts after origin frame i
    (Some CutOff) refuses = refuses
left_no_unit (Classic order time_unit link passing) bytes u r all parts after origin frame i
    (Some (BlockTooLong len)) refuses = refuses
left_no_unit (Classic order time_unit link passing) bytes u r all parts after origin frame i
    (Some (Version major minor)) refuses = refuses
left_no_unit (Classic order time_unit link passing) bytes u r all parts after origin frame i
    (Some BadBlock) refuses = refuses
left_no_unit (Pcapng section) bytes u r all parts after origin frame i None (inl few) = let size =
    i.block.size in let f = fits bytes u r all parts after origin frame in absurd (omega arith)
left_no_unit (Pcapng section) bytes u r all parts after origin frame i None (inr h) =
    not_short bytes u r all parts after origin frame section i h
left_no_unit (Pcapng section) bytes u r all parts after origin frame i (Some error) refuses =
    not_at bytes u r all parts after origin frame section i error refuses

rows_alone : (state : State) (us vs : List (List ℕ)) (ps qs : List Packet) (after after' : State)
    (rest rest' : List ℕ) (refusal refusal' : Option CaptureError)
    → IsBytes (in_a_row us ++ rest) → in_a_row us ++ rest ≡ in_a_row vs ++ rest' → Row state us ps
    after
    → Row state vs qs after' → IsLeft after rest refusal → IsLeft after' rest' refusal'
    → (ps ≡ qs) × (after ≡ after')
rows_alone state [] [] ps qs after after' rest rest' refusal refusal' all same row row' left left' =
    (row.0 ∙ sym row'.0, row.1 ∙ sym row'.1)
rows_alone state [] (v ∷ vs) ps qs after after' rest rest' refusal refusal' all
    same row row' left left' =
    absurd (left_no_unit state rest v (in_a_row vs ++ rest') all
    (same ∙ append_assoc v (in_a_row vs) rest') row'.0 row'.1 row'.2 row'.4 refusal
    (subst (λ (s : State). IsLeft s rest refusal) row.1 left))
rows_alone state (u ∷ us) [] ps qs after after' rest rest' refusal refusal' all
    same row row' left left' =
    absurd (left_no_unit state rest' u (in_a_row us ++ rest) (subst IsBytes same all)
    (sym same ∙ append_assoc u (in_a_row us) rest) row.0 row.1 row.2 row.4 refusal'
    (subst (λ (s : State). IsLeft s rest' refusal') row'.1 left'))
rows_alone state (u ∷ us) (v ∷ vs) ps qs after after' rest rest' refusal refusal' all
    same row row' left left' =
    let bytes = u ++ (in_a_row us ++ rest) in
    let bytes' : IsBytes bytes = subst IsBytes (append_assoc u (in_a_row us) rest) all in
    let parts : bytes ≡ v ++ (in_a_row vs ++ rest') =
    grind (arith, append_assoc) in
    let one = unit_alone state bytes u (in_a_row us ++ rest) v
    (in_a_row vs ++ rest') bytes' refl parts row.0 row'.0 row.1 row'.1
    row.2 row'.2 row.4 row'.4 in
    let following = rest_same bytes u (in_a_row us ++ rest) v
    (in_a_row vs ++ rest') refl parts (ap length one.0) in
    let later' = subst (λ (s : State). Row s vs row'.3 after') (sym one.1) row'.5 in
    let later = rows_alone row.0 us vs row.3 row'.3 after after' rest rest' refusal refusal'
    (bytes_after u (in_a_row us ++ rest) bytes') following row.5 later' left left' in
    grind arith

pub reported_alone : (extra : Extra) (unfit : Unfit) (bytes rest rest' text text' : List ℕ) (state state' : State) (refusal refusal' : Option CaptureError) (noted noted' : Ledger)
    → IsBytes bytes
    → Takes (blank extra) (Start unfit) bytes state rest text refusal noted
    → Takes (blank extra) (Start unfit) bytes state' rest' text' refusal' noted'
    → text ≡ text'
reported_alone extra unfit bytes rest rest' text text' state state' refusal refusal' noted
    noted' all t t' =
    let p = t.passes in
    let p' = t'.passes in
    let same = rows_alone (Start unfit) p.units p'.units t.packets t'.packets state state'
    rest rest' refusal refusal' (subst IsBytes p.parts all)
    (sym p.parts ∙ p'.parts) p.row p'.row t.left t'.left in
    grind arith

nothing_left : (state : State) → IsLeft state [] None
nothing_left (Start unfit) = inl (omega arith)
nothing_left (Classic order time_unit link passing) = inl (omega arith)
nothing_left (Pcapng section) = inl (omega arith)

pub capture_alone : (unfit : Unfit) (bytes : List ℕ) (packets packets' : List Packet)
    (skipped skipped' : Skipped) → IsBytes bytes → IsCapture unfit bytes packets skipped
    → IsCapture unfit bytes packets' skipped' → (packets ≡ packets') × (skipped ≡ skipped')
capture_alone unfit bytes packets packets' skipped skipped' all capture capture' =
    let p = capture.passes in
    let p' = capture'.passes in
    let same = rows_alone (Start unfit) p.units p'.units packets packets' capture.state
    capture'.state [] [] None None (subst IsBytes p.parts all) (sym p.parts ∙ p'.parts)
    p.row p'.row (nothing_left capture.state) (nothing_left capture'.state) in
    grind arith

pub passed_over_alone : (unfit : Unfit) (bytes : List ℕ) (skipped skipped' : Skipped)
    → IsBytes bytes → ArePassedOver unfit skipped bytes → ArePassedOver unfit skipped' bytes
    → skipped ≡ skipped'
passed_over_alone unfit bytes skipped skipped' all a a' = grind (arith, rows_alone)
