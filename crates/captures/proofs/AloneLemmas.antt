-- The packets of a capture are determined by its bytes.
use Rattle.std.proofs.lemmas.Bool.Decides.{nat_tests}
use Rattle.std.proofs.Common.{◌≡◌, ◌∙◌, sym, ap, ap₂, refl, subst, ℕ, ◌+◌, ◌-◌, ◌*◌, ◌/◌, ◌%◌, ◌<◌, ◌≤◌, ◌==◌, arith}
use Rattle.std.proofs.Common.{List, [], ◌++◌, length, take, drop, append_assoc, inl, inr, Some, Bool}
use Rattle.std.specs.Prelude.{IsTrue, if◌then◌else◌}
use Rattle.std.proofs.Math.Seq.{take-append_seam, drop-append_seam}
use Rattle.std.proofs.lemmas.List.{get_or-append-add}
use Rattle.hex.specs.Hex.{IsBytes}
use Rattle.captures.specs.Framed.{reported_frame, wire_len_on}
use Rattle.captures.specs.Lines.{packets_of}
use Rattle.captures.specs.Numbers.{half, word}
use Rattle.captures.specs.Pcap.{is_magic}
use Rattle.captures.specs.Pcapng.{Content, HasOrder, Says, Becomes, section_header, is_read_version}
use Rattle.captures.specs.Pcapng.{enhanced_packet, interface_description, obsolete_packet, simple_packet, link_at}
use Rattle.captures.specs.Pcapng.{clock_at, clocks_with, simple_packet_captured_len}
use Rattle.captures.specs.Times.{clock_of, clock_time}
use Rattle.captures.specs.Units.{record_origin, IsUnit, IsBlockUnit, IsRecordUnit, OpensFile, no_section}
use Rattle.captures.specs.Pcapng.Content.{Opens, OpensOther, Describes, Holds, Nothing}
use Rattle.captures.specs.declared.byte_order.ByteOrder.{ByteOrder}
use Rattle.captures.specs.declared.byte_order.ByteOrder.TheVariants.{Big}
use Rattle.captures.specs.declared.link.kind.Link.{Link}
use Rattle.captures.specs.declared.pcapng.section.Section.{Section}
use Rattle.captures.specs.declared.skipped.Passing.{Passing}
use Rattle.captures.specs.declared.state.State.{State}
use Rattle.captures.specs.declared.unfit.Unfit.{Unfit}
use Rattle.captures.specs.declared.state.State.TheVariants.{Start, Classic, Pcapng}
use Rattle.captures.proofs.BlockLemmas.{word_of}
use Rattle.captures.specs.declared.origin.Origin.{Origin}
use Rattle.captures.specs.declared.time.time_unit.TimeUnit.{TimeUnit}
use Rattle.captures.specs.declared.time.clock.Clock.{Clock}

-- ---- parts of the same bytes

-- prefixes of the same length are the same,
pub prefix_same : (bytes u r u' r' : List ℕ) → bytes ≡ u ++ r → bytes ≡ u' ++ r'
    → length u ≡ length u' → u ≡ u'
prefix_same bytes u r u' r' parts parts' size =
    sym (take-append_seam u r) ∙ ap (take (length u)) (sym parts) ∙ ap (λ n. take n bytes) size
    ∙ ap (take (length u')) parts' ∙ take-append_seam u' r'

-- and so is what follows them
pub rest_same : (bytes u r u' r' : List ℕ) → bytes ≡ u ++ r → bytes ≡ u' ++ r'
    → length u ≡ length u' → r ≡ r'
rest_same bytes u r u' r' parts parts' size =
    sym (drop-append_seam u r) ∙ ap (drop (length u)) (sym parts) ∙ ap (λ n. drop n bytes) size
    ∙ ap (drop (length u')) parts' ∙ drop-append_seam u' r'

pub bytes_after : (u r : List ℕ) → IsBytes (u ++ r) → IsBytes r
bytes_after u r all i = subst (λ (b : ℕ). b < 256) (get_or-append-add u r i 0) (all (length u + i))

-- ---- a number in one byte order, and another in the other

first_byte : (a b c d n m : ℕ) → a < 256 → b < 256 → c < 256 → d < 256
    → 256 * (256 * (256 * a + b) + c) + d ≡ n → a + 256 * (b + 256 * (c + 256 * d)) ≡ m
    → n / 16777216 ≡ m % 256
first_byte a b c d n m la lb lc ld big little = omega arith

pub order_alone : (order o o' : ByteOrder) (bytes : List ℕ) → IsBytes bytes → HasOrder order bytes o
    → HasOrder order bytes o' → o ≡ o'
order_alone order o o' bytes all h p = grind arith

-- the byte order of a prefix is that of the bytes
pub order_more : (order o : ByteOrder) (bytes prefix rest : List ℕ) → bytes ≡ prefix ++ rest
    → 12 ≤ length prefix → HasOrder order prefix o → HasOrder order bytes o
order_more order o bytes prefix rest parts size (inl h) =
    inl (λ e. h.0 (sym (word_of Big bytes prefix rest 0 parts (omega arith)) ∙ e), h.1)
order_more order o bytes prefix rest parts size (inr h) =
    inr (
      word_of Big bytes prefix rest 0 parts (omega arith)
          ∙ h.0,
      word_of o bytes prefix rest 8 parts (omega arith) ∙ h.1,
    )

pub file_order : (o o' : ByteOrder) (bytes : List ℕ) → IsBytes bytes
    → IsTrue (is_magic (word o bytes 0)) → IsTrue (is_magic (word o' bytes 0)) → o ≡ o'
file_order o o' bytes all = grind arith

pub no_section_in : (o : ByteOrder) (bytes : List ℕ) → IsBytes bytes
    → IsTrue (is_magic (word o bytes 0)) → word Big bytes 0 ≡ section_header → ⊥
no_section_in o bytes all m big = grind arith

-- ---- what a block says

-- where and when a packet was captured, in a block that has the time, and in one that hasn't
abbrev pub timed_origin : Section → ByteOrder → List ℕ → ℕ → Origin
timed_origin section order block interface = record {
  channel = section.first + interface;
  time = clock_time (clock_at section interface) (word order block 12) (word order block 16);
  wire_len = wire_len_on (link_at section interface) (word order block 20) (word order block 24);
}

abbrev pub untimed_origin : Section → ByteOrder → List ℕ → Origin
untimed_origin section order block = record {
  channel = section.first;
  time = 0;
  wire_len = wire_len_on (link_at section 0) (simple_packet_captured_len section.snap_len (word order block 8))
      (word order block 8);
}

-- what a section header says, by whether its version is read
abbrev pub header_content : Section → ByteOrder → List ℕ → Bool → Content
header_content section order block is_read =
    if is_read then Opens (section.first + section.interfaces)
    else OpensOther (half order block 12) (half order block 14)

-- a block says one thing at most
abbrev pub content_at : Section → ByteOrder → List ℕ → ℕ → Content
content_at section order block kind =
    if kind == section_header then header_content section order block
    (is_read_version (half order block 12) (half order block 14))
    else (if kind == interface_description then Describes (half order block 8) (word order block 12)
    (clock_of order (take (length block - 20) (drop 16 block)))
    else (if kind == enhanced_packet then Holds (timed_origin section order block (word order block 8))
    (link_at section (word order block 8)) (take (word order block 20) (drop 28 block))
    else (if kind == obsolete_packet then Holds (timed_origin section order block (half order block 8))
    (link_at section (half order block 8)) (take (word order block 20) (drop 28 block))
    else (if kind == simple_packet then Holds (untimed_origin section order block) (link_at section 0)
    (take (simple_packet_captured_len section.snap_len (word order block 8)) (drop 12 block)) else Nothing))))

pub content_is : (section : Section) (order : ByteOrder) (block : List ℕ) (content : Content)
    → Says section order block content
    → content_at section order block (word order block 0) ≡ content
content_is section order block content says = grind (arith, nat_tests)

pub becomes_as : (section : Section) (order : ByteOrder) (block : List ℕ)
    (content content' : Content) → Says section order block content
    → Says section order block content' → (after : Section) (origin : Origin) (frame : List ℕ)
    → Becomes section order content after origin frame
    → Becomes section order content' after origin frame
becomes_as section order block content content' says says' after origin frame =
    subst (λ (k : Content). Becomes section order k after origin frame)
    (sym (content_is section order block content says) ∙ content_is section order block content'
    says')

some_same : {A : Type 0} {x y : A} → Some x ≡ Some y → x ≡ y
some_same same = cc

abbrev with_interface : Section → ℕ → Clock → List Link → Section
with_interface section snap clock links = record section {
  interfaces = section.interfaces + 1;
  snap_len = (if section.interfaces == 0 then snap else section.snap_len);
  links = links;
  clocks = clocks_with section clock;
}

-- the section and the packet after a block are determined by what it says
becomes_once : (section : Section) (order : ByteOrder) (content : Content)
    (after after' : Section) (origin origin' : Origin) (frame frame' : List ℕ)
    → Becomes section order content after origin frame
    → Becomes section order content after' origin' frame'
    → (after ≡ after') × (packets_of origin frame ≡ packets_of origin' frame')
becomes_once section order content after after' origin origin' frame frame' b b' = grind arith

-- ---- units

-- bytes are a unit and what follows it in one way only
module _ (bytes u r u' r' : List ℕ) (all : IsBytes bytes) (parts : bytes ≡ u ++ r)
    (parts' : bytes ≡ u' ++ r') (after after' : State) (origin origin' : Origin)
    (frame frame' : List ℕ) where
  abbrev One : Type 0
  One = (u ≡ u') × (after ≡ after') × (packets_of origin frame ≡ packets_of origin' frame')

  block_alone : (section : Section) → IsBlockUnit section u after origin frame
      → IsBlockUnit section u' after' origin' frame' → One
  block_alone section b b' =
      let long = b.block.size in
      let long' = b'.block.size in
      let order = order_alone section.order b.order b'.order bytes all
      (order_more section.order b.order bytes u r parts long b.has_order)
      (order_more section.order b'.order bytes u' r' parts' long' b'.has_order) in
      let reported = word_of b.order bytes u r 4 parts (omega arith) ∙ b.block.prefix in
      let reported' = word_of b'.order bytes u' r' 4 parts' (omega arith) ∙ b'.block.prefix in
      let size : length u ≡ length u' = grind arith in
      let same = prefix_same bytes u r u' r' parts parts' size in
      let says' = subst (λ (o : ByteOrder). Says section o u b'.reads.content) (sym order)
      (subst (λ (l : List ℕ). Says section b'.order l b'.reads.content)
      (sym same) b'.reads.says) in
      let becomes' =
      subst (λ (o : ByteOrder). Becomes section o b'.reads.content b'.next origin' frame')
      (sym order) b'.reads.becomes in
      let once = becomes_once section b.order b.reads.content b.next b'.next origin origin' frame
      frame' b.reads.becomes (becomes_as section b.order u b'.reads.content b.reads.content
      says' b.reads.says b'.next origin' frame' becomes') in
      grind arith

  file_alone : (unfit : Unfit) → OpensFile unfit u after → frame ≡ [] → OpensFile unfit u' after'
      → frame' ≡ [] → One
  file_alone unfit o none o' none' =
      let size = o.header.size in
      let size' = o'.header.size in
      let magic = subst (λ (n : ℕ). IsTrue (is_magic n))
      (sym (word_of o.order bytes u r 0 parts (omega arith))) o.header.magic in
      let magic' = subst (λ (n : ℕ). IsTrue (is_magic n))
      (sym (word_of o'.order bytes u' r' 0 parts' (omega arith))) o'.header.magic in
      let unit = prefix_same bytes u r u' r' parts parts' (size ∙ sym size') in
      let order = file_order o.order o'.order bytes all magic magic' in
      grind arith

  record_alone : (order : ByteOrder) (time_unit : TimeUnit) (link : Link) (passing : Passing)
      → IsRecordUnit order time_unit link passing u after frame
      → IsRecordUnit order time_unit link passing u' after' frame'
      → origin ≡ record_origin order time_unit link u → origin' ≡ record_origin order time_unit link u' → One
  record_alone order time_unit link passing i i' from from' =
      let p = i.is_record in
      let p' = i'.is_record in
      let packet = i.packet in
      let packet' = i'.packet in
      let size = p.size in
      let size' = p'.size in
      let prefix = parts ∙ ap (λ l. l ++ r) p.parts ∙ append_assoc p.head packet r in
      let prefix' = parts' ∙ ap (λ l. l ++ r') p'.parts ∙ append_assoc p'.head packet' r' in
      let head = prefix_same bytes p.head (packet ++ r) p'.head
      (packet' ++ r') prefix prefix' (size ∙ sym size') in
      let following = rest_same bytes p.head (packet ++ r) p'.head
      (packet' ++ r') prefix prefix' (size ∙ sym size') in
      let count : length packet ≡ length packet' =
      grind arith in
      let packets = prefix_same (packet ++ r) packet r packet' r' refl following count in
      let frames = some_same (sym i.is_reported ∙ ap (reported_frame passing.unfit link) packets
      ∙ i'.is_reported) in
      let unit = p.parts ∙ ap₂ (λ (a b : List ℕ). a ++ b) head packets ∙ sym p'.parts in grind arith

  -- a file header doesn't begin a section
  file_no_section : (unfit : Unfit) → OpensFile unfit u after → 12 ≤ length u'
      → word Big u' 0 ≡ section_header → ⊥
  file_no_section unfit o long kind =
      let size = o.header.size in
      no_section_in o.order bytes all
      (subst (λ (n : ℕ). IsTrue (is_magic n))
      (sym (word_of o.order bytes u r 0 parts (omega arith))) o.header.magic)
      (word_of Big bytes u' r' 0 parts' (omega arith) ∙ kind)

pub unit_alone : (state : State) (bytes u r u' r' : List ℕ) (all : IsBytes bytes)
    (parts : bytes ≡ u ++ r) (parts' : bytes ≡ u' ++ r') (after after' : State)
    (origin origin' : Origin) (frame frame' : List ℕ)
    → IsUnit state u after origin frame → IsUnit state u' after' origin' frame'
    → (u ≡ u') × (after ≡ after') × (packets_of origin frame ≡ packets_of origin' frame')
unit_alone (Start unfit) bytes u r u' r' all parts parts' after after' origin origin' frame frame'
    (inl i) (inl i') =
    file_alone bytes u r u' r' all parts parts' after after' origin origin' frame
    frame' unfit i.0 i.1 i'.0 i'.1
unit_alone (Start unfit) bytes u r u' r' all parts parts' after after' origin origin' frame frame'
    (inl i) (inr i') =
    absurd (file_no_section bytes u r u' r' all parts parts' after after' origin origin' frame
    frame' unfit i.0 i'.1.block.size i'.0)
unit_alone (Start unfit) bytes u r u' r' all parts parts' after after' origin origin' frame frame'
    (inr i) (inl i') =
    absurd (file_no_section bytes u' r' u r all parts' parts after' after origin' origin frame'
    frame unfit i'.0 i.1.block.size i.0)
unit_alone (Start unfit) bytes u r u' r' all parts parts' after after' origin origin' frame frame'
    (inr i) (inr i') =
    block_alone bytes u r u' r' all parts parts' after after' origin origin' frame
    frame' (no_section unfit) i.1 i'.1
unit_alone (Classic order time_unit link passing) bytes u r u' r' all parts parts' after after' origin
    origin' frame frame' i i' =
    record_alone bytes u r u' r' all parts parts' after after' origin origin' frame frame' order
    time_unit link passing i.0 i'.0 i.1 i'.1
unit_alone (Pcapng section) bytes u r u' r' all parts parts' after after' origin
    origin' frame frame' i i' =
    block_alone bytes u r u' r' all parts parts' after after' origin origin'
    frame frame' section i i'
