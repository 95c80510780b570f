-- What a block can't say.
use Rattle.std.proofs.Common.{◌≡◌, sym, ℕ, ◌+◌, ◌-◌, ◌%◌, ◌==◌, ◌≤◌, List, ◌++◌, arith, length, inl, inr}
use Rattle.std.specs.Prelude.{slice_index, if◌then◌else◌, Option, Some, None, MatchOption}
use Rattle.std.proofs.lemmas.List.{get_or_append_left, get_or-append-add}
use Rattle.captures.specs.Numbers.{half, word}
use Rattle.captures.specs.Pcapng.{Content, Says, IsTimedPacket, IsSimplePacket, HasOrder, enhanced_packet}
use Rattle.captures.specs.Pcapng.{obsolete_packet, simple_packet, IsBlock, IsSkipped, IsTaken, RefusesBlock}
use Rattle.captures.specs.Pcapng.{clocks_with}
use Rattle.captures.specs.declared.time.clock.Clock.{Clock}
use Rattle.captures.specs.Units.{RefusesAt, record_origin}
use Rattle.captures.specs.declared.time.time_unit.TimeUnit.{TimeUnit}
use Rattle.captures.specs.declared.byte_order.ByteOrder.TheVariants.{Big}
use Rattle.captures.specs.declared.capture_error.CaptureError.{CaptureError}
use Rattle.captures.specs.declared.link.kind.Link.{Link}
use Rattle.captures.specs.Pcapng.Content.{Opens, OpensOther, Describes, Holds, Nothing}
use Rattle.captures.specs.declared.byte_order.ByteOrder.{ByteOrder}
use Rattle.captures.specs.declared.pcapng.section.Section.{Section}
use Rattle.captures.specs.declared.origin.Origin.{Origin}

pub match_as : {A : Type 0} (found : Option A) (P P' : Type 0) (Q Q' : A → Type 0) → (P → P')
    → ((x : A) → Q x → Q' x) → MatchOption found P Q → MatchOption found P' Q'
match_as None P P' Q Q' none some m = none m
match_as (Some x) P P' Q Q' none some m = some x m

-- where it is of a kind that holds packets, and holds none
pub no_enhanced : (section : Section) (order : ByteOrder) (block : List ℕ)
    → word order block 0 ≡ enhanced_packet
    → ((origin : Origin) (link : Link) (packet : List ℕ)
    → IsTimedPacket (word order block 8) section order block origin link packet → ⊥)
    → (content : Content) → Says section order block content → ⊥
no_enhanced section order block kind none (Opens first) says = grind arith
no_enhanced section order block kind none (OpensOther major minor) says = grind arith
no_enhanced section order block kind none (Describes link_type snap_len clock) says = grind arith
no_enhanced section order block kind none (Holds origin link packet) (inl says) =
    none origin link packet says.1
no_enhanced section order block kind none (Holds origin link packet) (inr (inl says)) = grind arith
no_enhanced section order block kind none (Holds origin link packet) (inr (inr says)) = grind arith
no_enhanced section order block kind none Nothing says = says.2 kind

pub no_obsolete : (section : Section) (order : ByteOrder) (block : List ℕ)
    → word order block 0 ≡ obsolete_packet
    → ((origin : Origin) (link : Link) (packet : List ℕ)
    → IsTimedPacket (half order block 8) section order block origin link packet → ⊥)
    → (content : Content) → Says section order block content → ⊥
no_obsolete section order block kind none (Opens first) says = grind arith
no_obsolete section order block kind none (OpensOther major minor) says = grind arith
no_obsolete section order block kind none (Describes link_type snap_len clock) says = grind arith
no_obsolete section order block kind none (Holds origin link packet) (inl says) = grind arith
no_obsolete section order block kind none (Holds origin link packet) (inr (inl says)) =
    none origin link packet says.1
no_obsolete section order block kind none (Holds origin link packet) (inr (inr says)) = grind arith
no_obsolete section order block kind none Nothing says = says.3 kind

pub no_simple : (section : Section) (order : ByteOrder) (block : List ℕ)
    → word order block 0 ≡ simple_packet
    → ((origin : Origin) (link : Link) (packet : List ℕ)
    → IsSimplePacket section order block origin link packet → ⊥)
    → (content : Content) → Says section order block content → ⊥
no_simple section order block kind none (Opens first) says = grind arith
no_simple section order block kind none (OpensOther major minor) says = grind arith
no_simple section order block kind none (Describes link_type snap_len clock) says = grind arith
no_simple section order block kind none (Holds origin link packet) (inl says) = grind arith
no_simple section order block kind none (Holds origin link packet) (inr (inl says)) = grind arith
no_simple section order block kind none (Holds origin link packet) (inr (inr says)) =
    none origin link packet says
no_simple section order block kind none Nothing says = says.4 kind

-- a number in the prefix
pub word_prefix : (order : ByteOrder) (prefix rest : List ℕ) (p : ℕ) → p + 4 ≤ length prefix
    → word order (prefix ++ rest) p ≡ word order prefix p
word_prefix order prefix rest p fits = grind (arith, get_or_append_left)

-- a record's origin is read from its head
pub origin_prefix : (order : ByteOrder) (time_unit : TimeUnit) (link : Link) (head packet : List ℕ)
    → 16 ≤ length head
    → record_origin order time_unit link head ≡ record_origin order time_unit link (head ++ packet)
origin_prefix order time_unit link head packet long = grind (arith, word_prefix)

pub word_of : (order : ByteOrder) (bytes prefix rest : List ℕ) (p : ℕ) → bytes ≡ prefix ++ rest
    → p + 4 ≤ length prefix → word order bytes p ≡ word order prefix p
word_of order bytes prefix rest p parts fits = grind (arith, word_prefix)

order_of : (order order' : ByteOrder) (bytes prefix rest : List ℕ) → bytes ≡ prefix ++ rest
    → 12 ≤ length prefix → HasOrder order bytes order' → HasOrder order prefix order'
order_of order order' bytes prefix rest parts size (inl h) =
    inl (rw (word_of Big bytes prefix rest 0 parts (omega arith)) at h.0, h.1)
order_of order order' bytes prefix rest parts size (inr h) =
    inr (
      rw (word_of Big bytes prefix rest 0 parts (omega arith)) at h.0,
      rw
          (word_of order' bytes prefix rest 8 parts (omega arith)) at h.1,
    )

-- a number after the prefix
byte_back : (prefix rest : List ℕ) (i : ℕ)
    → slice_index (prefix ++ rest) (length prefix + i) ≡ slice_index rest i
byte_back prefix rest i = get_or-append-add prefix rest i 0

first_back : (prefix rest : List ℕ) → slice_index (prefix ++ rest) (length prefix) ≡ slice_index rest 0
first_back prefix rest = grind (arith, byte_back)

pub word_back : (order : ByteOrder) (prefix rest : List ℕ)
    → word order (prefix ++ rest) (length prefix) ≡ word order rest 0
word_back order prefix rest = grind (arith, first_back, byte_back)

-- what the prefix shows holds of more bytes
skipped_same : (order : ByteOrder) (bytes bytes' : List ℕ) → word Big bytes 0 ≡ word Big bytes' 0
    → word order bytes 0 ≡ word order bytes' 0 → IsSkipped order bytes → IsSkipped order bytes'
skipped_same order bytes bytes' big own s = grind arith

pub skipped_prefix : (order : ByteOrder) (bytes prefix rest : List ℕ) → bytes ≡ prefix ++ rest
    → 4 ≤ length prefix → IsSkipped order prefix → IsSkipped order bytes
skipped_prefix order bytes prefix rest parts size =
    skipped_same order prefix bytes (sym (word_of Big bytes prefix rest 0 parts size))
    (sym (word_of order bytes prefix rest 0 parts size))

pub skipped_of : (order : ByteOrder) (bytes prefix rest : List ℕ) → bytes ≡ prefix ++ rest
    → 4 ≤ length prefix → IsSkipped order bytes → IsSkipped order prefix
skipped_of order bytes prefix rest parts size =
    skipped_same order bytes prefix (word_of Big bytes prefix rest 0 parts size)
    (word_of order bytes prefix rest 0 parts size)

pub taken_of : (order : ByteOrder) (bytes block rest : List ℕ) (len : ℕ) → bytes ≡ block ++ rest
    → 4 ≤ length block → length block ≡ len → IsTaken order bytes len
    → IsTaken order block (length block)
taken_of order bytes block rest len parts size whole h = grind (arith, skipped_of)

-- a whole block at the start of bytes
pub whole_block : (order order' : ByteOrder) (bytes block rest : List ℕ) → bytes ≡ block ++ rest
    → 12 ≤ length block → length block % 4 ≡ 0 → length block ≡ word order' bytes 4
    → word order' block (length block - 4) ≡ length block → HasOrder order bytes order'
    → IsTaken order' bytes (word order' bytes 4)
    → HasOrder order block order' × IsBlock order' block × IsTaken order' block (length block)
whole_block order order' bytes block rest parts size words whole back has_order taken = (
  order_of order order' bytes block rest parts size has_order,
  grind (arith, word_of),
  taken_of order' bytes block rest (word order' bytes 4) parts (omega arith) whole taken,
)

pub refused_at : (section : Section) (order : ByteOrder) (bytes block rest : List ℕ)
    (error : CaptureError) → bytes ≡ block ++ rest → IsTaken order block (length block)
    → HasOrder section.order block order → IsBlock order block
    → 12 ≤ length bytes → RefusesBlock section order block error → RefusesAt section bytes error
refused_at section order bytes block rest error parts fits has_order is_block size refused =
    grind arith

-- a section after one more interface is described
pub described : (section : Section) (clock : Clock) (n snap described_snap : ℕ)
    (links : List Link) {clocks : List Clock} → n ≡ section.interfaces + 1
    → snap ≡ (if section.interfaces == 0 then described_snap else section.snap_len)
    → clocks ≡ clocks_with section clock
    → record section { interfaces = n; snap_len = snap; links = links; clocks = clocks }
    ≡ record section {
      interfaces = section.interfaces + 1;
      snap_len = (if section.interfaces == 0 then described_snap else section.snap_len);
      links = links;
      clocks = clocks_with section clock;
    }
described section clock n snap described_snap links number size all = grind arith
