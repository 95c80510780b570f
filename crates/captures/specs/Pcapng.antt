-- Pcapng files (draft-ietf-opsawg-pcapng): blocks in a row. Each begins with its kind and its
-- length, ends with its length, and has whole words of 4 bytes. Numbers are in the byte order of
-- the section, which its header states.
use Rattle.std.specs.Prelude.{◌≡◌, ◌≢◌, ◌⊎◌, ℕ, ◌+◌, ◌-◌, ◌%◌, ◌^◌, ◌<◌, ◌≤◌, ◌==◌, ◌&&◌, ◌||◌, min, Bool, true, false}
use Rattle.std.specs.Prelude.{if◌then◌else◌, nat_lt, List, [], length, take, drop, slice_index_or, slice_set, Option}
use Rattle.std.specs.Prelude.{Some, None}
use Rattle.captures.specs.Framed.{link_of, refused_type, reported_frame, taken_limit, wire_len_on}
use Rattle.captures.specs.Numbers.{half, word}
use Rattle.captures.specs.Skipping.{counted}
use Rattle.captures.specs.Times.{clock_of, clock_time, usual_clock}
use Rattle.captures.specs.declared.origin.Origin.{Origin}
use Rattle.captures.specs.declared.time.clock.Clock.{Clock}
use Rattle.captures.specs.declared.byte_order.ByteOrder.{ByteOrder}
use Rattle.captures.specs.declared.byte_order.ByteOrder.TheVariants.{Big}
use Rattle.captures.specs.declared.capture_error.CaptureError.{CaptureError}
use Rattle.captures.specs.declared.capture_error.CaptureError.TheVariants.{NotCapture, LinkType, FrameTooLong, CutOff}
use Rattle.captures.specs.declared.capture_error.CaptureError.TheVariants.{BlockTooLong, BadBlock, InterfaceLimit, NoFrame, Version}
use Rattle.captures.specs.declared.limits.TheConstants.{BLOCK_LIMIT}
use Rattle.captures.specs.declared.link.kind.Link.{Link}
use Rattle.captures.specs.declared.link.kind.Link.TheVariants.{Ethernet}
use Rattle.captures.specs.declared.pcapng.section.Section.{Section}
use Rattle.captures.specs.declared.pcapng.section.TheConstants.{ETHERNET, LINKED_INTERFACES}

-- the kind of a section header is the same in both byte orders
abbrev pub section_header : ℕ
section_header = 0x0a0d0d0a

abbrev pub interface_description : ℕ
interface_description = 1

-- superseded by the enhanced packet, and written by older programs
abbrev pub obsolete_packet : ℕ
obsolete_packet = 2

abbrev pub simple_packet : ℕ
simple_packet = 3

abbrev pub enhanced_packet : ℕ
enhanced_packet = 6

abbrev pub byte_order_magic : ℕ
byte_order_magic = 0x1a2b3c4d

-- the byte order of the block at the start of the bytes, in a section of this order: a section
-- header states its own
abbrev pub HasOrder : ByteOrder → List ℕ → ByteOrder → Type 0
HasOrder order bytes order' =
    ((word Big bytes 0 ≢ section_header) × (order' ≡ order))
    ⊎ ((word Big bytes 0 ≡ section_header) × (word order' bytes 8 ≡ byte_order_magic))

-- a block, whole
pub record IsBlock (order : ByteOrder) (block : List ℕ) : Type 0 where
  pub size : 12 ≤ length block
  pub words : length block % 4 ≡ 0
  pub prefix : word order block 4 ≡ length block
  pub back : word order block (length block - 4) ≡ length block

-- a section of this version is read: of 1.0, and of 1.2, which some programs write for the same
abbrev pub is_read_version : (major : ℕ) → (minor : ℕ) → Bool
is_read_version major minor = (major == 1) && ((minor == 0) || (minor == 2))

-- what a block says in a section: a section begins, its first interface having this number, or one
-- of a version that isn't read; an interface is described, with its link type, snap length and
-- clock; a packet was captured on an interface of such a link; or nothing that is read here
pub data Content : Type 0 where
  Opens : ℕ → Content
  OpensOther : (major : ℕ) → (minor : ℕ) → Content
  Describes : (link_type : ℕ) → (snap_len : ℕ) → (clock : Clock) → Content
  Holds : (origin : Origin) → (link : Link) → (packet : List ℕ) → Content
  Nothing : Content

-- the bytes of a packet that a simple packet block holds, where this is the snap length of the
-- first interface, 0 for no limit
abbrev pub simple_packet_captured_len : ℕ → ℕ → ℕ
simple_packet_captured_len snap_len original = if snap_len == 0 then original else min snap_len original

-- the link of an interface that is described: Ethernet after the first ones
abbrev pub link_at : Section → ℕ → Link
link_at section interface = slice_index_or section.links interface Ethernet

-- an interface after the first ones
abbrev pub later_links : Section → (link_type : ℕ) → Option (List Link)
later_links section link_type = if link_type == ETHERNET then Some section.links else None

-- the links of the first interfaces, after one more of this link type is described, if it may be
abbrev pub links_with : Section → (link_type : ℕ) → Option (List Link)
links_with section link_type =
    if nat_lt section.interfaces LINKED_INTERFACES
    then Some (slice_set section.links section.interfaces (link_of link_type))
    else later_links section link_type

-- the clocks of the first interfaces, and of those after them that of the last one described
abbrev pub clock_at : Section → ℕ → Clock
clock_at section interface = slice_index_or section.clocks (min interface 32) usual_clock

-- after one more is described
abbrev pub clocks_with : Section → Clock → List Clock
clocks_with section clock = slice_set section.clocks (min section.interfaces 32) clock

-- a packet of this interface of the section, in a block of one of the two kinds that have its time
pub record IsTimedPacket (interface : ℕ) (section : Section) (order : ByteOrder) (block : List ℕ)
    (origin : Origin) (link : Link) (packet : List ℕ) : Type 0 where
  pub size : 32 + length packet ≤ length block
  pub described : interface < section.interfaces
  pub number : section.first + interface ≡ origin.channel
  pub fits : origin.channel < 2 ^ 32
  pub time : clock_time (clock_at section interface) (word order block 12) (word order block 16)
      ≡ origin.time
  pub over : link_at section interface ≡ link
  pub wire : wire_len_on link (length packet) (word order block 24) ≡ origin.wire_len
  pub captured : word order block 20 ≡ length packet
  pub bytes : packet ≡ take (length packet) (drop 28 block)

-- the number of its interface has 32 bits
abbrev pub IsEnhancedPacket : Section → ByteOrder → List ℕ → Origin → Link → List ℕ → Type 0
IsEnhancedPacket section order block origin link packet = (word order block 0 ≡ enhanced_packet)
    × IsTimedPacket (word order block 8) section order block origin link packet

-- it has 16, and a number of dropped packets follows, which is not read
abbrev pub IsObsoletePacket : Section → ByteOrder → List ℕ → Origin → Link → List ℕ → Type 0
IsObsoletePacket section order block origin link packet = (word order block 0 ≡ obsolete_packet)
    × IsTimedPacket (half order block 8) section order block origin link packet

-- it has no time
pub record IsSimplePacket (section : Section) (order : ByteOrder) (block : List ℕ) (origin : Origin)
    (link : Link) (packet : List ℕ) : Type 0 where
  pub kind : word order block 0 ≡ simple_packet
  pub size : 16 + length packet ≤ length block
  pub interface : 0 < section.interfaces
  pub number : section.first ≡ origin.channel
  pub time : 0 ≡ origin.time
  pub over : link_at section 0 ≡ link
  pub wire : wire_len_on link (length packet) (word order block 8) ≡ origin.wire_len
  pub captured : simple_packet_captured_len section.snap_len (word order block 8) ≡ length packet
  pub bytes : packet ≡ take (length packet) (drop 12 block)

-- a block of a kind that holds a packet
abbrev pub HoldsPacket : ByteOrder → List ℕ → Type 0
HoldsPacket order block = (word order block 0 ≡ enhanced_packet)
    ⊎ ((word order block 0 ≡ obsolete_packet) ⊎ (word order block 0 ≡ simple_packet))

-- the Original Packet Length of a block that holds a packet: the number of the packet's bytes on the
-- wire
abbrev pub block_wire_len : ByteOrder → List ℕ → ℕ
block_wire_len order block =
    if word order block 0 == simple_packet then word order block 8 else word order block 24

-- a block of another kind
abbrev pub IsOther : ByteOrder → List ℕ → Type 0
IsOther order block =
    (word order block 0 ≢ section_header) × (word order block 0 ≢ interface_description)
    × (word order block 0 ≢ enhanced_packet) × (word order block 0 ≢ obsolete_packet)
    × (word order block 0 ≢ simple_packet)

-- a block that is skipped: another one than those that are read here, and a section header is one
-- in either byte order
abbrev pub IsSkipped : ByteOrder → List ℕ → Type 0
IsSkipped order block = (word Big block 0 ≢ section_header) × IsOther order block

-- a run takes a block of this length: one that is skipped may have any, and those that are read
-- have `BLOCK_LIMIT` bytes at most
abbrev pub IsTaken : ByteOrder → List ℕ → ℕ → Type 0
IsTaken order block len = (len ≤ BLOCK_LIMIT) ⊎ IsSkipped order block

abbrev pub Says : Section → ByteOrder → List ℕ → Content → Type 0
Says section order block (Opens first) =
    (word order block 0 ≡ section_header) × (28 ≤ length block)
    × (is_read_version (half order block 12) (half order block 14) ≡ true)
    × (section.first + section.interfaces ≡ first) × (first < 2 ^ 32)
Says section order block (OpensOther major minor) =
    (word order block 0 ≡ section_header) × (28 ≤ length block)
    × (is_read_version (half order block 12) (half order block 14) ≡ false)
    × (half order block 12 ≡ major) × (half order block 14 ≡ minor)
Says section order block (Describes link_type snap_len clock) =
    (word order block 0 ≡ interface_description) × (20 ≤ length block)
    × (half order block 8 ≡ link_type)
    × (word order block 12 ≡ snap_len)
    × (clock_of order (take (length block - 20) (drop 16 block)) ≡ clock)
    × (section.interfaces + 1 < 2 ^ 32)
Says section order block (Holds origin link packet) =
    IsEnhancedPacket section order block origin link packet
    ⊎ (IsObsoletePacket section order block origin link packet
    ⊎ IsSimplePacket section order block origin link packet)
Says section order block Nothing = IsOther order block

-- the section, and the bytes that are reported, after a block that says this: the version is read,
-- the interface may have its link, and the packet is taken
abbrev pub Becomes : Section → ByteOrder → Content → Section → Origin → List ℕ → Type 0
Becomes section order (Opens first) after origin frame =
    (after ≡ record {
      order = order;
      first = first;
      interfaces = 0;
      snap_len = 0;
      links = section.links;
      clocks = section.clocks;
      passing = section.passing;
    })
    × (frame ≡ [])
Becomes section order (OpensOther major minor) after origin frame = ⊥
Becomes section order (Describes link_type snap_len clock) after origin frame =
    (links : List Link) × (links_with section link_type ≡ Some links)
    × (after ≡ record section {
      interfaces = section.interfaces + 1;
      snap_len = (if section.interfaces == 0 then snap_len else section.snap_len);
      links = links;
      clocks = clocks_with section clock;
    })
    × (frame ≡ [])
Becomes section order (Holds origin' link packet) after origin frame =
    (after ≡ record section { passing = counted section.passing link packet })
    × (origin ≡ origin') × (reported_frame section.passing.unfit link packet ≡ Some frame)
    × (length packet ≤ taken_limit section.passing.unfit link)
    × (refused_type section.passing.unfit link ≡ None)
Becomes section order Nothing after origin frame = (after ≡ section) × (frame ≡ [])

-- a block that says something, and what comes of it
pub record Reads (section : Section) (order : ByteOrder) (block : List ℕ) (after : Section)
    (origin : Origin) (frame : List ℕ) : Type 0 where
  pub content : Content
  pub says : Says section order block content
  pub becomes : Becomes section order content after origin frame

-- why a whole block is refused
abbrev pub RefusesBlock : Section → ByteOrder → List ℕ → CaptureError → Type 0
RefusesBlock section order block NotCapture = ⊥
RefusesBlock section order block (LinkType number) =
    (origin : Origin) × (link : Link) × (packet : List ℕ)
    × Says section order block (Holds origin link packet)
    × (refused_type section.passing.unfit link ≡ Some number)
RefusesBlock section order block (InterfaceLimit number) = (snap_len : ℕ) × (clock : Clock)
    × Says section order block (Describes number snap_len clock) × (links_with section number ≡ None)
RefusesBlock section order block (FrameTooLong captured) =
    (origin : Origin) × (link : Link) × (packet : List ℕ)
    × Says section order block (Holds origin link packet)
    × (captured ≡ length packet) × (taken_limit section.passing.unfit link < captured)
    × (refused_type section.passing.unfit link ≡ None)
RefusesBlock section order block NoFrame =
    (origin : Origin) × (link : Link) × (packet : List ℕ)
    × Says section order block (Holds origin link packet)
    × (length packet ≤ taken_limit section.passing.unfit link)
    × (reported_frame section.passing.unfit link packet ≡ None)
    × (refused_type section.passing.unfit link ≡ None)
RefusesBlock section order block CutOff = ⊥
RefusesBlock section order block (BlockTooLong len) = ⊥
RefusesBlock section order block (Version major minor) =
    Says section order block (OpensOther major minor)
RefusesBlock section order block BadBlock = (content : Content)
    → Says section order block content → ⊥
