-- A capture as units in a row: a file header and packet records, or blocks.
use Rattle.std.specs.Prelude.{◌≡◌, ◌≢◌, ◌⊎◌, ℕ, ◌-◌, ◌%◌, ◌<◌, ◌≤◌, List, [], ◌∷◌, ◌++◌, length, Option, Some, None}
use Rattle.std.specs.Prelude.{replicate}
use Rattle.captures.specs.Framed.{FrameParts, frame_bytes, frame_parts, link_of, refused_type, reported_frame}
use Rattle.captures.specs.Framed.{taken_limit, wire_len_on}
use Rattle.captures.specs.declared.unfit.Unfit.{Unfit}
use Rattle.captures.specs.Numbers.{word}
use Rattle.captures.specs.Lines.{Packet, packets_of, lines_from, noted_all}
use Rattle.captures.specs.Pcap.{IsFileHeader, IsPacketRecord, link_type, record_captured_len, record_wire_len}
use Rattle.captures.specs.Skipping.{counted, none_skipped, passing_from}
use Rattle.captures.specs.declared.byte_order.ByteOrder.{ByteOrder}
use Rattle.captures.specs.declared.byte_order.ByteOrder.TheVariants.{Big}
use Rattle.captures.specs.declared.capture_error.CaptureError.{CaptureError}
use Rattle.captures.specs.declared.capture_error.CaptureError.TheVariants.{NotCapture, LinkType, FrameTooLong, CutOff}
use Rattle.captures.specs.declared.capture_error.CaptureError.TheVariants.{BlockTooLong, BadBlock, InterfaceLimit, NoFrame, Version}
use Rattle.captures.specs.declared.limits.TheConstants.{FIRST_UNIT_LEN}
use Rattle.captures.specs.declared.link.kind.Link.{Link}
use Rattle.captures.specs.declared.link.kind.Link.TheVariants.{Ethernet}
use Rattle.captures.specs.declared.skipped.Passing.{Passing}
use Rattle.captures.specs.declared.skipped.Skipped.{Skipped}
use Rattle.captures.specs.declared.state.State.{State}
use Rattle.captures.specs.declared.pcapng.section.Section.{Section}
use Rattle.captures.specs.declared.pcapng.section.TheConstants.{CLOCK_COUNT, LINKED_INTERFACES}
use Rattle.captures.specs.declared.origin.Origin.{Origin}
use Rattle.captures.specs.declared.text.ledger.Ledger.{Ledger}
use Rattle.captures.specs.declared.time.time_unit.TimeUnit.{TimeUnit}
use Rattle.captures.specs.Times.{record_time, unit_of, usual_clock}
use Rattle.captures.specs.declared.state.State.TheVariants.{Start, Classic, Pcapng}
use Rattle.captures.specs.Pcapng.{HasOrder, IsBlock, IsTaken, Reads, RefusesBlock, section_header, Says}
use Rattle.captures.specs.Pcapng.{block_wire_len, byte_order_magic}
use Rattle.captures.specs.Pcapng.Content.{Holds}

-- a file header, after which packet records follow
pub record OpensFile (unfit : Unfit) (unit : List ℕ) (after : State) : Type 0 where
  pub order : ByteOrder
  pub header : IsFileHeader order unit
  pub next : after ≡ Classic order (unit_of (word order unit 0)) (link_of (link_type order unit))
      (passing_from unfit)

-- before the first block of a pcapng file no interface is described, and the byte order has no
-- effect
abbrev pub no_section : Unfit → Section
no_section unfit =
    record {
      order = Big;
      first = 0;
      interfaces = 0;
      snap_len = 0;
      links = replicate LINKED_INTERFACES Ethernet;
      clocks = replicate CLOCK_COUNT usual_clock;
      passing = passing_from unfit;
    }

-- a block of a section, whole and of a length that is taken, after which this is the section
pub record IsBlockUnit (section : Section) (unit : List ℕ) (after : State) (origin : Origin)
    (frame : List ℕ) : Type 0 where
  pub order : ByteOrder
  pub has_order : HasOrder section.order unit order
  pub block : IsBlock order unit
  pub fits : IsTaken order unit (length unit)
  pub next : Section
  pub reads : Reads section order unit next origin frame
  pub becomes : after ≡ Pcapng next

-- a classic capture has one interface. A record begins with the time
abbrev pub record_origin : ByteOrder → TimeUnit → Link → List ℕ → Origin
record_origin order time_unit link unit = record {
  channel = 0;
  time = record_time time_unit (word order unit 0) (word order unit 4);
  wire_len = wire_len_on link (record_captured_len order unit) (record_wire_len order unit);
}

-- a packet record of such a link, of a packet that is reported or passed over
pub record IsRecordUnit (order : ByteOrder) (time_unit : TimeUnit) (link : Link) (passing : Passing)
    (unit : List ℕ) (after : State) (frame : List ℕ) : Type 0 where
  pub packet : List ℕ
  pub is_record : IsPacketRecord order unit packet
  pub read : refused_type passing.unfit link ≡ None
  pub fits : length packet ≤ taken_limit passing.unfit link
  pub is_reported : reported_frame passing.unfit link packet ≡ Some frame
  pub next : after ≡ Classic order time_unit link (counted passing link packet)

-- bytes that are one unit of a capture, where this is its state: the state after it, and the frame
-- of the packet in it, which is empty where none is reported
abbrev pub IsUnit : State → List ℕ → State → Origin → List ℕ → Type 0
IsUnit (Start unfit) unit after origin frame =
    (OpensFile unfit unit after × (frame ≡ []))
    ⊎ ((word Big unit 0 ≡ section_header) × IsBlockUnit (no_section unfit) unit after origin frame)
IsUnit (Classic order time_unit link passing) unit after origin frame =
    IsRecordUnit order time_unit link passing unit after frame
    × (origin ≡ record_origin order time_unit link unit)
IsUnit (Pcapng section) unit after origin frame = IsBlockUnit section unit after origin frame

-- the packets that were passed over by then
abbrev pub skipped_in : State → Skipped
skipped_in (Start unfit) = none_skipped
skipped_in (Classic order time_unit link passing) = passing.skipped
skipped_in (Pcapng section) = section.passing.skipped

-- how many packets came by then: each packet record, or block that holds a packet, is one
abbrev pub seen_in : State → ℕ
seen_in (Start unfit) = 0
seen_in (Classic order time_unit link passing) = passing.seen
seen_in (Pcapng section) = section.passing.seen

-- units in a row, and all packets that are reported of them
abbrev pub Row : State → List (List ℕ) → List Packet → State → Type 0
Row state [] packets after = (packets ≡ []) × (after ≡ state)
Row state (unit ∷ units) packets after =
    (mid : State) × (origin : Origin) × (frame : List ℕ) × (later : List Packet)
    × IsUnit state unit mid origin frame × Row mid units later after
    × (packets ≡ packets_of origin frame ++ later)

-- some byte lists as one
abbrev pub in_a_row : List (List ℕ) → List ℕ
in_a_row [] = []
in_a_row (unit ∷ units) = unit ++ in_a_row units

-- bytes begin with units in a row that hold these packets, and a rest follows them
pub record Passes (state : State) (bytes : List ℕ) (packets : List Packet) (after : State)
    (rest : List ℕ) : Type 0 where
  pub units : List (List ℕ)
  pub row : Row state units packets after
  pub parts : bytes ≡ in_a_row units ++ rest

-- the head of a packet record that is taken, with fewer bytes after it than it states
pub record IsShortRecord (order : ByteOrder) (link : Link) (unfit : Unfit)
    (bytes : List ℕ) : Type 0 where
  pub head : List ℕ
  pub body : List ℕ
  pub parts : bytes ≡ head ++ body
  pub size : length head ≡ 16
  pub short : length body < word order head 8
  pub read : refused_type unfit link ≡ None
  pub fits : word order head 8 ≤ taken_limit unfit link

-- the start of a block of a length that is taken, with fewer bytes than it states
pub record IsShortBlock (section : Section) (bytes : List ℕ) : Type 0 where
  pub order : ByteOrder
  pub has_order : HasOrder section.order bytes order
  pub size : 12 ≤ length bytes
  pub words : word order bytes 4 % 4 ≡ 0
  pub short : length bytes < word order bytes 4
  pub fits : IsTaken order bytes (word order bytes 4)

-- a whole block of a length that is taken, which ends with another length
pub record HasOtherBack (order : ByteOrder) (bytes : List ℕ) : Type 0 where
  pub block : List ℕ
  pub rest : List ℕ
  pub parts : bytes ≡ block ++ rest
  pub size : length block ≡ word order bytes 4
  pub fits : IsTaken order block (length block)
  pub other : word order block (length block - 4) ≢ length block

-- bytes that may become a unit and are too few for one
abbrev pub IsIncomplete : State → List ℕ → Type 0
IsIncomplete (Start unfit) bytes = (length bytes < FIRST_UNIT_LEN)
    ⊎ ((word Big bytes 0 ≡ section_header) × IsShortBlock (no_section unfit) bytes)
IsIncomplete (Classic order time_unit link passing) bytes =
    (length bytes < 16) ⊎ IsShortRecord order link passing.unfit bytes
IsIncomplete (Pcapng section) bytes = (length bytes < 12) ⊎ IsShortBlock section bytes

-- the bytes begin with the kind and the byte order magic of a section header
abbrev pub BeginsSection : List ℕ → Type 0
BeginsSection bytes = (word Big bytes 0 ≡ section_header)
    × ((order : ByteOrder) × (word order bytes 8 ≡ byte_order_magic))

-- no prefix of the bytes is a file header, and they don't begin a section
abbrev pub IsNoCapture : List ℕ → Type 0
IsNoCapture bytes =
    ((order : ByteOrder) (header rest : List ℕ) → bytes ≡ header ++ rest
    → IsFileHeader order header → ⊥)
    × (FIRST_UNIT_LEN ≤ length bytes → BeginsSection bytes → ⊥)

-- a block whose length is less than any block has, has no whole words, or is another one at its end
pub record HasBadLength (section : Section) (bytes : List ℕ) : Type 0 where
  pub order : ByteOrder
  pub has_order : HasOrder section.order bytes order
  pub bad : (word order bytes 4 < 12) ⊎ ((word order bytes 4 % 4 ≢ 0) ⊎ HasOtherBack order bytes)

-- the bytes begin with a whole block of a length that is taken, and that is refused for what it
-- says
pub record HasRefusedBlock (section : Section) (bytes : List ℕ)
    (error : CaptureError) : Type 0 where
  pub order : ByteOrder
  pub block : List ℕ
  pub rest : List ℕ
  pub parts : bytes ≡ block ++ rest
  pub fits : IsTaken order block (length block)
  pub has_order : HasOrder section.order block order
  pub is_block : IsBlock order block
  pub refused : RefusesBlock section order block error

-- the bytes begin with a block of this many bytes, whole words and more than a run takes of such a
-- block
pub record HasLongBlock (section : Section) (bytes : List ℕ) (len : ℕ) : Type 0 where
  pub order : ByteOrder
  pub has_order : HasOrder section.order bytes order
  pub reported : word order bytes 4 ≡ len
  pub words : len % 4 ≡ 0
  pub long : IsTaken order bytes len → ⊥

-- why no block can follow in a section, whatever comes after these bytes
abbrev pub RefusesAt : Section → List ℕ → CaptureError → Type 0
RefusesAt section bytes NotCapture = ⊥
RefusesAt section bytes (LinkType number) = HasRefusedBlock section bytes (LinkType number)
RefusesAt section bytes (InterfaceLimit number) =
    HasRefusedBlock section bytes (InterfaceLimit number)
RefusesAt section bytes (FrameTooLong captured) =
    HasRefusedBlock section bytes (FrameTooLong captured)
RefusesAt section bytes NoFrame = HasRefusedBlock section bytes NoFrame
RefusesAt section bytes CutOff = ⊥
RefusesAt section bytes (BlockTooLong len) = (12 ≤ length bytes) × HasLongBlock section bytes len
RefusesAt section bytes (Version major minor) =
    HasRefusedBlock section bytes (Version major minor)
RefusesAt section bytes BadBlock =
    (12 ≤ length bytes)
    × (((order : ByteOrder) → HasOrder section.order bytes order → ⊥)
    ⊎ (HasBadLength section bytes ⊎ HasRefusedBlock section bytes BadBlock))

-- the bytes begin with the head of a packet record, on a link whose packets are refused
pub record HasOtherLink (link : Link) (unfit : Unfit) (bytes : List ℕ) (number : ℕ) : Type 0 where
  pub size : 16 ≤ length bytes
  pub other : refused_type unfit link ≡ Some number

-- the bytes begin with the head of a packet record that states more bytes than are taken
pub record HasLongFrame (order : ByteOrder) (link : Link) (unfit : Unfit) (bytes : List ℕ)
    (captured : ℕ) : Type 0 where
  pub head : List ℕ
  pub rest : List ℕ
  pub parts : bytes ≡ head ++ rest
  pub size : length head ≡ 16
  pub reported : word order head 8 ≡ captured
  pub read : refused_type unfit link ≡ None
  pub long : taken_limit unfit link < captured

-- the bytes begin with a packet record that could be taken, of a packet that has no frame
pub record HasNoFrame (order : ByteOrder) (link : Link) (unfit : Unfit)
    (bytes : List ℕ) : Type 0 where
  pub unit : List ℕ
  pub packet : List ℕ
  pub rest : List ℕ
  pub parts : bytes ≡ unit ++ rest
  pub is_record : IsPacketRecord order unit packet
  pub read : refused_type unfit link ≡ None
  pub fits : length packet ≤ taken_limit unfit link
  pub none : reported_frame unfit link packet ≡ None

-- why no unit is the first, where there are as many bytes as a file header has
abbrev pub RefusesFirst : Unfit → List ℕ → CaptureError → Type 0
RefusesFirst unfit bytes NotCapture = IsNoCapture bytes
RefusesFirst unfit bytes (LinkType number) = BeginsSection bytes
    × RefusesAt (no_section unfit) bytes (LinkType number)
RefusesFirst unfit bytes (InterfaceLimit number) = BeginsSection bytes
    × RefusesAt (no_section unfit) bytes (InterfaceLimit number)
RefusesFirst unfit bytes (FrameTooLong captured) = BeginsSection bytes
    × RefusesAt (no_section unfit) bytes (FrameTooLong captured)
RefusesFirst unfit bytes NoFrame = BeginsSection bytes × RefusesAt (no_section unfit) bytes NoFrame
RefusesFirst unfit bytes CutOff = ⊥
RefusesFirst unfit bytes (BlockTooLong len) = BeginsSection bytes
    × RefusesAt (no_section unfit) bytes (BlockTooLong len)
RefusesFirst unfit bytes (Version major minor) = BeginsSection bytes
    × RefusesAt (no_section unfit) bytes (Version major minor)
RefusesFirst unfit bytes BadBlock = BeginsSection bytes
    × RefusesAt (no_section unfit) bytes BadBlock

-- why no unit can follow, whatever comes after these bytes
abbrev pub Refuses : State → List ℕ → CaptureError → Type 0
Refuses (Start unfit) bytes error = (FIRST_UNIT_LEN ≤ length bytes) × RefusesFirst unfit bytes error
Refuses (Classic order time_unit link passing) bytes NotCapture = ⊥
Refuses (Classic order time_unit link passing) bytes (LinkType number) =
    HasOtherLink link passing.unfit bytes number
Refuses (Classic order time_unit link passing) bytes (InterfaceLimit number) = ⊥
Refuses (Classic order time_unit link passing) bytes (FrameTooLong captured) =
    HasLongFrame order link passing.unfit bytes captured
Refuses (Classic order time_unit link passing) bytes NoFrame = HasNoFrame order link passing.unfit bytes
Refuses (Classic order time_unit link passing) bytes CutOff = ⊥
Refuses (Classic order time_unit link passing) bytes (BlockTooLong len) = ⊥
Refuses (Classic order time_unit link passing) bytes (Version major minor) = ⊥
Refuses (Classic order time_unit link passing) bytes BadBlock = ⊥
Refuses (Pcapng section) bytes error = RefusesAt section bytes error

-- the bytes begin with a unit that holds this packet
pub record HasUnit (state : State) (bytes : List ℕ) (after : State) (origin : Origin)
    (frame rest : List ℕ) : Type 0 where
  pub unit : List ℕ
  pub parts : bytes ≡ unit ++ rest
  pub is_unit : IsUnit state unit after origin frame

-- a block in this byte order holds a packet, captured on such a link, of so many bytes on the wire,
-- whose frame has these parts
pub record IsHeldOn (section : Section) (order : ByteOrder) (block : List ℕ) (origin : Origin)
    (link : Link) (wire_len : ℕ) (frame : FrameParts) : Type 0 where
  pub packet : List ℕ
  pub says : Says section order block (Holds origin link packet)
  pub wire : block_wire_len order block ≡ wire_len
  pub parts : frame_parts link packet ≡ Some frame

abbrev pub IsBlockOn : Section → List ℕ → Origin → Link → ℕ → FrameParts → Type 0
IsBlockOn section block origin link wire_len frame = (order : ByteOrder)
    × HasOrder section.order block order × IsHeldOn section order block origin link wire_len frame

-- a record of a packet on a classic capture's link, of so many bytes on the wire, as a frame in
-- these parts
pub record IsRecordOn (order : ByteOrder) (link : Link) (record' : List ℕ) (wire_len : ℕ)
    (frame : FrameParts) : Type 0 where
  pub packet : List ℕ
  pub is_record : IsPacketRecord order record' packet
  pub wire : record_wire_len order record' ≡ wire_len
  pub parts : frame_parts link packet ≡ Some frame

-- the packet of a unit was captured on such a link, had so many bytes on the wire, and its frame has
-- these parts
abbrev pub IsOn : State → List ℕ → Origin → Link → ℕ → FrameParts → Type 0
IsOn (Start unfit) unit origin link wire_len frame =
    IsBlockOn (no_section unfit) unit origin link wire_len frame
IsOn (Classic order time_unit link' passing) unit origin link wire_len frame = (link' ≡ link)
    × IsRecordOn order link unit wire_len frame
IsOn (Pcapng section) unit origin link wire_len frame =
    IsBlockOn section unit origin link wire_len frame

-- the bytes begin with a unit, and the packet that is reported of it, if one is, was captured on
-- such a link and had so many bytes on the wire
pub record HasPacket (state : State) (bytes : List ℕ) (after : State) (origin : Origin)
    (link : Link) (wire_len : ℕ) (frame : FrameParts) (rest : List ℕ) : Type 0 where
  pub has_unit : HasUnit state bytes after origin (frame_bytes frame) rest
  pub is_on : 0 < length (frame_bytes frame) → IsOn state has_unit.unit origin link wire_len frame

-- these bytes are at this offset
pub record StandsAt (bytes : List ℕ) (at : ℕ) (part : List ℕ) : Type 0 where
  pub before : List ℕ
  pub following : List ℕ
  pub parts : bytes ≡ before ++ (part ++ following)
  pub position : length before ≡ at

-- after all whole units of the bytes: bytes are missing, or this is refused
abbrev pub IsLeft : State → List ℕ → Option CaptureError → Type 0
IsLeft state rest None = IsIncomplete state rest
IsLeft state rest (Some error) = Refuses state rest error

-- all whole units of the bytes are taken, and the lines of their packets are this text. `ledger` is
-- the ledger of lines before them, and `noted` after them
pub record Takes (ledger : Ledger) (state : State) (bytes : List ℕ) (after : State)
    (rest text : List ℕ) (refusal : Option CaptureError) (noted : Ledger) : Type 0 where
  pub packets : List Packet
  pub passes : Passes state bytes packets after rest
  pub reported : text ≡ lines_from ledger packets
  pub left : IsLeft after rest refusal
  pub come : noted ≡ noted_all ledger packets
