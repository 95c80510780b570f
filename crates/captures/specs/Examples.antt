-- Example captures, byte by byte, and the packets in them.
use Rattle.std.specs.Prelude.{ℕ, List, [], ◌∷◌, replicate, slice_set, Some}
use Rattle.captures.specs.CapturedFrames.{CapturedFrame}
use Rattle.captures.specs.Lines.{Packet}
use Rattle.captures.specs.Skipping.{passing_from}
use Rattle.captures.specs.Times.{usual_clock}
use Rattle.captures.specs.declared.byte_order.ByteOrder.TheVariants.{Big, Little}
use Rattle.captures.specs.declared.link.kind.Link.TheVariants.{Ethernet, Sll2}
use Rattle.captures.specs.declared.origin.Origin.{Origin}
use Rattle.captures.specs.declared.packet.Packet.{Packet as NumberedPacket}
use Rattle.captures.specs.declared.pcapng.section.Section.{Section}
use Rattle.captures.specs.declared.state.State.{State}
use Rattle.captures.specs.declared.state.State.TheVariants.{Classic}
use Rattle.captures.specs.declared.time.time_unit.TimeUnit.TheVariants.{Nanoseconds}
use Rattle.captures.specs.declared.unfit.Unfit.TheVariants.{Refuse}

-- ---- a classic capture (draft-ietf-opsawg-pcap, sections 4 and 5)

-- high byte first, nanoseconds, version 2.4, a snap length of 262,144, LINUX_SLL2 (276)
abbrev pub file_header : List ℕ
file_header =
    0xa1 ∷ 0xb2 ∷ 0x3c ∷ 0x4d ∷ 0 ∷ 2 ∷ 0 ∷ 4 ∷ 0 ∷ 0 ∷ 0 ∷ 0 ∷ 0 ∷ 0 ∷ 0 ∷ 0 ∷ 0 ∷ 4 ∷ 0 ∷ 0
    ∷ 0 ∷ 0 ∷ 1 ∷ 0x14 ∷ []

-- at 1,700,000,000.25 seconds 21 bytes of 1500: IPv4 on interface 3, sent by us (4) from an address
-- of six bytes, and the first byte of the packet
abbrev pub packet_record : List ℕ
packet_record =
    0x65 ∷ 0x53 ∷ 0xf1 ∷ 0 ∷ 0x0e ∷ 0xe6 ∷ 0xb2 ∷ 0x80 ∷ 0 ∷ 0 ∷ 0 ∷ 0x15 ∷ 0 ∷ 0 ∷ 5 ∷ 0xdc
    ∷ 8 ∷ 0 ∷ 0 ∷ 0 ∷ 0 ∷ 0 ∷ 0 ∷ 3 ∷ 0 ∷ 1 ∷ 4 ∷ 6 ∷ 2 ∷ 0 ∷ 0 ∷ 0 ∷ 0 ∷ 1 ∷ 0 ∷ 0 ∷ 0x45 ∷ []

-- no byte was captured of a packet of 1500, half a second earlier
abbrev pub empty_record : List ℕ
empty_record =
    0x65 ∷ 0x53 ∷ 0xf0 ∷ 0xff ∷ 0x2c ∷ 0xb4 ∷ 0x17 ∷ 0x80 ∷ 0 ∷ 0 ∷ 0 ∷ 0 ∷ 0 ∷ 0 ∷ 5 ∷ 0xdc ∷ []

-- the state of a capture after that header and so many packets
abbrev pub file_after : (packets : ℕ) → State
file_after packets =
    Classic Big Nanoseconds Sll2 (record (passing_from Refuse) { seen = packets })

-- ---- a pcapng file (draft-ietf-opsawg-pcapng)

-- low byte first, version 1.0, a section length that isn't stated
abbrev pub section_block : List ℕ
section_block =
    0x0a ∷ 0x0d ∷ 0x0d ∷ 0x0a ∷ 0x1c ∷ 0 ∷ 0 ∷ 0 ∷ 0x4d ∷ 0x3c ∷ 0x2b ∷ 0x1a ∷ 1 ∷ 0 ∷ 0 ∷ 0
    ∷ 0xff ∷ 0xff ∷ 0xff ∷ 0xff ∷ 0xff ∷ 0xff ∷ 0xff ∷ 0xff ∷ 0x1c ∷ 0 ∷ 0 ∷ 0 ∷ []

-- LINUX_SLL2 (276), of whose packets 22 bytes are captured at most
abbrev pub interface_block : List ℕ
interface_block =
    1 ∷ 0 ∷ 0 ∷ 0 ∷ 0x14 ∷ 0 ∷ 0 ∷ 0 ∷ 0x14 ∷ 1 ∷ 0 ∷ 0 ∷ 0x16 ∷ 0 ∷ 0 ∷ 0 ∷ 0x14 ∷ 0 ∷ 0 ∷ 0 ∷ []

-- what is known of the section after both
abbrev pub described_section : Section
described_section = record {
  order = Little;
  first = 0;
  interfaces = 1;
  snap_len = 22;
  links = slice_set (replicate 32 Ethernet) 0 Sll2;
  clocks = slice_set (replicate 33 usual_clock) 0 usual_clock;
  passing = passing_from Refuse;
}

-- the same packet as above, of 21 bytes, padded to whole words
abbrev pub simple_block : List ℕ
simple_block =
    3 ∷ 0 ∷ 0 ∷ 0 ∷ 0x28 ∷ 0 ∷ 0 ∷ 0 ∷ 0x15 ∷ 0 ∷ 0 ∷ 0 ∷ 8 ∷ 0 ∷ 0 ∷ 0 ∷ 0 ∷ 0 ∷ 0 ∷ 3 ∷ 0 ∷ 1
    ∷ 4 ∷ 6 ∷ 2 ∷ 0 ∷ 0 ∷ 0 ∷ 0 ∷ 1 ∷ 0 ∷ 0 ∷ 0x45 ∷ 0 ∷ 0 ∷ 0 ∷ 0x28 ∷ 0 ∷ 0 ∷ 0 ∷ []

-- 22 bytes of 1500
abbrev pub cut_simple_block : List ℕ
cut_simple_block =
    3 ∷ 0 ∷ 0 ∷ 0 ∷ 0x28 ∷ 0 ∷ 0 ∷ 0 ∷ 0xdc ∷ 5 ∷ 0 ∷ 0 ∷ 8 ∷ 0 ∷ 0 ∷ 0 ∷ 0 ∷ 0 ∷ 0 ∷ 3 ∷ 0 ∷ 1
    ∷ 4 ∷ 6 ∷ 2 ∷ 0 ∷ 0 ∷ 0 ∷ 0 ∷ 1 ∷ 0 ∷ 0 ∷ 0x45 ∷ 0x17 ∷ 0 ∷ 0 ∷ 0x28 ∷ 0 ∷ 0 ∷ 0 ∷ []

-- the same packet and time as above
abbrev pub enhanced_block : List ℕ
enhanced_block =
    6 ∷ 0 ∷ 0 ∷ 0 ∷ 0x38 ∷ 0 ∷ 0 ∷ 0 ∷ 0 ∷ 0 ∷ 0 ∷ 0 ∷ 0x24 ∷ 0x0a ∷ 6 ∷ 0 ∷ 0x90 ∷ 0x10 ∷ 0x22
    ∷ 0x18 ∷ 0x15 ∷ 0 ∷ 0 ∷ 0 ∷ 0xdc ∷ 5 ∷ 0 ∷ 0 ∷ 8 ∷ 0 ∷ 0 ∷ 0 ∷ 0 ∷ 0 ∷ 0 ∷ 3 ∷ 0 ∷ 1 ∷ 4
    ∷ 6 ∷ 2 ∷ 0 ∷ 0 ∷ 0 ∷ 0 ∷ 1 ∷ 0 ∷ 0 ∷ 0x45 ∷ 0 ∷ 0 ∷ 0 ∷ 0x38 ∷ 0 ∷ 0 ∷ 0 ∷ []

-- the same as a packet of the older kind, after five that were dropped
abbrev pub obsolete_block : List ℕ
obsolete_block =
    2 ∷ 0 ∷ 0 ∷ 0 ∷ 0x38 ∷ 0 ∷ 0 ∷ 0 ∷ 0 ∷ 0 ∷ 5 ∷ 0 ∷ 0x24 ∷ 0x0a ∷ 6 ∷ 0 ∷ 0x90 ∷ 0x10 ∷ 0x22
    ∷ 0x18 ∷ 0x15 ∷ 0 ∷ 0 ∷ 0 ∷ 0xdc ∷ 5 ∷ 0 ∷ 0 ∷ 8 ∷ 0 ∷ 0 ∷ 0 ∷ 0 ∷ 0 ∷ 0 ∷ 3 ∷ 0 ∷ 1 ∷ 4
    ∷ 6 ∷ 2 ∷ 0 ∷ 0 ∷ 0 ∷ 0 ∷ 1 ∷ 0 ∷ 0 ∷ 0x45 ∷ 0 ∷ 0 ∷ 0 ∷ 0x38 ∷ 0 ∷ 0 ∷ 0 ∷ []

-- an interface of IEEE802_11 (105), of whose packets all bytes are captured
abbrev pub other_interface : List ℕ
other_interface =
    1 ∷ 0 ∷ 0 ∷ 0 ∷ 0x14 ∷ 0 ∷ 0 ∷ 0 ∷ 0x69 ∷ 0 ∷ 0 ∷ 0 ∷ 0 ∷ 0 ∷ 0 ∷ 0 ∷ 0x14 ∷ 0 ∷ 0 ∷ 0 ∷ []

-- four bytes on the second interface
abbrev pub other_block : List ℕ
other_block =
    6 ∷ 0 ∷ 0 ∷ 0 ∷ 0x24 ∷ 0 ∷ 0 ∷ 0 ∷ 1 ∷ 0 ∷ 0 ∷ 0 ∷ 0x24 ∷ 0x0a ∷ 6 ∷ 0 ∷ 0x90 ∷ 0x10 ∷ 0x22
    ∷ 0x18 ∷ 4 ∷ 0 ∷ 0 ∷ 0 ∷ 4 ∷ 0 ∷ 0 ∷ 0 ∷ 8 ∷ 0 ∷ 0 ∷ 0 ∷ 0x24 ∷ 0 ∷ 0 ∷ 0 ∷ []

-- no byte of a packet of 1500, on the first interface
abbrev pub empty_block : List ℕ
empty_block =
    6 ∷ 0 ∷ 0 ∷ 0 ∷ 0x20 ∷ 0 ∷ 0 ∷ 0 ∷ 0 ∷ 0 ∷ 0 ∷ 0 ∷ 0x24 ∷ 0x0a ∷ 6 ∷ 0 ∷ 0x90 ∷ 0x10 ∷ 0x22
    ∷ 0x18 ∷ 0 ∷ 0 ∷ 0 ∷ 0 ∷ 0xdc ∷ 5 ∷ 0 ∷ 0 ∷ 0x20 ∷ 0 ∷ 0 ∷ 0 ∷ []

-- ---- what is in them

-- the packet as it was captured
abbrev pub cooked_packet : List ℕ
cooked_packet = 8 ∷ 0 ∷ 0 ∷ 0 ∷ 0 ∷ 0 ∷ 0 ∷ 3 ∷ 0 ∷ 1 ∷ 4 ∷ 6 ∷ 2 ∷ 0 ∷ 0 ∷ 0 ∷ 0 ∷ 1 ∷ 0 ∷ 0 ∷ 0x45 ∷ []

-- when, and of how many bytes on the wire its frame is: 14 in the place of 20 before it
abbrev pub origin_at : (time wire_len : ℕ) → Origin
origin_at time wire_len = record { channel = 0; time = time; wire_len = wire_len }

-- as a frame: no destination, the sender's address, the ether type, and the packet's bytes

abbrev pub packet_at : (time wire_len : ℕ) → Packet
packet_at time wire_len = record {
  origin = origin_at time wire_len;
  frame = 0 ∷ 0 ∷ 0 ∷ 0 ∷ 0 ∷ 0 ∷ 2 ∷ 0 ∷ 0 ∷ 0 ∷ 0 ∷ 1 ∷ 8 ∷ 0 ∷ 0x45 ∷ [];
}

-- the same packet with its number in a capture, the link and the parts of its frame
abbrev pub numbered : (number : ℕ) → NumberedPacket
numbered number = record {
  number = number;
  interface = 0;
  time = 1700000000250000000;
  link = Sll2;
  wire_len = 1500;
  frame = record {
    header = Some (record { source = 2 ∷ 0 ∷ 0 ∷ 0 ∷ 0 ∷ 1 ∷ []; ether_type = 0x0800 });
    bytes = 0x45 ∷ [];
  };
}

-- the frame of two bytes that lines give
abbrev pub given_at : (seconds nanoseconds wire_len : ℕ) → CapturedFrame
given_at seconds nanoseconds wire_len = record {
  seconds = seconds;
  nanoseconds = nanoseconds;
  wire_len = wire_len;
  frame = 0x0a ∷ 0xff ∷ [];
}

abbrev pub longer_packet : Packet
longer_packet = record {
  origin = origin_at 0 1494;
  frame = 0 ∷ 0 ∷ 0 ∷ 0 ∷ 0 ∷ 0 ∷ 2 ∷ 0 ∷ 0 ∷ 0 ∷ 0 ∷ 1 ∷ 8 ∷ 0 ∷ 0x45 ∷ 0x17 ∷ [];
}
