-- Classic capture files (draft-ietf-opsawg-pcap, sections 4 and 5): a file header of 24 bytes, and
-- packet records in a row. Numbers are in the byte order of the host that wrote the file.
use Rattle.std.specs.Prelude.{◌≡◌, ℕ, ◌%◌, ◌==◌, ◌||◌, Bool, IsTrue, List, ◌++◌, length}
use Rattle.captures.specs.Numbers.{half, word}
use Rattle.captures.specs.declared.byte_order.ByteOrder.{ByteOrder}

-- the first number of a file, whose times are in microseconds or in nanoseconds
abbrev pub is_magic : ℕ → Bool
is_magic n = (n == 0xa1b2c3d4) || (n == 0xa1b23c4d)

-- a file header: magic number, version 2.4, two numbers that are not used, snap length, link type
pub record IsFileHeader (order : ByteOrder) (header : List ℕ) : Type 0 where
  pub size : length header ≡ 24
  pub magic : IsTrue (is_magic (word order header 0))
  pub major : half order header 4 ≡ 2
  pub minor : half order header 6 ≡ 4

-- the lower 16 bits of the last number; above them a file may state the length of frame check
-- sequences
abbrev pub link_type : ByteOrder → List ℕ → ℕ
link_type order header = word order header 20 % 65536

-- the Captured Packet Length of a packet record: the number of the packet's bytes that follow
abbrev pub record_captured_len : ByteOrder → List ℕ → ℕ
record_captured_len order bytes = word order bytes 8

-- a packet record: a head of 16 bytes (the time, the number of bytes that follow, and the packet's
-- length on the wire), and these bytes
pub record IsPacketRecord (order : ByteOrder) (bytes frame : List ℕ) : Type 0 where
  pub head : List ℕ
  pub parts : bytes ≡ head ++ frame
  pub size : length head ≡ 16
  pub captured : record_captured_len order head ≡ length frame

-- the Original Packet Length of a packet record: the number of the packet's bytes on the wire
abbrev pub record_wire_len : ByteOrder → List ℕ → ℕ
record_wire_len order bytes = word order bytes 12
