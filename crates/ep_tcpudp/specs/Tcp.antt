-- The TCP header (RFC 9293, section 3.1): its bytes, and each field by its offset in them. The flag
-- ns is that of RFC 3540, ece and cwr those of RFC 3168, section 6.1.
use Rattle.std.specs.Prelude.{◌≡◌, ◌<◌, ◌≤◌, ℕ, ◌+◌, ◌*◌, ◌/◌, ◌%◌, ◌^◌, Bool, false, ◌==◌, List, []}
use Rattle.std.specs.Prelude.{◌∷◌, ◌++◌, length, slice_index, slice_range, slice_set, take, drop}
use Rattle.std.specs.Int.{w16, w32, to_be_bytes, bit_at}
use Rattle.ep_base.specs.Bytes.{num, flag}
use Rattle.ep_base.specs.Prefixes.{IsReadAs}
use Rattle.ep_tcpudp.specs.TcpOptions.{IsTcpOptions}
use Rattle.ep_tcpudp.specs.declared.transport.tcp_header.TcpHeader.{TcpHeader}

abbrev pub source_port_of : List ℕ → ℕ
source_port_of bytes = num bytes 0 2

abbrev pub destination_port_of : List ℕ → ℕ
destination_port_of bytes = num bytes 2 2

abbrev pub sequence_number_of : List ℕ → ℕ
sequence_number_of bytes = num bytes 4 4

abbrev pub acknowledgment_number_of : List ℕ → ℕ
acknowledgment_number_of bytes = num bytes 8 4

-- the header's length in words of 4 bytes
abbrev pub data_offset_of : List ℕ → ℕ
data_offset_of bytes = num bytes 12 1 / 16

-- the flags; between the data offset and ns are three reserved bits
abbrev pub ns_of : List ℕ → Bool
ns_of bytes = bit_at (num bytes 12 1) 0 == 1

abbrev pub cwr_of : List ℕ → Bool
cwr_of bytes = bit_at (num bytes 13 1) 7 == 1

abbrev pub ece_of : List ℕ → Bool
ece_of bytes = bit_at (num bytes 13 1) 6 == 1

abbrev pub urg_of : List ℕ → Bool
urg_of bytes = bit_at (num bytes 13 1) 5 == 1

abbrev pub ack_of : List ℕ → Bool
ack_of bytes = bit_at (num bytes 13 1) 4 == 1

abbrev pub psh_of : List ℕ → Bool
psh_of bytes = bit_at (num bytes 13 1) 3 == 1

abbrev pub rst_of : List ℕ → Bool
rst_of bytes = bit_at (num bytes 13 1) 2 == 1

abbrev pub syn_of : List ℕ → Bool
syn_of bytes = bit_at (num bytes 13 1) 1 == 1

abbrev pub fin_of : List ℕ → Bool
fin_of bytes = bit_at (num bytes 13 1) 0 == 1

abbrev pub window_size_of : List ℕ → ℕ
window_size_of bytes = num bytes 14 2

abbrev pub checksum_of : List ℕ → ℕ
checksum_of bytes = num bytes 16 2

abbrev pub urgent_pointer_of : List ℕ → ℕ
urgent_pointer_of bytes = num bytes 18 2

-- as many bytes as the data offset says, at least 20
pub record IsTcpHeader (bytes : List ℕ) : Type 0 where
  pub minimum : 5 ≤ data_offset_of bytes
  pub whole : length bytes ≡ 4 * data_offset_of bytes

-- the bytes start with a whole header
pub record ReadableTcp (bytes : List ℕ) : Type 0 where
  pub minimum : 5 ≤ data_offset_of bytes
  pub header : 4 * data_offset_of bytes ≤ length bytes

-- the header at the start of a segment, and the payload after it
abbrev pub header_bytes : List ℕ → List ℕ
header_bytes bytes = take (4 * data_offset_of bytes) bytes

abbrev pub payload_of : List ℕ → List ℕ
payload_of bytes = drop (4 * data_offset_of bytes) bytes

-- the options of a segment, after the 20 bytes of the fixed fields
abbrev pub options_of : List ℕ → List ℕ
options_of bytes = slice_range bytes 20 (4 * data_offset_of bytes)

-- the fields that these bytes encode
abbrev pub tcp_header_of : List ℕ → TcpHeader
tcp_header_of bytes = record {
  source_port = source_port_of bytes;
  destination_port = destination_port_of bytes;
  sequence_number = sequence_number_of bytes;
  acknowledgment_number = acknowledgment_number_of bytes;
  ns = ns_of bytes;
  fin = fin_of bytes;
  syn = syn_of bytes;
  rst = rst_of bytes;
  psh = psh_of bytes;
  ack = ack_of bytes;
  urg = urg_of bytes;
  ece = ece_of bytes;
  cwr = cwr_of bytes;
  window_size = window_size_of bytes;
  checksum = checksum_of bytes;
  urgent_pointer = urgent_pointer_of bytes;
  options = options_of bytes;
}

-- a header with these numbers, and 0, unset and empty elsewhere
abbrev pub new_header : (source_port destination_port sequence_number window_size : ℕ) → TcpHeader
new_header source_port destination_port sequence_number window_size = record {
  source_port = source_port;
  destination_port = destination_port;
  sequence_number = sequence_number;
  acknowledgment_number = 0;
  ns = false;
  fin = false;
  syn = false;
  rst = false;
  psh = false;
  ack = false;
  urg = false;
  ece = false;
  cwr = false;
  window_size = window_size;
  checksum = 0;
  urgent_pointer = 0;
  options = [];
}

-- the length of a header in words of 4 bytes, and in bytes
abbrev pub data_offset : TcpHeader → ℕ
data_offset h = 5 + length h.options / 4

abbrev pub header_len : TcpHeader → ℕ
header_len h = 20 + length h.options

-- byte 13: eight flags
abbrev pub flags : TcpHeader → ℕ
flags h =
    flag h.cwr 128 + flag h.ece 64 + flag h.urg 32 + flag h.ack 16 + flag h.psh 8 + flag h.rst
    4 + flag h.syn 2 + flag h.fin 1

-- the bytes of a header
abbrev pub encoding : TcpHeader → List ℕ
encoding h =
    to_be_bytes w16 h.source_port ++ to_be_bytes w16 h.destination_port
    ++ to_be_bytes w32 h.sequence_number
    ++ to_be_bytes w32 h.acknowledgment_number ++ (data_offset h * 16 + flag h.ns 1) ∷ flags h ∷
    to_be_bytes w16 h.window_size
    ++ to_be_bytes w16 h.checksum ++ to_be_bytes w16 h.urgent_pointer ++ h.options

-- the bytes with the three reserved bits, after the data offset, as 0
abbrev pub with_reserved_bits_zero : List ℕ → List ℕ
with_reserved_bits_zero bytes = slice_set bytes 12
    (slice_index bytes 12 / 16 * 16 + slice_index bytes 12 % 2)

-- the bytes are a header with these fields, and then the rest; written again the header is the
-- same, but for the reserved bits
abbrev pub IsRead : List ℕ → TcpHeader → List ℕ → Type 0
IsRead = IsReadAs IsTcpHeader tcp_header_of encoding with_reserved_bits_zero

-- the ranges of the fields
pub record Fits (h : TcpHeader) : Type 0 where
  pub source_port : h.source_port < 2 ^ 16
  pub destination_port : h.destination_port < 2 ^ 16
  pub sequence_number : h.sequence_number < 2 ^ 32
  pub acknowledgment_number : h.acknowledgment_number < 2 ^ 32
  pub window_size : h.window_size < 2 ^ 16
  pub checksum : h.checksum < 2 ^ 16
  pub urgent_pointer : h.urgent_pointer < 2 ^ 16
  pub options : IsTcpOptions h.options
