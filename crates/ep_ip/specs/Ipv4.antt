-- The IPv4 header (RFC 791, section 3.1): its bytes, and each field by its offset in them.
use Rattle.std.specs.Prelude.{◌≡◌, ◌<◌, ℕ, ◌+◌, ◌*◌, ◌/◌, ◌%◌, ◌^◌, ◌≤◌, Bool, true, false, ◌==◌, ◌||◌, nat_lt}
use Rattle.std.specs.Prelude.{if◌then◌else◌, List, [], ◌∷◌, ◌++◌, replicate, length, slice_range, slice_index}
use Rattle.std.specs.Prelude.{slice_set, drop}
use Rattle.std.specs.Int.{bit_at, w16, to_be_bytes}
use Rattle.ep_base.specs.Bytes.{num}
use Rattle.ep_base.specs.Prefixes.{IsReadAs}
use Rattle.ep_base.specs.IpEcn.{ecn_number, ecn_of as ecn_value}
use Rattle.ep_base.specs.declared.net.ip_ecn.IpEcn.{IpEcn}
use Rattle.ep_base.specs.declared.net.ip_ecn.IpEcn.TheVariants.{NotEct}
use Rattle.ep_ip.specs.Ipv4Options.{IsIpv4Options}
use Rattle.ep_ip.specs.declared.net.ipv4_header.Ipv4Header.{Ipv4Header}

-- the version, as in an IPv6 header, and the header's length in words of 4 bytes
abbrev pub version_of : List ℕ → ℕ
version_of bytes = num bytes 0 1 / 16

abbrev pub ihl_of : List ℕ → ℕ
ihl_of bytes = num bytes 0 1 % 16

-- version 4, and as many bytes as the length field says, at least 20
pub record IsIpv4Header (bytes : List ℕ) : Type 0 where
  pub version : version_of bytes ≡ 4
  pub minimum : 5 ≤ ihl_of bytes
  pub whole : length bytes ≡ 4 * ihl_of bytes

-- the type of service, as it is used today: the differentiated services code point (RFC 2474,
-- section 3) and explicit congestion notification (RFC 3168, section 5)
abbrev pub dscp_of : List ℕ → ℕ
dscp_of bytes = num bytes 1 1 / 4

abbrev pub ecn_of : List ℕ → IpEcn
ecn_of bytes = ecn_value (num bytes 1 1 % 4)

-- the length of header and payload in bytes
abbrev pub total_len_of : List ℕ → ℕ
total_len_of bytes = num bytes 2 2

abbrev pub identification_of : List ℕ → ℕ
identification_of bytes = num bytes 4 2

-- the flags, below the reserved bit, which is the top one of byte 6
abbrev pub dont_fragment_of : List ℕ → Bool
dont_fragment_of bytes = bit_at (num bytes 6 1) 6 == 1

abbrev pub more_fragments_of : List ℕ → Bool
more_fragments_of bytes = bit_at (num bytes 6 1) 5 == 1

-- the offset of the payload in the datagram's payload, in units of 8 bytes
abbrev pub fragment_offset_of : List ℕ → ℕ
fragment_offset_of bytes = num bytes 6 2 % 2 ^ 13

abbrev pub time_to_live_of : List ℕ → ℕ
time_to_live_of bytes = num bytes 8 1

abbrev pub protocol_of : List ℕ → ℕ
protocol_of bytes = num bytes 9 1

abbrev pub header_checksum_of : List ℕ → ℕ
header_checksum_of bytes = num bytes 10 2

abbrev pub source_of : List ℕ → List ℕ
source_of bytes = slice_range bytes 12 16

abbrev pub destination_of : List ℕ → List ℕ
destination_of bytes = slice_range bytes 16 20

abbrev pub options_of : List ℕ → List ℕ
options_of bytes = drop 20 bytes

-- the fields that these bytes encode
abbrev pub ipv4_header_of : List ℕ → Ipv4Header
ipv4_header_of bytes = record {
  dscp = dscp_of bytes;
  ecn = ecn_of bytes;
  total_len = total_len_of bytes;
  identification = identification_of bytes;
  dont_fragment = dont_fragment_of bytes;
  more_fragments = more_fragments_of bytes;
  fragment_offset = fragment_offset_of bytes;
  time_to_live = time_to_live_of bytes;
  protocol = record { 0 = protocol_of bytes };
  header_checksum = header_checksum_of bytes;
  source = source_of bytes;
  destination = destination_of bytes;
  options = options_of bytes;
}

-- protocol 255, which is reserved, don't-fragment set, and 0 elsewhere
abbrev pub default_header : Ipv4Header
default_header = record {
  dscp = 0;
  ecn = NotEct;
  total_len = 0;
  identification = 0;
  dont_fragment = true;
  more_fragments = false;
  fragment_offset = 0;
  time_to_live = 0;
  protocol = record { 0 = 255 };
  header_checksum = 0;
  source = replicate 4 0;
  destination = replicate 4 0;
  options = [];
}

-- the length of a header in words of 4 bytes, and in bytes
abbrev pub ihl : Ipv4Header → ℕ
ihl h = 5 + length h.options / 4

abbrev pub header_len : Ipv4Header → ℕ
header_len h = 20 + length h.options

-- the two flags and the offset, below the reserved bit, which is 0
abbrev pub flags_and_offset : Ipv4Header → ℕ
flags_and_offset h = (if h.dont_fragment then 2 ^ 14 else 0) +
    (if h.more_fragments then 2 ^ 13 else 0) + h.fragment_offset

-- the bytes of a header
abbrev pub encoding : Ipv4Header → List ℕ
encoding h =
    (4 * 16 + ihl h) ∷ (4 * h.dscp + ecn_number h.ecn)
    ∷ (to_be_bytes w16 h.total_len ++ to_be_bytes w16 h.identification
    ++ to_be_bytes w16 (flags_and_offset h)
    ++ h.time_to_live ∷ h.protocol.0 ∷ to_be_bytes w16 h.header_checksum
    ++ h.source ++ h.destination ++ h.options)

-- the bytes with the reserved bit, the top one of byte 6, as 0
abbrev pub with_reserved_bit_zero : List ℕ → List ℕ
with_reserved_bit_zero bytes = slice_set bytes 6 (slice_index bytes 6 % 2 ^ 7)

-- the bytes are a header with these fields and the rest; written again it is the same, but for
-- the reserved bit
abbrev pub IsRead : List ℕ → Ipv4Header → List ℕ → Type 0
IsRead = IsReadAs IsIpv4Header ipv4_header_of encoding with_reserved_bit_zero

-- the ranges of the fields
pub record Fits (h : Ipv4Header) : Type 0 where
  pub dscp : h.dscp < 2 ^ 6
  pub total_len : h.total_len < 2 ^ 16
  pub identification : h.identification < 2 ^ 16
  pub fragment_offset : h.fragment_offset < 2 ^ 13
  pub header_checksum : h.header_checksum < 2 ^ 16
  pub source : length h.source ≡ 4
  pub destination : length h.destination ≡ 4
  pub options : IsIpv4Options h.options

-- the packet is one of several fragments: more of them follow, or it is not the first
abbrev pub is_fragmenting : Bool → ℕ → Bool
is_fragmenting more_fragments offset = more_fragments || nat_lt 0 offset

-- the same of the packet that these bytes start
abbrev pub is_fragment : List ℕ → Bool
is_fragment bytes = is_fragmenting (more_fragments_of bytes) (fragment_offset_of bytes)
