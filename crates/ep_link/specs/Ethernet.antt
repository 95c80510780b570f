-- The Ethernet II header (RFC 894; IEEE 802.3, clause 3): its bytes, and each field by its offset
-- in them.
use Rattle.std.specs.Prelude.{◌≡◌, ℕ, ◌^◌, ◌<◌, List, ◌++◌, length, drop, replicate, slice_range}
use Rattle.std.specs.Int.{w16, to_be_bytes}
use Rattle.ep_base.specs.declared.len_source.LenSource.TheVariants.{Slice}
use Rattle.ep_base.specs.declared.link.ether_type.EtherType.{EtherType}
use Rattle.ep_tag.specs.Ether.{EtherPayload, ether_type_at}
use Rattle.ep_base.specs.Prefixes.{IsOfLength, IsReadAs}
use Rattle.ep_link.specs.declared.link.ethernet2_header.Ethernet2Header.{Ethernet2Header}

abbrev pub ethernet_len : ℕ
ethernet_len = 14

abbrev pub destination_of : List ℕ → List ℕ
destination_of frame = slice_range frame 0 6

abbrev pub source_of : List ℕ → List ℕ
source_of frame = slice_range frame 6 12

-- the ether type of what follows the header
abbrev pub next_type_of : List ℕ → EtherType
next_type_of frame = ether_type_at frame 12

-- the fields that the first 14 bytes encode
abbrev pub ethernet_header_of : List ℕ → Ethernet2Header
ethernet_header_of frame = record {
  source = source_of frame;
  destination = destination_of frame;
  ether_type = next_type_of frame;
}

-- 0 in every field
abbrev pub default_header : Ethernet2Header
default_header =
    record { source = replicate 6 0; destination = replicate 6 0; ether_type = record { 0 = 0 } }

-- the bytes of a header
abbrev pub encoding : Ethernet2Header → List ℕ
encoding h = h.destination ++ h.source ++ to_be_bytes w16 h.ether_type.0

-- what follows the header, under its ether type
abbrev pub payload_of : List ℕ → EtherPayload
payload_of frame =
    record {
      ether_type = next_type_of frame;
      len_source = Slice;
      payload = drop ethernet_len frame;
    }

-- the bytes are a header with these fields, which encode it again, and the rest
abbrev pub IsRead : List ℕ → Ethernet2Header → List ℕ → Type 0
IsRead = IsReadAs (IsOfLength ethernet_len) ethernet_header_of encoding (λ prefix. prefix)

-- the ranges of the fields
pub record Fits (h : Ethernet2Header) : Type 0 where
  pub source : length h.source ≡ 6
  pub destination : length h.destination ≡ 6
  pub ether_type : h.ether_type.0 < 2 ^ 16
