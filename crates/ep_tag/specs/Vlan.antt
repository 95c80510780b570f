-- The VLAN tag after the ether type that names it (IEEE 802.1Q, section 9.6): its bytes, and each
-- field by its offset in them.
use Rattle.std.specs.Prelude.{ℕ, ◌+◌, ◌*◌, ◌/◌, ◌%◌, ◌^◌, ◌<◌, ◌≤◌, ◌==◌, ◌||◌, Bool, false, if◌then◌else◌, List, ◌++◌, drop}
use Rattle.std.specs.Int.{w16, bit_at, to_be_bytes}
use Rattle.ep_base.specs.Bytes.{num}
use Rattle.ep_base.specs.declared.len_source.LenSource.TheVariants.{Slice}
use Rattle.ep_base.specs.declared.link.ether_type.EtherType.{EtherType}
use Rattle.ep_tag.specs.Ether.{EtherPayload, ether_type_at}
use Rattle.ep_base.specs.Prefixes.{IsOfLength, IsReadAs}
use Rattle.ep_tag.specs.declared.link.single_vlan_header.SingleVlanHeader.{SingleVlanHeader}
use Rattle.ep_tag.specs.declared.link.double_vlan_header.DoubleVlanHeader.{DoubleVlanHeader}

abbrev pub vlan_len : ℕ
vlan_len = 4

-- the ether type names a VLAN tag: one of IEEE 802.1Q, of 802.1ad, or the older one of two tags
abbrev pub is_vlan_type : EtherType → Bool
is_vlan_type t = (t.0 == 0x8100) || (t.0 == 0x88a8) || (t.0 == 0x9100)

-- the priority code point, the upper 3 bits of the first byte
abbrev pub pcp_of : List ℕ → ℕ
pcp_of tag = num tag 0 1 / 2 ^ 5

-- whether the frame may be dropped first, the bit after the priority
abbrev pub drop_eligible_of : List ℕ → Bool
drop_eligible_of tag = bit_at (num tag 0 1) 4 == 1

-- the identifier, the lower 12 bits of the first two bytes
abbrev pub vlan_id_of : List ℕ → ℕ
vlan_id_of tag = num tag 0 2 % 2 ^ 12

-- the ether type of what follows the tag
abbrev pub next_type_of : List ℕ → EtherType
next_type_of tag = ether_type_at tag 2

-- the fields that the first four bytes encode
abbrev pub single_vlan_header_of : List ℕ → SingleVlanHeader
single_vlan_header_of tag = record {
  pcp = pcp_of tag;
  drop_eligible_indicator = drop_eligible_of tag;
  vlan_id = vlan_id_of tag;
  ether_type = next_type_of tag;
}

-- 0 in every field
abbrev pub default_header : SingleVlanHeader
default_header =
    record { pcp = 0; drop_eligible_indicator = false; vlan_id = 0; ether_type = record { 0 = 0 } }

-- the bytes of a header
abbrev pub encoding : SingleVlanHeader → List ℕ
encoding h =
    to_be_bytes w16 (h.pcp * 2 ^ 13 + (if h.drop_eligible_indicator then 2 ^ 12 else 0) + h.vlan_id)
    ++ to_be_bytes w16 h.ether_type.0

-- what follows a tag, under the tag's ether type
abbrev pub payload_of : List ℕ → EtherPayload
payload_of tag =
    record { ether_type = next_type_of tag; len_source = Slice; payload = drop vlan_len tag }

-- the bytes are a tag with these fields, which encode it again, and the rest
abbrev pub IsRead : List ℕ → SingleVlanHeader → List ℕ → Type 0
IsRead = IsReadAs (IsOfLength vlan_len) single_vlan_header_of encoding (λ prefix. prefix)

-- two tags, the outer one first
abbrev pub double_encoding : DoubleVlanHeader → List ℕ
double_encoding h = encoding h.outer ++ encoding h.inner

-- the ranges of the fields
pub record Fits (h : SingleVlanHeader) : Type 0 where
  pub pcp : h.pcp ≤ 7
  pub vlan_id : h.vlan_id ≤ 4095
  pub ether_type : h.ether_type.0 < 2 ^ 16
