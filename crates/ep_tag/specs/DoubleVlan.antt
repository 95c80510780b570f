-- Two VLAN tags, one directly after the other (IEEE 802.1Q, section 9.6).
use Rattle.std.specs.Prelude.{◌≡◌, ℕ, not, nat_lt, true, List, [], ◌∷◌, length, take, drop, Result}
use Rattle.ep_base.specs.LenError.{too_few_bytes}
use Rattle.ep_base.specs.Prefixes.{IsReadAs}
use Rattle.ep_base.specs.Refusals.{unless_refused}
use Rattle.ep_base.specs.declared.err.layer.Layer.TheVariants as layer
use Rattle.ep_base.specs.declared.err.slice_error.SliceError.{SliceError}
use Rattle.ep_base.specs.declared.err.slice_error.SliceError.TheVariants.{Len, Content}
use Rattle.ep_base.specs.declared.link.ether_type.EtherType.{EtherType}
use Rattle.ep_tag.specs.Vlan.{double_encoding, is_vlan_type, next_type_of, single_vlan_header_of, vlan_len}
use Rattle.ep_tag.specs.declared.err.double_vlan.header_error.HeaderError.{HeaderError}
use Rattle.ep_tag.specs.declared.err.double_vlan.header_error.HeaderError.TheVariants.{NonVlanEtherType}
use Rattle.ep_tag.specs.declared.link.double_vlan_header.DoubleVlanHeader.{DoubleVlanHeader}

abbrev pub double_vlan_len : ℕ
double_vlan_len = 8

-- eight bytes, the first four of which are a tag whose ether type names the other one
pub record IsDoubleVlanHeader (header : List ℕ) : Type 0 where
  pub whole : length header ≡ double_vlan_len
  pub inner : is_vlan_type (next_type_of header) ≡ true

abbrev pub outer_of : List ℕ → List ℕ
outer_of header = take vlan_len header

abbrev pub inner_of : List ℕ → List ℕ
inner_of header = drop vlan_len header

-- the fields that a header's bytes encode
abbrev pub double_vlan_header_of : List ℕ → DoubleVlanHeader
double_vlan_header_of header = record {
  outer = single_vlan_header_of (outer_of header);
  inner = single_vlan_header_of (inner_of header);
}

-- the ether type after the outer tag names no VLAN tag
abbrev pub no_vlan_type : EtherType → HeaderError
no_vlan_type t = NonVlanEtherType t

-- the tags at the start of the bytes, or the first fault: 8 bytes, then the ether type
abbrev pub double_vlan_at : List ℕ → Result (List ℕ) (SliceError HeaderError)
double_vlan_at bytes = unless_refused ((
  nat_lt (length bytes) double_vlan_len,
  Len (too_few_bytes layer.VlanHeader double_vlan_len (length bytes)),
)
    ∷ (not (is_vlan_type (next_type_of bytes)), Content (no_vlan_type (next_type_of bytes)))
    ∷ []) (take double_vlan_len bytes)

-- the bytes are two tags with these fields, which encode them again, and the rest
abbrev pub IsRead : List ℕ → DoubleVlanHeader → List ℕ → Type 0
IsRead = IsReadAs IsDoubleVlanHeader double_vlan_header_of double_encoding (λ prefix. prefix)
