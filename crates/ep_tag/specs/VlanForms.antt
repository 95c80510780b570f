-- One VLAN tag or two, one after the other (IEEE 802.1Q, section 9.6).
use Rattle.std.specs.Prelude.{ℕ, List}
use Rattle.ep_base.specs.declared.link.ether_type.EtherType.{EtherType}
use Rattle.ep_tag.specs.declared.link.vlan_header.VlanHeader.{VlanHeader}
use Rattle.ep_tag.specs.declared.link.vlan_header.VlanHeader.TheVariants as header
use Rattle.ep_tag.specs.declared.link.vlan_slice.VlanSlice.{VlanSlice}
use Rattle.ep_tag.specs.declared.link.vlan_slice.VlanSlice.TheVariants as slice
use Rattle.ep_tag.specs.Ether.{EtherPayload}
use Rattle.ep_tag.specs.Vlan.{double_encoding, single_vlan_header_of, payload_of, encoding}

-- the bytes of the tags, the outer one first
abbrev pub tags_encoding : VlanHeader → List ℕ
tags_encoding (header.Single h) = encoding h
tags_encoding (header.Double h) = double_encoding h

-- the ether type of what follows the last tag
abbrev pub last_type_in : VlanHeader → EtherType
last_type_in (header.Single h) = h.ether_type
last_type_in (header.Double h) = h.inner.ether_type

-- the fields of the tags
abbrev pub fields_of : VlanSlice → VlanHeader
fields_of (slice.SingleVlan tag) = header.Single (single_vlan_header_of tag)
fields_of (slice.DoubleVlan tags) =
    header.Double (record {
      outer = single_vlan_header_of tags.outer;
      inner = single_vlan_header_of
          tags.inner;
    })

-- what follows the last tag, under its ether type
abbrev pub last_payload_of : VlanSlice → EtherPayload
last_payload_of (slice.SingleVlan tag) = payload_of tag
last_payload_of (slice.DoubleVlan tags) = payload_of tags.inner

-- the length of the tags
abbrev pub tags_len_of : VlanSlice → ℕ
tags_len_of (slice.SingleVlan tag) = 4
tags_len_of (slice.DoubleVlan tags) = 8
