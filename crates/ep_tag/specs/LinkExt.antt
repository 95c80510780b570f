-- A tag: a VLAN tag or a MACsec header, and what follows it.
use Rattle.std.specs.Prelude.{ℕ, List, length, Option, Some}
use Rattle.ep_base.specs.declared.link.ether_type.EtherType.{EtherType}
use Rattle.ep_tag.specs.declared.link.lax_link_ext_slice.LaxLinkExtSlice.{LaxLinkExtSlice}
use Rattle.ep_tag.specs.declared.link.lax_link_ext_slice.LaxLinkExtSlice.TheVariants as lax_tag
use Rattle.ep_tag.specs.declared.link.link_ext_header.LinkExtHeader.{LinkExtHeader}
use Rattle.ep_tag.specs.declared.link.link_ext_header.LinkExtHeader.TheVariants as header
use Rattle.ep_tag.specs.declared.link.link_ext_slice.LinkExtSlice.{LinkExtSlice}
use Rattle.ep_tag.specs.declared.link.link_ext_slice.LinkExtSlice.TheVariants as tag
use Rattle.ep_tag.specs.Ether.{EtherPayload, LaxEtherPayload, complete_ether}
use Rattle.ep_tag.specs.Macsec as macsec
use Rattle.ep_tag.specs.MacsecLax.{lax_named_payload}
use Rattle.ep_tag.specs.MacsecPayload.{named_payload}
use Rattle.ep_tag.specs.Vlan as vlan

-- the bytes of the tag itself
abbrev pub tag_len : LinkExtSlice → ℕ
tag_len (tag.Vlan bytes) = vlan.vlan_len
tag_len (tag.Macsec m) = length m.header

-- the fields of the tag
abbrev pub fields_of : LinkExtSlice → LinkExtHeader
fields_of (tag.Vlan bytes) = header.Vlan (vlan.single_vlan_header_of bytes)
fields_of (tag.Macsec m) = header.Macsec (macsec.macsec_header_of m.header)

-- what the tag's own ether type names, where it has one
abbrev pub payload_after : LinkExtSlice → Option EtherPayload
payload_after (tag.Vlan bytes) = Some (vlan.payload_of bytes)
payload_after (tag.Macsec m) = named_payload m.payload

-- the same of a tag after which bytes may be missing; a VLAN tag doesn't say that some are
abbrev pub lax_tag_len : LaxLinkExtSlice → ℕ
lax_tag_len (lax_tag.Vlan bytes) = vlan.vlan_len
lax_tag_len (lax_tag.Macsec m) = length m.header

abbrev pub lax_fields_of : LaxLinkExtSlice → LinkExtHeader
lax_fields_of (lax_tag.Vlan bytes) = header.Vlan (vlan.single_vlan_header_of bytes)
lax_fields_of (lax_tag.Macsec m) = header.Macsec (macsec.macsec_header_of m.header)

abbrev pub lax_payload_after : LaxLinkExtSlice → Option LaxEtherPayload
lax_payload_after (lax_tag.Vlan bytes) = Some (complete_ether (vlan.payload_of bytes))
lax_payload_after (lax_tag.Macsec m) = lax_named_payload m.payload

-- the bytes of a tag with these fields
abbrev pub tag_encoding : LinkExtHeader → List ℕ
tag_encoding (header.Vlan h) = vlan.encoding h
tag_encoding (header.Macsec h) = macsec.encoding h

-- the ether type of what follows a tag with these fields, where it has one
abbrev pub next_type_in : LinkExtHeader → Option EtherType
next_type_in (header.Vlan h) = Some h.ether_type
next_type_in (header.Macsec h) = macsec.next_type_in h.ptype
