-- Views of a sliced packet: the payloads that its headers name, and its VLAN tags.
use Rattle.std.specs.Prelude.{ℕ, ◌-◌, ◌==◌, ◌||◌, Bool, true, false, if◌then◌else◌, List, [], ◌∷◌, length, Option, Some}
use Rattle.std.specs.Prelude.{None, is_some}
use Rattle.std.specs.List.{slice_get}
use Rattle.std.specs.Option.{option_map}
use Rattle.ep_base.specs.declared.len_source.LenSource.{LenSource}
use Rattle.ep_base.specs.declared.len_source.LenSource.TheVariants as source
use Rattle.ep_base.specs.declared.link.ether_type.EtherType.{EtherType}
use Rattle.ep_ipslice.specs.Packet.{IpPayload}
use Rattle.ep_link.specs.Link as link
use Rattle.ep_link.specs.declared.link.link_slice.LinkSlice.{LinkSlice}
use Rattle.ep_packet.specs.NetSlice.{ip_payload_in}
use Rattle.ep_packet.specs.declared.net.net_slice.NetSlice.{NetSlice}
use Rattle.ep_packet.specs.declared.sliced_packet.SlicedPacket.{SlicedPacket}
use Rattle.ep_tag.specs.Ether.{EtherPayload}
use Rattle.ep_tag.specs.LinkExt as tag
use Rattle.ep_tag.specs.Macsec.{short_len_of}
use Rattle.ep_tag.specs.declared.link.link_ext_slice.LinkExtSlice.{LinkExtSlice}
use Rattle.ep_tag.specs.declared.link.link_ext_slice.LinkExtSlice.TheVariants.{Vlan, Macsec}
use Rattle.ep_tag.specs.declared.link.vlan_slice.VlanSlice.{VlanSlice}
use Rattle.ep_tag.specs.declared.link.vlan_slice.VlanSlice.TheVariants.{SingleVlan, DoubleVlan}

-- what the ether type of a link header names, if there is one
abbrev pub link_payload : Option LinkSlice → Option EtherPayload
link_payload None = None
link_payload (Some header) = link.payload_after header

-- what the last of the ether types names: that of the last tag, or without one the link header's
abbrev pub named_by : Option LinkSlice → Option LinkExtSlice → Option EtherPayload
named_by header None = link_payload header
named_by header (Some t) = tag.payload_after t

-- the last of the tags
abbrev pub last_of : List LinkExtSlice → Option LinkExtSlice
last_of tags = slice_get tags (length tags - 1)

abbrev pub last_payload : Option LinkSlice → List LinkExtSlice → Option EtherPayload
last_payload header tags = named_by header (last_of tags)

-- a MACsec header with a short length above 0 bounds the bytes after it
abbrev pub has_short_len : LinkExtSlice → Bool
has_short_len (Vlan bytes) = false
has_short_len (Macsec m) = if short_len_of m.header == 0 then false else true

abbrev pub any_has_short_len : List LinkExtSlice → Bool
any_has_short_len [] = false
any_has_short_len (t ∷ tags) = has_short_len t || any_has_short_len tags

abbrev pub source_after : List LinkExtSlice → LenSource
source_after tags = if any_has_short_len tags then source.MacsecShortLength else source.Slice

-- what the last ether type names, and what bounds it
abbrev pub ether_payload_in : SlicedPacket → Option EtherPayload
ether_payload_in packet =
    option_map (λ (p : EtherPayload). record p
    { len_source = source_after packet.link_exts.items })
    (last_payload packet.link packet.link_exts.items)

-- the last ether type, if nothing after it was parsed
abbrev pub payload_ether_type_in : SlicedPacket → Option EtherType
payload_ether_type_in packet = if is_some packet.net then None
    else option_map (λ (p : EtherPayload). p.ether_type)
    (last_payload packet.link packet.link_exts.items)

abbrev pub ip_payload_of : Option NetSlice → Option IpPayload
ip_payload_of None = None
ip_payload_of (Some packet) = ip_payload_in packet

abbrev pub is_fragment : Option IpPayload → Bool
is_fragment None = false
is_fragment (Some p) = p.fragmented

-- the VLAN tags, the outer one first
abbrev pub vlan_tags : List LinkExtSlice → List (List ℕ)
vlan_tags [] = []
vlan_tags (Vlan bytes ∷ tags) = bytes ∷ vlan_tags tags
vlan_tags (Macsec m ∷ tags) = vlan_tags tags

-- the first two of them
abbrev pub vlan_slice_of : List (List ℕ) → Option VlanSlice
vlan_slice_of [] = None
vlan_slice_of (tag ∷ []) = Some (SingleVlan tag)
vlan_slice_of (outer ∷ inner ∷ tags) = Some (DoubleVlan (record { outer = outer; inner = inner }))
