-- The tags of a packet, as far as it is there, and what the last ether type names.
use Rattle.std.specs.Prelude.{◌-◌, ◌==◌, if◌then◌else◌, Bool, true, false, List, [], ◌∷◌, length, map, slice_get}
use Rattle.std.specs.Prelude.{ℕ, Option, Some, None, is_some}
use Rattle.std.specs.Option.{option_map}
use Rattle.ep_base.specs.declared.len_source.LenSource.{LenSource}
use Rattle.ep_base.specs.declared.len_source.LenSource.TheVariants.{MacsecShortLength, Slice}
use Rattle.ep_base.specs.declared.link.ether_type.EtherType.{EtherType}
use Rattle.ep_ipslice.specs.Packet.{IpPayload}
use Rattle.ep_link.specs.declared.link.link_slice.LinkSlice.{LinkSlice}
use Rattle.ep_packet.specs.PacketView.{link_payload}
use Rattle.ep_packet.specs.declared.lax_sliced_packet.LaxSlicedPacket.{LaxSlicedPacket}
use Rattle.ep_tag.specs.Ether.{LaxEtherPayload, complete_ether}
use Rattle.ep_tag.specs.LinkExt.{lax_payload_after}
use Rattle.ep_tag.specs.Macsec.{short_len_of}
use Rattle.ep_tag.specs.MacsecLax.{LaxMacsecPayload, LaxModified, LaxUnmodified}
use Rattle.ep_tag.specs.Vlan.{vlan_id_of}
use Rattle.ep_tag.specs.declared.link.lax_link_ext_slice.LaxLinkExtSlice.{LaxLinkExtSlice}
use Rattle.ep_tag.specs.declared.link.lax_link_ext_slice.LaxLinkExtSlice.TheVariants.{Vlan, Macsec}

-- the VLAN tags, the outer one first
abbrev pub lax_vlan_tags : List LaxLinkExtSlice → List (List ℕ)
lax_vlan_tags [] = []
lax_vlan_tags (Vlan bytes ∷ tags) = bytes ∷ lax_vlan_tags tags
lax_vlan_tags (Macsec m ∷ tags) = lax_vlan_tags tags

abbrev pub lax_vlan_ids_of : List LaxLinkExtSlice → List ℕ
lax_vlan_ids_of tags = map vlan_id_of (lax_vlan_tags tags)

-- bytes of the payload of a MACsec header are missing
abbrev pub is_incomplete : LaxMacsecPayload → Bool
is_incomplete (LaxUnmodified p) = p.incomplete
is_incomplete (LaxModified incomplete bytes) = incomplete

-- whether bytes are missing of what follows the tags, and what bounds it: the last MACsec header with a
-- short length above 0 says both
abbrev pub bound_by : Bool × LenSource → LaxLinkExtSlice → Bool × LenSource
bound_by bound (Vlan bytes) = bound
bound_by bound (Macsec m) = if short_len_of m.header == 0 then bound
    else (if is_incomplete m.payload then (true, Slice) else (false, MacsecShortLength))

abbrev pub bound_after : Bool × LenSource → List LaxLinkExtSlice → Bool × LenSource
bound_after bound [] = bound
bound_after bound (t ∷ tags) = bound_after (bound_by bound t) tags

-- what the last of the ether types names: that of the last tag, or without one the link header's
abbrev pub lax_named_by : Option LinkSlice → Option LaxLinkExtSlice → Option LaxEtherPayload
lax_named_by header None = option_map complete_ether (link_payload header)
lax_named_by header (Some t) = lax_payload_after t

-- the same with its bound
abbrev pub bounded : Bool × LenSource → LaxEtherPayload → LaxEtherPayload
bounded bound p = record p { incomplete = bound.0; len_source = bound.1 }

abbrev pub lax_last_payload : LaxSlicedPacket → Option LaxEtherPayload
lax_last_payload packet = lax_named_by packet.link
    (slice_get packet.link_exts.items (length packet.link_exts.items - 1))

abbrev pub lax_ether_payload_in : LaxSlicedPacket → Option LaxEtherPayload
lax_ether_payload_in packet =
    option_map (bounded (bound_after (false, Slice) packet.link_exts.items)) (lax_last_payload packet)

-- the last ether type, if nothing after it was parsed
abbrev pub lax_payload_ether_type_in : LaxSlicedPacket → Option EtherType
lax_payload_ether_type_in packet = if is_some packet.net then None
    else option_map (λ (p : LaxEtherPayload). p.ether_type) (lax_last_payload packet)

abbrev pub is_lax_fragment : Option (Bool × IpPayload) → Bool
is_lax_fragment None = false
is_lax_fragment (Some p) = p.1.fragmented
