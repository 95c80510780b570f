-- The tags after a link header, as far as they are there (IEEE 802.1Q, section 9; IEEE 802.1AE, clause
-- 9): reading stops at the first one that has a fault.
use Rattle.std.specs.Prelude.{ℕ, if◌then◌else◌, Option, Some, None, Result, Ok}
use Rattle.std.specs.Option.{option_map}
use Rattle.std.specs.Result.{result_map_both}
use Rattle.ep_base.specs.declared.err.layer.Layer.{Layer}
use Rattle.ep_base.specs.declared.err.layer.Layer.TheVariants.{VlanHeader, MacsecHeader}
use Rattle.ep_packet.specs.SliceFault.{offset_by, of_macsec}
use Rattle.ep_packet.specs.Tags.{FoundTags, find_tags, is_macsec_type}
use Rattle.ep_packet.specs.declared.err.packet.slice_error.SliceError.{SliceError}
use Rattle.ep_packet.specs.declared.err.packet.slice_error.SliceError.TheVariants.{Len}
use Rattle.ep_tag.specs.Ether.{LaxEtherPayload}
use Rattle.ep_tag.specs.LinkExt.{lax_payload_after, lax_tag_len}
use Rattle.ep_tag.specs.MacsecLax.{lax_macsec_at}
use Rattle.ep_tag.specs.Prefix.{whole_at}
use Rattle.ep_tag.specs.Vlan.{is_vlan_type, vlan_len}
use Rattle.ep_tag.specs.declared.link.lax_link_ext_slice.LaxLinkExtSlice.{LaxLinkExtSlice}
use Rattle.ep_tag.specs.declared.link.lax_link_ext_slice.LaxLinkExtSlice.TheVariants as tag

-- a fault, and the layer in which it is
abbrev pub Stop : Type 0
Stop = SliceError × Layer

-- counted from n bytes earlier
abbrev pub stop_by : ℕ → Stop → Stop
stop_by n stop = (offset_by n stop.0, stop.1)

-- the tag at the start of a payload, if the ether type names one, or what is wrong with it
abbrev pub lax_tag_at : LaxEtherPayload → Result (Option LaxLinkExtSlice) Stop
lax_tag_at p =
    if is_vlan_type p.ether_type
    then result_map_both (λ bytes. Some (tag.Vlan bytes)) (λ e. (Len e, VlanHeader))
    (whole_at VlanHeader vlan_len p.payload)
    else (if is_macsec_type p.ether_type
    then result_map_both (λ macsec. Some (tag.Macsec macsec)) (λ e. (of_macsec e, MacsecHeader))
    (lax_macsec_at p.payload)
    else Ok None)

-- tags, as far as they are there
abbrev pub LaxTagged : Type 0
LaxTagged = FoundTags LaxLinkExtSlice LaxEtherPayload Stop

-- the tags at the start of a payload, n at most, with the fault counted from the payload's start
unfoldable pub lax_tags_in : ℕ → LaxEtherPayload → LaxTagged
lax_tags_in n p =
    let found = find_tags lax_tag_at lax_tag_len lax_payload_after n p in
    record found { stop = option_map (stop_by found.len) found.stop }
