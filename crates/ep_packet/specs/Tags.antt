-- The tags after a link header: VLAN tags (IEEE 802.1Q, section 9) and MACsec headers (IEEE
-- 802.1AE, clause 9), each named by the ether type before it.
use Rattle.std.specs.Prelude.{ℕ, zero, suc, ◌+◌, ◌||◌, ◌==◌, Bool, if◌then◌else◌, List, [], ◌∷◌, Option, Some, None}
use Rattle.std.specs.Prelude.{option_map, unwrap_or, Result, Ok, Err}
use Rattle.std.specs.Result.{result_map_both}
use Rattle.ep_base.specs.declared.err.layer.Layer.TheVariants.{VlanHeader}
use Rattle.ep_base.specs.declared.link.ether_type.EtherType.{EtherType}
use Rattle.ep_packet.specs.SliceFault.{offset_by, of_macsec}
use Rattle.ep_packet.specs.declared.err.packet.slice_error.SliceError.{SliceError}
use Rattle.ep_packet.specs.declared.err.packet.slice_error.SliceError.TheVariants.{Len}
use Rattle.ep_tag.specs.Ether.{EtherPayload}
use Rattle.ep_tag.specs.Prefix.{whole_at}
use Rattle.ep_tag.specs.LinkExt.{payload_after, tag_len}
use Rattle.ep_tag.specs.MacsecPayload.{macsec_at}
use Rattle.ep_tag.specs.Vlan.{is_vlan_type, vlan_id_of, vlan_len}
use Rattle.ep_tag.specs.declared.link.link_ext_slice.LinkExtSlice.{LinkExtSlice}
use Rattle.ep_tag.specs.declared.link.link_ext_slice.LinkExtSlice.TheVariants as tag

abbrev pub is_macsec_type : EtherType → Bool
is_macsec_type t = t.0 == 0x88e5

abbrev pub names_tag : EtherType → Bool
names_tag t = is_vlan_type t || is_macsec_type t

-- the tag at the start of a payload, if the ether type names one, or what is wrong with it
abbrev pub tag_at : EtherPayload → Result (Option LinkExtSlice) SliceError
tag_at p =
    if is_vlan_type p.ether_type
    then result_map_both (λ bytes. Some (tag.Vlan bytes)) Len (whole_at VlanHeader vlan_len p.payload)
    else (if is_macsec_type p.ether_type
    then result_map_both (λ macsec. Some (tag.Macsec macsec)) of_macsec (macsec_at p.payload)
    else Ok None)

-- the tags in order, how many bytes they have together, what the last ether type names, and what is
-- wrong with the next tag, its offset counted from that tag: nothing is named where a tag has a fault,
-- or where the last tag is a MACsec header with a modified payload
pub record FoundTags (T P E : Type 0) : Type 0 where
  pub tags : List T
  pub len : ℕ
  pub last : Option P
  pub stop : Option E

-- no tag, before what the ether type names, a tag with a fault, or nothing
abbrev pub no_tags : {T P E : Type 0} → Option P → Option E → FoundTags T P E
no_tags last stop = record { tags = []; len = 0; last = last; stop = stop }

-- what a payload starts with, a tag of this length, none, or one with a fault, and what is found after it
abbrev pub tags_from : {T P E : Type 0} → (T → ℕ) → (T → Option P) → (P → FoundTags T P E) → P
    → Result (Option T) E → FoundTags T P E
tags_from len after find p (Err e) = no_tags None (Some e)
tags_from len after find p (Ok None) = no_tags (Some p) None
tags_from len after find p (Ok (Some t)) =
    let more = unwrap_or (option_map find (after t)) (no_tags None None) in
    record { tags = t ∷ more.tags; len = len t + more.len; last = more.last; stop = more.stop }

-- the tags at the start of a payload, n at most, by what reads a tag, its length, and what follows it
abbrev pub find_tags : {T P E : Type 0} → (P → Result (Option T) E) → (T → ℕ) → (T → Option P) → ℕ → P
    → FoundTags T P E
find_tags at len after zero p = no_tags (Some p) None
find_tags at len after (suc n) p = tags_from len after (find_tags at len after n) p (at p)

-- the tags of a payload none of which has a fault
pub record Tagged : Type 0 where
  pub tags : List LinkExtSlice
  pub len : ℕ
  pub last : Option EtherPayload

-- the tags at the start of a payload, n at most, or the first fault, counted from the payload's start
unfoldable pub tags_in : ℕ → EtherPayload → Result Tagged SliceError
tags_in n p =
    let found = find_tags tag_at tag_len payload_after n p in
    unwrap_or (option_map (λ e. Err (offset_by found.len e)) found.stop)
    (Ok (record { tags = found.tags; len = found.len; last = found.last }))

-- the greatest number of tags
abbrev pub most_tags : ℕ
most_tags = 3

-- the identifiers of the VLAN tags, the outer one first
abbrev pub vlan_ids_of : List LinkExtSlice → List ℕ
vlan_ids_of [] = []
vlan_ids_of (tag.Vlan bytes ∷ tags) = vlan_id_of bytes ∷ vlan_ids_of tags
vlan_ids_of (tag.Macsec macsec ∷ tags) = vlan_ids_of tags
