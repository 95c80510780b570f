-- A payload is tags, one after the other, and what follows them.
use Rattle.std.specs.Prelude.{◌≡◌, ◌<◌, ◌≤◌, ℕ, true, false, List, [], ◌∷◌, length, Option, Some, None, MatchOption}
use Rattle.std.specs.Prelude.{IfSome}
use Rattle.ep_packet.specs.Tags.{is_macsec_type, names_tag}
use Rattle.ep_tag.specs.Ether.{EtherPayload}
use Rattle.ep_tag.specs.LinkExt.{payload_after}
use Rattle.ep_tag.specs.MacsecPayload.{IsMacsec}
use Rattle.ep_tag.specs.Vlan.{is_vlan_type, vlan_len}
use Rattle.ep_tag.specs.declared.link.link_ext_slice.LinkExtSlice.{LinkExtSlice}
use Rattle.ep_tag.specs.declared.link.link_ext_slice.LinkExtSlice.TheVariants as tag

-- the ether type names this tag, and the payload starts with it
abbrev pub IsTag : EtherPayload → LinkExtSlice → Type 0
IsTag p (tag.Vlan bytes) = (is_vlan_type p.ether_type ≡ true)
    × (vlan_len ≤ length p.payload) × (bytes ≡ p.payload)
IsTag p (tag.Macsec macsec) = (is_vlan_type p.ether_type ≡ false)
    × (is_macsec_type p.ether_type ≡ true) × IsMacsec p.payload macsec

-- each tag is named by the ether type before it; nothing is named after a modified payload
abbrev pub AreTags : EtherPayload → List LinkExtSlice → Option EtherPayload → Type 0
AreTags p [] last = last ≡ Some p
AreTags p (t ∷ tags) last = IsTag p t
    × MatchOption (payload_after t) ((tags ≡ []) × (last ≡ None)) (λ next. AreTags next tags last)

-- at most n tags, and all of them where there are fewer
pub record IsTagged (n : ℕ) (p : EtherPayload) (tags : List LinkExtSlice)
    (last : Option EtherPayload) : Type 0 where
  pub few : length tags ≤ n
  pub are : AreTags p tags last
  pub ends : length tags < n → IfSome last (λ q. names_tag q.ether_type ≡ false)
