-- The tags of a packet, as far as it is there, tag by tag.
use Rattle.std.proofs.Common.{◌≡◌, ◌∙◌, ℕ, ◌+◌, ◌<◌, Bool, List, [], ◌∷◌, ◌++◌, length, take, get_or, refl, ap, arith, take-suc}
use Rattle.ep_base.specs.declared.len_source.LenSource.{LenSource}
use Rattle.ep_packet.specs.LaxView.{bound_after, bound_by, lax_vlan_ids_of, lax_vlan_tags}
use Rattle.ep_tag.specs.Vlan.{vlan_id_of}
use Rattle.ep_tag.specs.declared.link.lax_link_ext_slice.LaxLinkExtSlice.{LaxLinkExtSlice}
use Rattle.ep_tag.specs.declared.link.lax_link_ext_slice.LaxLinkExtSlice.TheVariants.{Vlan, Macsec}

pub lax_tags_more : (tags : List LaxLinkExtSlice) (t : LaxLinkExtSlice)
    → lax_vlan_tags (tags ++ t ∷ []) ≡ lax_vlan_tags tags ++ lax_vlan_tags (t ∷ [])
lax_tags_more [] t = refl
lax_tags_more (Vlan bytes ∷ tags) t = ap (λ (xs : List (List ℕ)). bytes ∷ xs) (lax_tags_more tags t)
lax_tags_more (Macsec m ∷ tags) t = lax_tags_more tags t

pub lax_ids_more : (tags : List LaxLinkExtSlice) (t : LaxLinkExtSlice)
    → lax_vlan_ids_of (tags ++ t ∷ []) ≡ lax_vlan_ids_of tags ++ lax_vlan_ids_of (t ∷ [])
lax_ids_more [] t = refl
lax_ids_more (Vlan bytes ∷ tags) t = ap (λ (xs : List ℕ). vlan_id_of bytes ∷ xs) (lax_ids_more tags t)
lax_ids_more (Macsec m ∷ tags) t = lax_ids_more tags t

bound_last : (bound : Bool × LenSource) (tags : List LaxLinkExtSlice) (t : LaxLinkExtSlice)
    → bound_after bound (tags ++ t ∷ []) ≡ bound_by (bound_after bound tags) t
bound_last bound [] t = refl
bound_last bound (u ∷ tags) t = bound_last (bound_by bound u) tags t

pub bound_more : (bound : Bool × LenSource) (tags : List LaxLinkExtSlice) (i : ℕ) (t : LaxLinkExtSlice)
    → i < length tags → t ≡ get_or tags i t
    → bound_after bound (take (i + 1) tags) ≡ bound_by (bound_after bound (take i tags)) t
bound_more bound tags i t lt is =
    let next : take (i + 1) tags ≡ take i tags ++ t ∷ [] = grind (arith, take-suc) in
    ap (bound_after bound) next ∙ bound_last bound (take i tags) t
