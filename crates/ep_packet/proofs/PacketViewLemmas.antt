-- Views of the tags of a packet, tag by tag.
use Rattle.std.proofs.Common.{arith, ◌≡◌, ◌∙◌, ℕ, ◌||◌, Bool, true, false, List, ◌∷◌, ◌++◌, refl, ap, []}
use Rattle.ep_packet.specs.PacketView.{any_has_short_len, has_short_len, vlan_tags}
use Rattle.ep_packet.specs.Tags.{vlan_ids_of}
use Rattle.ep_tag.specs.Vlan.{vlan_id_of}
use Rattle.ep_tag.specs.declared.link.link_ext_slice.LinkExtSlice.{LinkExtSlice}
use Rattle.ep_tag.specs.declared.link.link_ext_slice.LinkExtSlice.TheVariants.{Vlan, Macsec}

or_nothing : (a : Bool) → (a || false) ≡ a
or_nothing a = grind arith

or_true : (a : Bool) → (a || true) ≡ true
or_true a = grind arith

or_false : (a b : Bool) → a ≡ false → b ≡ false → (a || b) ≡ false
or_false a b x y = grind arith

-- one tag more
any_more : (tags : List LinkExtSlice) (t : LinkExtSlice)
    → any_has_short_len (tags ++ t ∷ []) ≡ (any_has_short_len tags || has_short_len t)
any_more [] t = or_nothing (has_short_len t)
any_more (u ∷ tags) t = grind (arith, any_more tags t)

pub uncut_more : (tags : List LinkExtSlice) (t : LinkExtSlice) → any_has_short_len tags ≡ false
    → has_short_len t ≡ false → any_has_short_len (tags ++ t ∷ []) ≡ false
uncut_more tags t none here = any_more tags t ∙ or_false (any_has_short_len tags) (has_short_len t) none here

-- the first tags, and all
pub cut_found : (prefix back : List LinkExtSlice) (t : LinkExtSlice) → has_short_len t ≡ true
    → any_has_short_len (prefix ++ t ∷ back) ≡ true
cut_found [] back t here = ap (λ (b : Bool). b || any_has_short_len back) here
cut_found (u ∷ prefix) back t here = grind (arith, cut_found prefix back t here)

pub tags_more : (tags : List LinkExtSlice) (t : LinkExtSlice)
    → vlan_tags (tags ++ t ∷ []) ≡ vlan_tags tags ++ vlan_tags (t ∷ [])
tags_more [] t = refl
tags_more (Vlan bytes ∷ tags) t = ap (λ (xs : List (List ℕ)). bytes ∷ xs) (tags_more tags t)
tags_more (Macsec m ∷ tags) t = tags_more tags t

pub ids_more : (tags : List LinkExtSlice) (t : LinkExtSlice)
    → vlan_ids_of (tags ++ t ∷ []) ≡ vlan_ids_of tags ++ vlan_ids_of (t ∷ [])
ids_more [] t = refl
ids_more (Vlan bytes ∷ tags) t = ap (λ (xs : List ℕ). vlan_id_of bytes ∷ xs) (ids_more tags t)
ids_more (Macsec m ∷ tags) t = ids_more tags t
