-- The tags that are read are those that are there.
use Rattle.std.proofs.lemmas.Bool.Decides.{nat_tests}
use Rattle.std.proofs.Common.{◌≡◌, ℕ, zero, suc, ◌+◌, ◌<◌, ◌≤◌, ◌||◌, Bool, false, cond, List, [], ◌∷◌, length, Option}
use Rattle.std.proofs.Common.{Some, None, Result, Ok, Err, IfSome, MatchOption, arith, refl, sym, ap, subst, ◌∙◌}
use Rattle.ep_base.specs.declared.err.layer.Layer.TheVariants.{VlanHeader}
use Rattle.ep_packet.specs.IsTagged.{AreTags, IsTag, IsTagged}
use Rattle.ep_packet.specs.Parts.{tags_len}
use Rattle.ep_packet.specs.Tags.{Tagged, is_macsec_type, names_tag, tag_at, tags_in}
use Rattle.ep_packet.specs.declared.err.packet.slice_error.SliceError.{SliceError}
use Rattle.ep_packet.proofs.TagsLemmas.{from_tag, macsec_tag, read_further, tags_turn, vlan_tag, with_tag, without_tags}
use Rattle.ep_tag.specs.Ether.{EtherPayload}
use Rattle.ep_tag.specs.Prefix.{whole_at}
use Rattle.ep_tag.specs.LinkExt.{payload_after, tag_len}
use Rattle.ep_tag.specs.MacsecPayload.{IsMacsec, Macsec, macsec_at}
use Rattle.ep_tag.specs.Vlan.{is_vlan_type, vlan_len}
use Rattle.ep_tag.specs.declared.link.link_ext_slice.LinkExtSlice.{LinkExtSlice}
use Rattle.ep_tag.specs.declared.link.link_ext_slice.LinkExtSlice.TheVariants as tag

-- the law of MACsec headers and their payloads, as it is called
pub record MacsecIsRead : Type 0 where
  pub found : (bytes : List ℕ) (macsec : Macsec) → macsec_at bytes ≡ Ok macsec
      → IsMacsec bytes macsec
  pub only : (bytes : List ℕ) (macsec : Macsec) → IsMacsec bytes macsec
      → macsec_at bytes ≡ Ok macsec

-- what is read of a payload: a tag that is there, or none where none is named
abbrev pub IsRead : EtherPayload → Option LinkExtSlice → Type 0
IsRead p None = names_tag p.ether_type ≡ false
IsRead p (Some t) = IsTag p t

found_by : MacsecIsRead → (vlan sec : Bool) (p : EtherPayload) (o : Option LinkExtSlice)
    → is_vlan_type p.ether_type ≡ vlan → is_macsec_type p.ether_type ≡ sec →
    cond vlan (vlan_tag (whole_at VlanHeader vlan_len p.payload))
    (cond sec (macsec_tag (macsec_at p.payload)) (Ok None)) ≡ Ok o → IsRead p o
found_by law vlan sec p o v s e = grind arith

pub tag_read : MacsecIsRead → (p : EtherPayload) (o : Option LinkExtSlice)
    → tag_at p ≡ Ok o → IsRead p o
tag_read law p o e = grind (arith, nat_tests)

pub tag_only : MacsecIsRead → (p : EtherPayload) (t : LinkExtSlice) → IsTag p t → tag_at p ≡ Ok (Some t)
tag_only law p (tag.Vlan bytes) is = grind arith
tag_only law p (tag.Macsec m) is = rw (is.0, is.1) (ap macsec_tag (law.only p.payload m is.2))

neither : (a b : Bool) → a || b ≡ false → (a ≡ false) × (b ≡ false)
neither a b h = grind arith

-- after a tag, an Ok is that of what was read there
ok_after : (t : LinkExtSlice) (r : Result Tagged SliceError) (all : Tagged) → with_tag t r ≡ Ok
    all →
    (more : Tagged) × (r ≡ Ok more)
    × (all ≡ record { tags = t ∷ more.tags; len = tag_len t + more.len; last = more.last })
ok_after t r all e = grind arith

-- what is read is there
pub record Stands (n : ℕ) (p : EtherPayload) (t : Tagged) : Type 0 where
  pub tagged : IsTagged n p t.tags t.last
  pub len : t.len ≡ tags_len t.tags

abbrev pub Sound : ℕ → Type 0
Sound n = (p : EtherPayload) (t : Tagged) → tags_in n p ≡ Ok t → Stands n p t

further_found : (n : ℕ) (o : Option EtherPayload) (more : Tagged) → Sound n
    → read_further (tags_in n) o ≡ Ok more →
    MatchOption o ((more.tags ≡ []) × (more.last ≡ None) × (more.len ≡ 0))
    (λ next. Stands n next more)
further_found n None more sound e = grind arith
further_found n (Some next) more sound e = sound next more e

stands_full : (p : EtherPayload) → Stands 0 p (without_tags (Some p))
stands_full p =
    record {
      tagged = record { few = omega arith; are = refl; ends = λ less. absurd (omega arith) };
      len = refl;
    }

tagged_after : (n : ℕ) (p : EtherPayload) (t : LinkExtSlice) (o : Option EtherPayload)
    (more : Tagged) → IsTag p t → payload_after t ≡ o →
    MatchOption o ((more.tags ≡ []) × (more.last ≡ None) × (more.len ≡ 0))
    (λ next. Stands n next more) →
    Stands (suc n) p (record { tags = t ∷ more.tags; len = tag_len t + more.len; last = more.last })
tagged_after n p t o more is named at = grind arith

from_tag_found : MacsecIsRead
    → (n : ℕ) (p : EtherPayload) (r : Result (Option LinkExtSlice) SliceError) (t : Tagged)
    → Sound n → tag_at p ≡ r → from_tag (tags_in n) p r ≡ Ok t → Stands (suc n) p t
from_tag_found law n p (Err x) t sound read e = cc
from_tag_found law n p (Ok None) t sound read e = grind arith
from_tag_found law n p (Ok (Some g)) t sound read e =
    let found = ok_after g (read_further (tags_in n) (payload_after g)) t e in
    let stands = tagged_after n p g (payload_after g) found.0 (tag_read law p (Some g) read) refl
    (further_found n (payload_after g) found.0 sound found.1) in
    subst (Stands (suc n) p) (sym found.2) stands

pub tags_found : MacsecIsRead → (n : ℕ) → Sound n
unfolding tags_in
tags_found law zero p t e = let same : without_tags (Some p) ≡ t = cc in
    subst (Stands 0 p) same (stands_full p)
tags_found law (suc n) p t e = from_tag_found law n p (tag_at p) t (tags_found law n) refl (sym (tags_turn n p) ∙ e)

-- what is there is read
untagged_from : (n : ℕ) (p : EtherPayload) (last : Option EtherPayload) → IsTagged (suc n) p [] last
    → from_tag (tags_in n) p (tag_at p) ≡ Ok (record { tags = []; len = 0; last = last })
untagged_from n p last is = grind arith

untagged_only : (n : ℕ) (p : EtherPayload) (last : Option EtherPayload) → IsTagged n p [] last
    → tags_in n p ≡ Ok (record { tags = []; len = 0; last = last })
unfolding tags_in
untagged_only zero p last is = grind arith
untagged_only (suc n) p last is = tags_turn n p ∙ untagged_from n p last is

abbrev pub Complete : ℕ → List LinkExtSlice → Option EtherPayload → Type 0
Complete n tags last = (p : EtherPayload) → IsTagged n p tags last
    → tags_in n p ≡ Ok (record { tags = tags; len = tags_len tags; last = last })

further_only : (n : ℕ) (o : Option EtherPayload) (tags : List LinkExtSlice)
    (last : Option EtherPayload) → Complete n tags last → length tags ≤ n →
    (length tags < n → IfSome last (λ q. names_tag q.ether_type ≡ false))
    → MatchOption o ((tags ≡ []) × (last ≡ None)) (λ next. AreTags next tags last) →
    read_further (tags_in n) o ≡ Ok (record { tags = tags; len = tags_len tags; last = last })
further_only n o tags last complete few ends are = grind arith

pub tags_only : MacsecIsRead → (tags : List LinkExtSlice) (n : ℕ) (last : Option EtherPayload)
    → Complete n tags last
unfolding tags_in
tags_only law [] n last p is = untagged_only n p last is
tags_only law (t ∷ tags) zero last p is = absurd (omega (arith, is.few))
tags_only law (t ∷ tags) (suc n) last p is =
    tags_turn n p ∙ ap (from_tag (tags_in n) p) (tag_only law p t is.are.0)
    ∙ ap (with_tag t) (further_only n (payload_after t) tags last (tags_only law tags n last)
    (omega (arith, is.few)) (λ less. is.ends (omega arith)) is.are.1)
