-- What the last of the tags names.
use Rattle.std.proofs.Common.{◌≡◌, ℕ, zero, suc, ◌+◌, ◌-◌, List, ◌∷◌, length, Option, Some, [], Result, Ok, Err, refl}
use Rattle.std.proofs.Common.{subst, sym, arith, ◌∙◌}
use Rattle.std.specs.List.{slice_get}
use Rattle.ep_base.proofs.Prefixes.{err_ok, ok_same}
use Rattle.ep_link.specs.declared.link.link_slice.LinkSlice.{LinkSlice}
use Rattle.ep_packet.specs.PacketView.{last_payload, link_payload}
use Rattle.ep_packet.specs.SliceFault.{offset_by}
use Rattle.ep_packet.specs.Tags.{Tagged, tag_at, tags_in}
use Rattle.ep_packet.specs.declared.err.packet.slice_error.SliceError.{SliceError}
use Rattle.ep_packet.proofs.TagsLemmas.{from_tag, read_further, tags_turn, with_tag, without_tags}
use Rattle.ep_tag.specs.Ether.{EtherPayload}
use Rattle.ep_tag.specs.LinkExt.{payload_after, tag_len}
use Rattle.ep_tag.specs.declared.link.link_ext_slice.LinkExtSlice.{LinkExtSlice}

abbrev last_or : LinkExtSlice → List LinkExtSlice → LinkExtSlice
last_or t [] = t
last_or t (u ∷ ts) = last_or u ts

get_last : (t : LinkExtSlice) (ts : List LinkExtSlice)
    → slice_get (t ∷ ts) (length ts) ≡ Some (last_or t ts)
get_last t [] = refl
get_last t (u ∷ ts) = get_last u ts

-- this is named after tags in a payload
abbrev IsLast : EtherPayload → List LinkExtSlice → Option EtherPayload → Type 0
IsLast p [] last = last ≡ Some p
IsLast p (t ∷ ts) last = last ≡ payload_after (last_or t ts)

last_more : (t : LinkExtSlice) (q : EtherPayload) (ts : List LinkExtSlice)
    (last : Option EtherPayload) → payload_after t ≡ Some q → IsLast q ts last
    → last ≡ payload_after (last_or t ts)
last_more t q ts last named is = grind arith

abbrev Reads : (EtherPayload → Result Tagged SliceError) → Type 0
Reads read = (p : EtherPayload) (g : Tagged) → read p ≡ Ok g → IsLast p g.tags g.last

last_after : (t : LinkExtSlice) (p q : EtherPayload) (r : Result Tagged SliceError) (g : Tagged)
    → payload_after t ≡ Some q → ((h : Tagged) → r ≡ Ok h → IsLast q h.tags h.last)
    → with_tag t r ≡ Ok g →
    IsLast p g.tags g.last
last_after t p q (Ok more) g named read is =
    subst (λ (h : Tagged). IsLast p h.tags h.last)
    (ok_same {E = SliceError}
    (record { tags = t ∷ more.tags; len = tag_len t + more.len; last = more.last }) g is)
    (last_more t q more.tags more.last named (read more refl))
last_after t p q (Err e) g named read is = absurd (err_ok (offset_by (tag_len t) e) g is)

last_further : (read : EtherPayload → Result Tagged SliceError) → Reads read
    → (t : LinkExtSlice) (p : EtherPayload) (o : Option EtherPayload) (g : Tagged)
    → payload_after t ≡ o → with_tag t (read_further read o) ≡ Ok g → IsLast p g.tags g.last
last_further read reads t p o g named is = grind (arith, ok_same, last_after)

last_from : (read : EtherPayload → Result Tagged SliceError) → Reads read
    → (p : EtherPayload) (r : Result (Option LinkExtSlice) SliceError) (g : Tagged)
    → from_tag read p r ≡ Ok g → IsLast p g.tags g.last
last_from read reads p r g is = grind (arith, err_ok, ok_same, last_further)

read_last : (n : ℕ) → Reads (tags_in n)
unfolding tags_in
read_last zero p g is = subst (λ (h : Tagged). IsLast p h.tags h.last)
    (ok_same {E = SliceError} (without_tags (Some p)) g is) refl
read_last (suc n) p g is = last_from (tags_in n) (read_last n) p (tag_at p) g (sym (tags_turn n p) ∙ is)

one_less : (n : ℕ) → suc n - 1 ≡ n
one_less n = omega arith

last_agrees : (header : Option LinkSlice) (p : EtherPayload) (tags : List LinkExtSlice)
    (last : Option EtherPayload) → link_payload header ≡ Some p → IsLast p tags last
    → last_payload header tags ≡ last
last_agrees header p tags last linked is = grind (arith, one_less, get_last)

-- what was read last is what the tags and the link header name last
pub last_is : (n : ℕ) (header : Option LinkSlice) (p : EtherPayload) (g : Tagged)
    → link_payload header ≡ Some p → tags_in n p ≡ Ok g → last_payload header g.tags ≡ g.last
last_is n header p g linked is = last_agrees header p g.tags g.last linked (read_last n p g is)
