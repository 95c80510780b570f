-- How long headers are at most, and where the tags of a packet end.
use Rattle.std.proofs.Common.{◌≡◌, ℕ, ◌+◌, ◌≤◌, List, [], ◌∷◌, length, arith, refl}
use Rattle.std.specs.List.{slice_get}
use Rattle.etherparse.specs.icmp.Icmpv4.{header_len}
use Rattle.etherparse.specs.icmp.declared.transport.icmpv4_type.Icmpv4Type.{Icmpv4Type}
use Rattle.etherparse.specs.ip.Ipv4.{IsIpv4Header}
use Rattle.etherparse.specs.packet.LaxWhole.{whole_tag}
use Rattle.etherparse.specs.packet.Parts.{tags_len}
use Rattle.etherparse.specs.tag.LinkExt.{lax_tag_len, tag_len}
use Rattle.etherparse.specs.tag.declared.link.lax_link_ext_slice.LaxLinkExtSlice.{LaxLinkExtSlice}
use Rattle.etherparse.specs.tag.declared.link.link_ext_slice.LinkExtSlice.{LinkExtSlice}
use Rattle.etherparse.specs.tag.declared.link.link_ext_slice.LinkExtSlice.TheVariants as tag
use Rattle.etherparse_structs.specs.LaxParts.{lax_tags_len}
use Rattle.etherparse_structs.specs.Link.{tags_end, whole_tag_in}

pub ipv4_header_most : (header : List ℕ) → IsIpv4Header header → length header ≤ 60
ipv4_header_most header is = omega (arith, is.whole)

pub icmpv4_header_most : (kind : Icmpv4Type) → header_len kind ≤ 20
icmpv4_header_most kind = grind arith

whole_tag_len : (t : LinkExtSlice) → lax_tag_len (whole_tag t) ≡ tag_len t
whole_tag_len (tag.Vlan bytes) = refl
whole_tag_len (tag.Macsec macsec) = refl

-- after the tags' lengths, added one by one
pub tags_end_is : (place : ℕ) (tags : List LinkExtSlice) → length tags ≤ 3
    → tags_end place (whole_tag_in tags) ≡ place + tags_len tags
tags_end_is place [] few = omega arith
tags_end_is place (a ∷ []) few = omega (arith, whole_tag_len a)
tags_end_is place (a ∷ b ∷ []) few = omega (arith, whole_tag_len a, whole_tag_len b)
tags_end_is place (a ∷ b ∷ c ∷ []) few =
    omega (arith, whole_tag_len a, whole_tag_len b, whole_tag_len c)
tags_end_is place (a ∷ b ∷ c ∷ d ∷ tags) few = absurd (omega (arith, few))

pub lax_tags_end_is : (place : ℕ) (tags : List LaxLinkExtSlice) → length tags ≤ 3
    → tags_end place (slice_get tags) ≡ place + lax_tags_len tags
lax_tags_end_is place [] few = omega arith
lax_tags_end_is place (a ∷ []) few = omega arith
lax_tags_end_is place (a ∷ b ∷ []) few = omega arith
lax_tags_end_is place (a ∷ b ∷ c ∷ []) few = omega arith
lax_tags_end_is place (a ∷ b ∷ c ∷ d ∷ tags) few = absurd (omega (arith, few))
