-- What the last ether type names in a whole packet.
use Rattle.std.proofs.Common.{◌≡◌, ◌∙◌, ap, refl, ℕ, ◌-◌, ◌||◌, Bool, true, false, List, [], ◌∷◌, length, map, Option, Some}
use Rattle.std.proofs.Common.{None, arith}
use Rattle.std.proofs.lemmas.List.{length-map}
use Rattle.std.proofs.lemmas.Option.{slice_get-map}
use Rattle.std.specs.Option.{option_map}
use Rattle.std.specs.Prelude.{if◌then◌else◌, slice_get}
use Rattle.ep_base.specs.declared.len_source.LenSource.{LenSource}
use Rattle.ep_base.specs.declared.len_source.LenSource.TheVariants.{MacsecShortLength, Slice}
use Rattle.ep_link.specs.declared.link.link_slice.LinkSlice.{LinkSlice}
use Rattle.ep_packet.specs.LaxView.{bound_after, bound_by, bounded, lax_ether_payload_in, lax_named_by}
use Rattle.ep_packet.specs.LaxWhole.{whole_packet, whole_tag}
use Rattle.ep_packet.specs.PacketView.{any_has_short_len, ether_payload_in, has_short_len, last_payload, named_by}
use Rattle.ep_packet.specs.PacketView.{source_after}
use Rattle.ep_packet.specs.declared.sliced_packet.SlicedPacket.{SlicedPacket}
use Rattle.ep_packet.proofs.LaxWholeLemmas.{payload_same}
use Rattle.ep_tag.specs.Ether.{EtherPayload, complete_ether}
use Rattle.ep_tag.specs.declared.link.link_ext_slice.LinkExtSlice.{LinkExtSlice}

bound_step : (source : LenSource) (t : LinkExtSlice)
    → bound_by (false, source) (whole_tag t) ≡ (false, if has_short_len t then MacsecShortLength else source)
bound_step source t = grind arith

either : (here later : Bool) (source : LenSource)
    → (if later then MacsecShortLength else (if here then MacsecShortLength else source))
    ≡ (if here || later then MacsecShortLength else source)
either true true source = refl
either true false source = refl
either false true source = refl
either false false source = refl

pub bound_whole : (source : LenSource) (tags : List LinkExtSlice)
    → bound_after (false, source) (map whole_tag tags)
    ≡ (false, if any_has_short_len tags then MacsecShortLength else source)
bound_whole source [] = refl
bound_whole source (t ∷ tags) =
    ap (λ (b : Bool × LenSource). bound_after b (map whole_tag tags)) (bound_step source t)
    ∙ bound_whole (if has_short_len t then MacsecShortLength else source) tags
    ∙ ap (λ (s : LenSource). (false, s)) (either (has_short_len t) (any_has_short_len tags) source)

named_whole : (header : Option LinkSlice) (t : Option LinkExtSlice)
    → lax_named_by header (option_map whole_tag t) ≡ option_map complete_ether (named_by header t)
named_whole header None = refl
named_whole header (Some t) = payload_same t

pub last_whole : (tags : List LinkExtSlice)
    → slice_get (map whole_tag tags) (length (map whole_tag tags) - 1)
    ≡ option_map whole_tag (slice_get tags (length tags - 1))
last_whole tags = ap (λ (n : ℕ). slice_get (map whole_tag tags) (n - 1)) (length-map tags whole_tag)
    ∙ slice_get-map whole_tag tags (length tags - 1)

bounded_whole : (source : LenSource) (o : Option EtherPayload)
    → option_map (bounded (false, source)) (option_map complete_ether o)
    ≡ option_map complete_ether (option_map (λ (p : EtherPayload). record p { len_source = source }) o)
bounded_whole source None = refl
bounded_whole source (Some p) = refl

pub payload_whole : (packet : SlicedPacket)
    → lax_ether_payload_in (whole_packet packet) ≡ option_map complete_ether (ether_payload_in packet)
payload_whole packet =
    let tags : List LinkExtSlice = packet.link_exts.items in
    ap (λ (b : Bool × LenSource). option_map (bounded b)
    (lax_named_by packet.link (slice_get (map whole_tag tags) (length (map whole_tag tags) - 1))))
    (bound_whole Slice tags)
    ∙ ap (λ (t : Option _). option_map (bounded (false, source_after tags)) (lax_named_by packet.link t))
    (last_whole tags)
    ∙ ap (option_map (bounded (false, source_after tags)))
    (named_whole packet.link (slice_get tags (length tags - 1)))
    ∙ bounded_whole (source_after tags) (last_payload packet.link tags)
