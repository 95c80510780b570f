-- The headers of packets of which the first bytes are there.
use Rattle.std.proofs.Common.{◌≡◌, ◌∙◌, ap, refl, ℕ, ◌-◌, ◌≤◌, List, [], ◌∷◌, map, take, drop, Some, arith}
use Rattle.std.specs.Prelude.{slice_range}
use Rattle.std.proofs.lemmas.List.{get_or-take, take-take}
use Rattle.ep_link.specs.Link.{fields_of as link_fields_of}
use Rattle.ep_link.specs.declared.link.link_slice.LinkSlice.{LinkSlice}
use Rattle.ep_link.specs.declared.link.link_slice.LinkSlice.TheVariants as link
use Rattle.ep_packet.specs.CutPacket.{cut_link, cut_tags, cut_transport, link_len, transport_len}
use Rattle.ep_packet.specs.Parts.{tags_len, transport_bytes}
use Rattle.ep_packet.specs.declared.transport.transport_slice.TransportSlice.{TransportSlice}
use Rattle.ep_packet.specs.declared.transport.transport_slice.TransportSlice.TheVariants as message
use Rattle.ep_base.proofs.FirstBytes.{drop_in}
use Rattle.ep_tag.specs.CutTags.{cut_tag}
use Rattle.ep_tag.specs.LinkExt.{fields_of, lax_fields_of, tag_len}
use Rattle.ep_tag.specs.declared.link.link_ext_slice.LinkExtSlice.{LinkExtSlice}

-- bytes of the first n
range_in : (a b n : ℕ) (bytes : List ℕ) → a ≤ b → b ≤ n → slice_range (take n bytes) a b ≡ slice_range bytes a b
range_in a b n bytes order fits =
    ap (take (b - a)) (drop_in a n bytes (omega (arith, order, fits)))
    ∙ take-take (b - a) (n - a) (drop a bytes) (omega (arith, order, fits))

pub link_cut : (n : ℕ) (header : LinkSlice) → link_len (Some header) ≤ n
    → link_fields_of (cut_link n header) ≡ link_fields_of header
link_cut n (link.Ethernet2 frame) fits =
    let destination = range_in 0 6 n frame.bytes (omega arith) (omega (arith, fits)) in
    let source = range_in 6 12 n frame.bytes (omega arith) (omega (arith, fits)) in
    let high = get_or-take n frame.bytes 12 0 (omega (arith, fits)) in
    let low = get_or-take n frame.bytes 13 0 (omega (arith, fits)) in
    rw (destination, source, high, low) refl
link_cut n (link.LinuxSll bytes) fits =
    let b0 = get_or-take n bytes 0 0 (omega (arith, fits)) in
    let b1 = get_or-take n bytes 1 0 (omega (arith, fits)) in
    let b2 = get_or-take n bytes 2 0 (omega (arith, fits)) in
    let b3 = get_or-take n bytes 3 0 (omega (arith, fits)) in
    let b4 = get_or-take n bytes 4 0 (omega (arith, fits)) in
    let b5 = get_or-take n bytes 5 0 (omega (arith, fits)) in
    let address = range_in 6 14 n bytes (omega arith) (omega (arith, fits)) in
    let b14 = get_or-take n bytes 14 0 (omega (arith, fits)) in
    let b15 = get_or-take n bytes 15 0 (omega (arith, fits)) in
    rw (b0, b1, b2, b3, b4, b5, address, b14, b15) refl
link_cut n (link.EtherPayload p) fits = refl
link_cut n (link.LinuxSllPayload p) fits = refl

-- that the fields of a tag stand in its bytes
abbrev pub FieldsAreCut : Type 0
FieldsAreCut = (n : ℕ) (t : LinkExtSlice) → tag_len t ≤ n → lax_fields_of (cut_tag n t) ≡ fields_of t

pub tags_cut : FieldsAreCut → (n : ℕ) (tags : List LinkExtSlice) → tags_len tags ≤ n
    → map lax_fields_of (cut_tags n tags) ≡ map fields_of tags
tags_cut law n [] fits = refl
tags_cut law n (t ∷ tags) fits =
    let first = law n t (omega (arith, fits)) in
    let others = tags_cut law (n - tag_len t) tags (omega (arith, fits)) in
    λ i. first i ∷ others i

pub transport_cut : (n : ℕ) (m : TransportSlice) → transport_len (Some m) ≤ n →
    take (transport_len (Some m)) (transport_bytes (cut_transport n m))
    ≡ take (transport_len (Some m)) (transport_bytes m)
transport_cut n (message.Icmpv4 m) fits = take-take (transport_len (Some (message.Icmpv4 m))) n m fits
transport_cut n (message.Tcp m) fits = take-take (transport_len (Some (message.Tcp m))) n m fits
transport_cut n (message.Udp m) fits = take-take 8 n m fits
transport_cut n (message.Icmpv6 m) fits = take-take 8 n m fits
