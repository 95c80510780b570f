-- A whole packet as far as it is there.
use Rattle.std.proofs.Common.{◌≡◌, ◌∙◌, ap, refl, ℕ, Bool, false, List, [], ◌∷◌, map, Option, Some, None, Result, Ok, arith}
use Rattle.std.proofs.lemmas.List.{length-map}
use Rattle.std.proofs.lemmas.Option.{slice_get-map}
use Rattle.std.specs.List.{slice_get}
use Rattle.std.specs.Option.{option_map}
use Rattle.etherparse.specs.base.declared.len_source.LenSource.{LenSource}
use Rattle.etherparse.specs.base.declared.len_source.LenSource.TheVariants.{Slice}
use Rattle.etherparse.specs.packet.LaxNetSlice.{lax_ip_payload_of}
use Rattle.etherparse.specs.packet.LaxView.{bound_after, bound_by, lax_ether_payload_in}
use Rattle.etherparse.specs.packet.LaxWhole.{whole_net, whole_packet, whole_tag}
use Rattle.etherparse.specs.packet.PacketView.{ether_payload_in}
use Rattle.etherparse.specs.packet.declared.err.packet.slice_error.SliceError.{SliceError}
use Rattle.etherparse.specs.packet.declared.lax_sliced_packet.LaxSlicedPacket.{LaxSlicedPacket}
use Rattle.etherparse.specs.packet.declared.net.net_slice.NetSlice.{NetSlice}
use Rattle.etherparse.specs.packet.declared.net.net_slice.NetSlice.TheVariants as net
use Rattle.etherparse.specs.packet.declared.sliced_packet.SlicedPacket.{SlicedPacket}
use Rattle.etherparse.specs.tag.Ether.{EtherPayload, complete_ether, present_ether}
use Rattle.etherparse.specs.tag.declared.link.link_ext_slice.LinkExtSlice.{LinkExtSlice}
use Rattle.etherparse_structs.specs.LaxPacket.{incomplete_of, is_incomplete, lax_layers_struct, lax_net_offset, lax_packet_struct}
use Rattle.etherparse_structs.specs.LaxPacket.{lax_reported}
use Rattle.etherparse_structs.specs.Link.{tags_end, tags_struct, whole_tag_in}
use Rattle.etherparse_structs.specs.Net.{net_fields}
use Rattle.etherparse_structs.specs.Packet.{ether_part, layers_struct, net_offset, packet_struct}
use Rattle.etherparse_structs.specs.Refusal.{no_refusal}
use Rattle.etherparse_structs.specs.declared.lax_packet.EpLaxPacket.{EpLaxPacket}

-- what the last ether type names, of which nothing is missing
abbrev IsNamed : SlicedPacket → Type 0
IsNamed packet = lax_ether_payload_in (whole_packet packet)
    ≡ option_map complete_ether (ether_payload_in packet)

same_tags : (place : ℕ) (tags : List LinkExtSlice)
    → tags_struct place (slice_get (map whole_tag tags)) ≡ tags_struct place (whole_tag_in tags)
same_tags place tags =
    rw (slice_get-map whole_tag tags 0, slice_get-map whole_tag tags 1, slice_get-map whole_tag tags 2)

same_end : (place : ℕ) (tags : List LinkExtSlice)
    → tags_end place (slice_get (map whole_tag tags)) ≡ tags_end place (whole_tag_in tags)
same_end place tags =
    rw (slice_get-map whole_tag tags 0, slice_get-map whole_tag tags 1, slice_get-map whole_tag tags 2)

same_part : (place : ℕ) (o : Option EtherPayload)
    → ether_part place (option_map present_ether (option_map complete_ether o)) ≡ ether_part place o
same_part place None = refl
same_part place (Some p) = refl

none_cut : (source : LenSource) (t : LinkExtSlice)
    → (bound_by (false, source) (whole_tag t)).0 ≡ false
none_cut source t = grind arith

nothing_after : (source : LenSource) (tags : List LinkExtSlice)
    → (bound_after (false, source) (map whole_tag tags)).0 ≡ false
nothing_after source [] = refl
nothing_after source (t ∷ tags) =
    let source_then : LenSource = (bound_by (false, source) (whole_tag t)).1 in
    ap (λ (is_cut : Bool). (bound_after (is_cut, source_then) (map whole_tag tags)).0) (none_cut source t)
    ∙ nothing_after source_then tags

nothing_missing : (packet : Option NetSlice) (tags : List LinkExtSlice)
    → incomplete_of (lax_ip_payload_of (option_map whole_net packet)) (map whole_tag tags) ≡ false
nothing_missing None tags = nothing_after Slice tags
nothing_missing (Some (net.Ipv4 packet)) tags = refl
nothing_missing (Some (net.Ipv6 packet)) tags = refl
nothing_missing (Some (net.Arp bytes)) tags = nothing_after Slice tags

-- the struct of a whole packet
abbrev pub whole_struct : ℕ → SlicedPacket → EpLaxPacket
whole_struct link_len packet = record {
  packet = packet_struct link_len packet;
  stop = no_refusal;
  stop_layer = 0;
  incomplete = false;
}

whole_layers : (link_len : ℕ) (packet : SlicedPacket) → IsNamed packet
    → lax_layers_struct link_len (whole_packet packet) ≡ packet_struct link_len packet
whole_layers link_len packet named =
    let tags = packet.link_exts.items in
    let ends = same_end link_len tags in
    let part : ether_part (lax_net_offset link_len (whole_packet packet))
    (option_map present_ether (lax_ether_payload_in (whole_packet packet)))
    ≡ ether_part (net_offset link_len packet) (ether_payload_in packet) =
    (λ i. ether_part (ends i) (option_map present_ether (named i)))
    ∙ same_part (net_offset link_len packet) (ether_payload_in packet) in
    λ i. layers_struct packet.link (length-map tags whole_tag i) (same_tags link_len tags i) (part i)
    (net_fields (ends i) (option_map whole_net packet.net)) packet.transport

whole_is : (link_len : ℕ) (packet : SlicedPacket) → IsNamed packet
    → lax_packet_struct link_len (whole_packet packet) ≡ whole_struct link_len packet
whole_is link_len packet named =
    let missing : is_incomplete (whole_packet packet) ≡ false =
    nothing_missing packet.net packet.link_exts.items in
    let layers = whole_layers link_len packet named in
    λ i. record { packet = layers i; stop = no_refusal; stop_layer = 0; incomplete = missing i }

pub whole_reported : {E : Type 0} (link_len : ℕ) (refusal : E → SliceError)
    (r : Result LaxSlicedPacket E) (packet : SlicedPacket) → IsNamed packet
    → r ≡ Ok (whole_packet packet)
    → lax_reported link_len refusal r ≡ whole_struct link_len packet
whole_reported link_len refusal r packet named is =
    ap (lax_reported link_len refusal) is ∙ whole_is link_len packet named
