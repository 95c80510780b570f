-- The headers of a packet, as values, agree with its slices.
use Rattle.std.proofs.Common.{arith, ◌≡◌, ℕ, List, Option, Some, None, Result, Ok, Err, refl, sym, ap, subst, []}
use Rattle.std.specs.Option.{option_map}
use Rattle.ep_base.specs.declared.err.len_error.LenError.{LenError}
use Rattle.ep_base.specs.declared.link.ether_type.EtherType.{EtherType}
use Rattle.ep_base.proofs.Prefixes.{err_ok, ok_same}
use Rattle.ep_ipslice.specs.IpSlice.{ip_packet_at}
use Rattle.ep_link.specs.Ethernet.{ethernet_len, payload_of}
use Rattle.ep_link.specs.Frame.{without_fcs}
use Rattle.ep_link.specs.declared.link.link_slice.LinkSlice.{LinkSlice}
use Rattle.ep_link.specs.declared.link.link_slice.LinkSlice.TheVariants as link
use Rattle.ep_packet.specs.PacketHeaders as values
use Rattle.ep_packet.specs.PacketHeaders.{Headers, ether_type_headers, ethernet_headers, headers_of, headers_tagged}
use Rattle.ep_packet.specs.PacketHeaders.{headers_with, ip_packet_headers, layers_after}
use Rattle.ep_packet.specs.PacketView.{ether_payload_in, ip_payload_of, link_payload, source_after}
use Rattle.ep_packet.specs.Payload.{Payload, Empty}
use Rattle.ep_packet.specs.SameHeaders.{AreHeadersOf, AreNetFields, IsWholeIn, after_tags, link_fields}
use Rattle.ep_packet.specs.SliceFault.{later, offset_by}
use Rattle.ep_packet.specs.Sliced as slices
use Rattle.ep_packet.specs.Sliced.{Layers, layers_in, packet_of, packet_tagged, packet_with, sliced_ether_type}
use Rattle.ep_packet.specs.Sliced.{sliced_ethernet, sliced_ip}
use Rattle.ep_packet.specs.Tags.{Tagged, most_tags, tags_in}
use Rattle.ep_packet.specs.declared.err.packet.slice_error.SliceError.{SliceError}
use Rattle.ep_packet.specs.declared.err.packet.slice_error.SliceError.TheVariants.{Len}
use Rattle.ep_packet.specs.declared.net.net_headers.NetHeaders.{NetHeaders}
use Rattle.ep_packet.specs.declared.sliced_packet.SlicedPacket.{SlicedPacket}
use Rattle.ep_tag.specs.Ether.{EtherPayload}
use Rattle.ep_tag.specs.declared.link.link_ext_slice.LinkExtSlice.{LinkExtSlice}
use Rattle.ep_packet.proofs.HeadersOfLayers.{PacketLaws, ip_same, layers_same, returned}
use Rattle.ep_packet.proofs.HeadersOfTags.{last_is}

-- what is named, with what bounds it after these tags
abbrev bounded_after : List LinkExtSlice → EtherPayload → EtherPayload
bounded_after tags p = record p { len_source = source_after tags }

after_same : PacketLaws → (tags : List LinkExtSlice) (last : Option EtherPayload)
    (headers : Option NetHeaders) (layers : Layers) → layers_in last ≡ Ok layers
    → AreNetFields layers.net headers →
    IsWholeIn (ip_payload_of layers.net) layers.transport
    → layers_after tags last
    ≡ Ok (returned (after_tags tags (option_map (bounded_after tags) last)) headers layers)
after_same laws tags None headers layers is are whole = grind arith
after_same laws tags (Some p) headers layers is are whole =
    layers_same laws p (bounded_after tags p) headers layers refl refl is are whole

-- all together
gathered : (link : Option LinkSlice) (tags : List LinkExtSlice) (layers : Layers)
    (packet : SlicedPacket) (h : Headers) (below : Payload) → packet_of link tags layers ≡ packet →
    after_tags tags (ether_payload_in packet) ≡ below → AreHeadersOf packet h
    → headers_of (link_fields link) tags (returned below h.net layers) ≡ h
gathered link tags layers packet h below same payload are = grind arith

layers_gathered : PacketLaws
    → (link : Option LinkSlice) (p : EtherPayload) (g : Tagged) (r : Result Layers SliceError)
    (packet : SlicedPacket) (h : Headers) → link_payload link ≡ Some p →
    tags_in most_tags p ≡ Ok g → layers_in g.last ≡ r
    → packet_with link g.tags (later g.len r) ≡ Ok packet → AreHeadersOf packet h →
    headers_with (link_fields link) g.tags (later g.len (layers_after g.tags g.last)) ≡ Ok h
layers_gathered laws link p g (Ok layers) packet h linked read at is are =
    let same : packet_of link g.tags layers ≡ packet =
    ok_same {E = SliceError} (packet_of link g.tags layers) packet is in
    let below : Payload = after_tags g.tags (option_map (bounded_after g.tags) g.last) in
    let named : after_tags g.tags (ether_payload_in packet) ≡ below =
    grind (arith, last_is) in
    let fields : AreNetFields layers.net h.net =
    grind arith in
    let whole : IsWholeIn (ip_payload_of layers.net) layers.transport =
    subst (λ (x : SlicedPacket). IsWholeIn (ip_payload_of x.net) x.transport)
    (sym same) are.datagram in
    grind (arith, after_same, gathered)
layers_gathered laws link p g (Err e) packet h linked read at is are = grind arith

tags_gathered : PacketLaws → (link : Option LinkSlice) (p : EtherPayload)
    (r : Result Tagged SliceError) (packet : SlicedPacket) (h : Headers)
    → link_payload link ≡ Some p → tags_in most_tags p ≡ r →
    packet_tagged link r ≡ Ok packet → AreHeadersOf packet h
    → headers_tagged (link_fields link) r ≡ Ok h
tags_gathered laws link p r packet h linked read is are = grind (arith, layers_gathered, err_ok)

-- after a link header
after_link : PacketLaws → (link : LinkSlice) (p : EtherPayload) (packet : SlicedPacket)
    (h : Headers) → link_payload (Some link) ≡ Some p → slices.packet_after link p ≡ Ok packet
    → AreHeadersOf packet h →
    values.headers_after (link_fields (Some link)) p ≡ Ok h
after_link laws link p packet h linked is are = grind (arith, tags_gathered)

earlier : {A : Type 0} (n : ℕ) (r : Result A SliceError) (x : A) → later n r ≡ Ok x → r ≡ Ok x
earlier n (Ok y) x is = is
earlier n (Err e) x is = absurd (err_ok (offset_by n e) x is)

frame_same : PacketLaws → (r : Result (List ℕ) LenError) (packet : SlicedPacket) (h : Headers)
    → slices.in_frame r ≡ Ok packet → AreHeadersOf packet h → values.in_frame r ≡ Ok h
frame_same laws (Ok frame) packet h is are =
    ap (later ethernet_len)
    (after_link laws (link.Ethernet2 (without_fcs frame)) (payload_of frame) packet h refl
    (earlier ethernet_len (slices.packet_after (link.Ethernet2 (without_fcs frame)) (payload_of frame))
    packet is) are)
frame_same laws (Err e) packet h is are = absurd (err_ok (Len e) packet is)

-- in an Ethernet II frame
pub ethernet_same : PacketLaws → (bytes : List ℕ) (packet : SlicedPacket) (h : Headers)
    → sliced_ethernet bytes ≡ Ok packet → AreHeadersOf packet h → ethernet_headers bytes ≡ Ok h
ethernet_same laws bytes packet h is are = grind (arith, frame_same)

-- after an ether type
pub ether_type_same : PacketLaws
    → (t : EtherType) (bytes : List ℕ) (packet : SlicedPacket) (h : Headers)
    → sliced_ether_type t bytes ≡ Ok packet → AreHeadersOf packet h
    → ether_type_headers t bytes ≡ Ok h
ether_type_same laws t bytes packet h is are = grind (arith, after_link)

ip_gathered : PacketLaws → (bytes : List ℕ) (r : Result Layers SliceError) (packet : SlicedPacket)
    (h : Headers) → slices.ip_layers (ip_packet_at bytes) ≡ r → packet_with None [] r ≡ Ok packet
    → AreHeadersOf packet h →
    ip_packet_headers bytes ≡ Ok h
ip_gathered laws bytes (Ok layers) packet h at is are =
    let same : packet_of None [] layers ≡ packet =
    ok_same {E = SliceError} (packet_of None [] layers) packet is in
    let named : after_tags [] (ether_payload_in packet) ≡ Empty =
    cc same in
    let fields : AreNetFields layers.net h.net =
    grind arith in
    let whole : IsWholeIn (ip_payload_of layers.net) layers.transport =
    subst (λ (x : SlicedPacket). IsWholeIn (ip_payload_of x.net) x.transport)
    (sym same) are.datagram in
    grind (arith, ip_same, gathered)
ip_gathered laws bytes (Err e) packet h at is are = absurd (err_ok e packet is)

-- in an IP packet
pub ip_packet_same : PacketLaws → (bytes : List ℕ) (packet : SlicedPacket) (h : Headers)
    → sliced_ip bytes ≡ Ok packet → AreHeadersOf packet h → ip_packet_headers bytes ≡ Ok h
ip_packet_same laws bytes packet h is are = grind (arith, ip_gathered)
