-- Whole packets are packets as far as they are there.
use Rattle.std.proofs.Common.{◌≡◌, ◌∙◌, sym, ap, subst, refl, ℕ, zero, suc, ◌+◌, ◌==◌, Bool, true, false, List, [], ◌∷◌, length}
use Rattle.std.proofs.Common.{map, Option, Some, None, Result, Ok, Err, arith}
use Rattle.std.proofs.lemmas.Bool.Decides.{nat_tests}
use Rattle.std.specs.Prelude.{if◌then◌else◌}
use Rattle.std.specs.Option.{option_map}
use Rattle.std.specs.Result.{result_map_both}
use Rattle.ep_base.specs.declared.err.slice_error.SliceError.{SliceError as HeaderSliceError}
use Rattle.ep_base.specs.declared.err.layer.Layer.TheVariants.{Ethernet2Header}
use Rattle.ep_base.specs.declared.err.len_error.LenError.{LenError}
use Rattle.ep_base.specs.declared.link.ether_type.EtherType.{EtherType}
use Rattle.ep_ext.specs.Ipv4Exts.{auth_bytes}
use Rattle.ep_ipslice.specs.IpSlice.{ip_packet_at}
use Rattle.ep_ipslice.specs.Ipv4Packet.{ipv4_packet_at}
use Rattle.ep_ipslice.specs.Ipv6Packet.{ipv6_packet_at}
use Rattle.ep_ipslice.specs.LaxIp.{lax_ip_packet_at, whole_ip}
use Rattle.ep_ipslice.specs.LaxPackets.{lax_ipv4_packet_at, lax_ipv6_packet_at, whole_ipv4, whole_ipv6}
use Rattle.ep_ipslice.specs.Packet.{IpPayload, Ipv4Packet, Ipv6Packet, ipv4_payload}
use Rattle.ep_ipslice.specs.declared.err.ipv4.slice_error.SliceError.{SliceError as Ipv4Fault}
use Rattle.ep_ipslice.specs.declared.err.ipv6.slice_error.SliceError.{SliceError as Ipv6Fault}
use Rattle.ep_ipslice.specs.declared.err.ip.slice_error.SliceError.{SliceError as IpFault}
use Rattle.ep_ipslice.specs.declared.net.ip_slice.IpSlice.{IpSlice}
use Rattle.ep_ipslice.specs.declared.net.ip_slice.IpSlice.TheVariants as ip
use Rattle.ep_link.specs.Arp.{packet_at}
use Rattle.ep_link.specs.Ethernet.{ethernet_len, payload_of}
use Rattle.ep_link.specs.Frame.{without_fcs}
use Rattle.ep_link.specs.Sll.{sll_len}
use Rattle.ep_link.specs.SllFault as sll_fault
use Rattle.ep_link.specs.SllPayload as sll
use Rattle.ep_link.specs.declared.err.linux_sll.header_error.HeaderError.{HeaderError as SllFault}
use Rattle.ep_link.specs.declared.link.link_slice.LinkSlice.{LinkSlice}
use Rattle.ep_link.specs.declared.link.link_slice.LinkSlice.TheVariants as link
use Rattle.ep_packet.specs.LaxSliced.{in_lax_ipv4, in_lax_ipv6, lax_ipv4_layers, lax_ipv6_layers, lax_layers_in}
use Rattle.ep_packet.specs.LaxSliced.{lax_message_at, lax_message_in, lax_packet_after}
use Rattle.ep_packet.specs.LaxSliced.{lax_packet_tagged, lax_sliced_ether_type, lax_sliced_ethernet, lax_sliced_ip}
use Rattle.ep_packet.specs.LaxSliced.{in_lax_cooked, in_lax_frame, in_lax_linux_sll, in_lax_version, lax_arp_layers}
use Rattle.ep_packet.specs.LaxSliced.{LaxLayers, lax_packet_of, lax_sliced_linux_sll, lax_transport_in, no_layers}
use Rattle.ep_packet.specs.LaxSliced.{with_transport}
use Rattle.ep_packet.specs.declared.net.net_slice.NetSlice.{NetSlice}
use Rattle.ep_packet.specs.declared.net.net_slice.NetSlice.TheVariants as net
use Rattle.ep_packet.specs.LaxTags.{LaxTagged, lax_tag_at, lax_tags_in}
use Rattle.ep_packet.specs.LaxWhole.{whole_net, whole_packet, whole_tag}
use Rattle.ep_packet.specs.Readable.{ReadMessage, message_at, udp}
use Rattle.ep_packet.specs.Readable.ReadMessage.{Udp}
use Rattle.ep_packet.specs.declared.err.packet.slice_error.SliceError.TheVariants as slice_error
use Rattle.ep_packet.specs.SliceFault.{later}
use Rattle.ep_packet.specs.Sliced.{Layers, in_ipv4, in_ipv6, ip_layers, ipv4_layers, ipv6_layers, layers_in}
use Rattle.ep_packet.specs.Sliced.{packet_after, packet_tagged, sliced_ether_type, sliced_ethernet, sliced_ip}
use Rattle.ep_packet.specs.Sliced.{arp_layers, arp_type, ether_payload, in_cooked, in_frame, in_linux_sll, ipv4_type}
use Rattle.ep_packet.specs.Sliced.{ipv6_type, packet_with, sliced_linux_sll, transport_in}
use Rattle.ep_packet.specs.Sliced as strict
use Rattle.ep_packet.specs.Tags.{Tagged, most_tags, tag_at, tags_in}
use Rattle.ep_packet.specs.declared.err.packet.slice_error.SliceError.{SliceError}
use Rattle.ep_packet.specs.declared.sliced_packet.SlicedPacket.{SlicedPacket}
use Rattle.ep_packet.specs.declared.transport.transport_slice.TransportSlice.{TransportSlice}
use Rattle.ep_packet.proofs.LaxTagsLemmas.{joined, lax_from_tag, lax_read_further, lax_tags_turn}
use Rattle.ep_packet.proofs.TagsLemmas.{from_tag, read_further, tags_turn, with_tag}
use Rattle.ep_tag.specs.Ether.{EtherPayload, complete_ether}
use Rattle.ep_tag.specs.LinkExt.{lax_payload_after, lax_tag_len, payload_after, tag_len}
use Rattle.ep_tag.specs.MacsecLax.{complete, lax_macsec_at}
use Rattle.ep_tag.specs.MacsecPayload.{Macsec, macsec_at}
use Rattle.ep_tag.specs.Prefix.{whole_at}
use Rattle.ep_tag.specs.declared.link.link_ext_slice.LinkExtSlice.{LinkExtSlice}
use Rattle.ep_tcpudp.specs.UdpFault.{lax_udp_at, udp_at}

-- tags and layers that are there, as those that are there as far as they go
abbrev pub whole_tags : Tagged → LaxTagged
whole_tags t = record {
  tags = map whole_tag t.tags;
  len = t.len;
  last = option_map complete_ether t.last;
  stop = None;
}

abbrev whole_layers : Layers → LaxLayers
whole_layers layers = record {
  net = option_map whole_net layers.net;
  transport = layers.transport;
  stop = None;
}

-- the laws of the layers, as they are called
pub record WholeParts : Type 0 where
  pub macsec : (bytes : List ℕ) (macsec : Macsec) → macsec_at bytes ≡ Ok macsec
      → lax_macsec_at bytes ≡ Ok (complete macsec)
  pub ipv4 : (bytes : List ℕ) (packet : Ipv4Packet) → ipv4_packet_at bytes ≡ Ok packet
      → lax_ipv4_packet_at bytes ≡ Ok (whole_ipv4 packet, None)
  pub ipv6 : (bytes : List ℕ) (packet : Ipv6Packet) → ipv6_packet_at bytes ≡ Ok packet
      → lax_ipv6_packet_at bytes ≡ Ok (whole_ipv6 packet, None)
  pub ip : (bytes : List ℕ) (packet : IpSlice) → ip_packet_at bytes ≡ Ok packet
      → lax_ip_packet_at bytes ≡ Ok (whole_ip packet, None)
  pub datagram : (bytes datagram : List ℕ) → udp_at bytes ≡ Ok datagram → lax_udp_at bytes ≡ Ok datagram

pub len_same : (t : LinkExtSlice) → lax_tag_len (whole_tag t) ≡ tag_len t
len_same t = grind arith

pub payload_same : (t : LinkExtSlice)
    → lax_payload_after (whole_tag t) ≡ option_map complete_ether (payload_after t)
payload_same t = grind arith

pub tag_whole : WholeParts → (p : EtherPayload) (o : Option LinkExtSlice) → tag_at p ≡ Ok o
    → lax_tag_at (complete_ether p) ≡ Ok (option_map whole_tag o)
tag_whole law p o at = let macsec = law.macsec p.payload in grind arith

-- what the tags of a whole payload are, as those of one that is there as far as it goes
abbrev AreWhole : ℕ → Type 0
AreWhole n = (p : EtherPayload) (t : Tagged) → tags_in n p ≡ Ok t
    → lax_tags_in n (complete_ether p) ≡ whole_tags t

further_whole : (n : ℕ) (tag : LinkExtSlice) (next : Option EtherPayload)
    (r : Result Tagged SliceError) (t : Tagged) → AreWhole n
    → read_further (tags_in n) next ≡ r → with_tag tag r ≡ Ok t
    → joined (whole_tag tag ∷ []) (tag_len tag) (lax_read_further (lax_tags_in n) (option_map complete_ether next))
    ≡ whole_tags t
further_whole n tag next (Err e) t each at is = cc
further_whole n tag None (Ok more) t each at is = grind arith
further_whole n tag (Some p) (Ok more) t each at is = rw (each p more at) (grind arith)

from_whole : WholeParts → (n : ℕ) (p : EtherPayload) (r : Result (Option LinkExtSlice) SliceError)
    (t : Tagged) → AreWhole n → tag_at p ≡ r → from_tag (tags_in n) p r ≡ Ok t
    → lax_from_tag (lax_tags_in n) (complete_ether p) (lax_tag_at (complete_ether p)) ≡ whole_tags t
from_whole law n p (Err e) t each at is = cc
from_whole law n p (Ok None) t each at is = rw (tag_whole law p None at) (grind arith)
from_whole law n p (Ok (Some tag)) t each at is =
    rw (tag_whole law p (Some tag) at, payload_same tag, len_same tag)
    (further_whole n tag (payload_after tag) (read_further (tags_in n) (payload_after tag)) t each refl is)

pub tags_whole : WholeParts → (n : ℕ) → AreWhole n
unfolding tags_in lax_tags_in
tags_whole law zero p t is = grind arith
tags_whole law (suc n) p t is = lax_tags_turn n (complete_ether p)
    ∙ from_whole law n p (tag_at p) t (tags_whole law n) refl (sym (tags_turn n p) ∙ is)

udp_is : (number : ℕ) → (number == udp) ≡ true → number ≡ 17
udp_is number is = grind (arith, nat_tests)

datagram_whole : WholeParts → (bytes : List ℕ) (r : Result (List ℕ) LenError) (message : ReadMessage)
    → udp_at bytes ≡ r → result_map_both (λ m. Udp m) (λ e. slice_error.Len e) r ≡ Ok message
    → result_map_both (λ m. Udp m) (λ e. slice_error.Len e) (lax_udp_at bytes) ≡ Ok message
datagram_whole law bytes (Ok datagram) message at is = rw (law.datagram bytes datagram at) is
datagram_whole law bytes (Err e) message at is = cc

message_case : WholeParts → (b : Bool) (number : ℕ) (bytes : List ℕ) (message : ReadMessage)
    → (number == udp) ≡ b → message_at number bytes ≡ Ok message
    → lax_message_at number bytes ≡ Ok message
message_case law false number bytes message not is = ap (λ (b : Bool). if b
    then result_map_both (λ m. Udp m) (λ e. slice_error.Len e) (lax_udp_at bytes) else message_at number bytes) not
    ∙ is
message_case law true number bytes message here is =
    subst (λ (n : ℕ). message_at n bytes ≡ Ok message → lax_message_at n bytes ≡ Ok message)
    (sym (udp_is number here)) (datagram_whole law bytes (udp_at bytes) message refl) is

message_whole : WholeParts → (number : ℕ) (bytes : List ℕ) (message : ReadMessage)
    → message_at number bytes ≡ Ok message → lax_message_at number bytes ≡ Ok message
message_whole law number bytes message is = message_case law (number == udp) number bytes message refl is

transport_whole : WholeParts → (p : IpPayload) (message : Option TransportSlice)
    → transport_in p ≡ Ok message → lax_message_in p ≡ Ok message
transport_whole law p message is = grind (arith, message_whole)

with_whole : WholeParts → (packet : NetSlice) (n : ℕ) (p : IpPayload)
    (r : Result (Option TransportSlice) SliceError) (layers : Layers) → transport_in p ≡ r
    → strict.with_transport packet n r ≡ Ok layers
    → with_transport (whole_net packet) (lax_transport_in n p None) ≡ whole_layers layers
with_whole law packet n p (Ok message) layers at is = rw (transport_whole law p message at) (grind arith)
with_whole law packet n p (Err e) layers at is = cc

ipv4_whole : WholeParts → (packet : Ipv4Packet) (layers : Layers) → in_ipv4 packet ≡ Ok layers
    → in_lax_ipv4 (whole_ipv4 packet) None ≡ whole_layers layers
ipv4_whole law packet layers is =
    with_whole law (net.Ipv4 packet) (length packet.header + length (auth_bytes packet.auth))
    (ipv4_payload packet) (transport_in (ipv4_payload packet)) layers refl is

ipv6_whole : WholeParts → (packet : Ipv6Packet) (layers : Layers) → in_ipv6 packet ≡ Ok layers
    → in_lax_ipv6 (whole_ipv6 packet) None ≡ whole_layers layers
ipv6_whole law packet layers is =
    with_whole law (net.Ipv6 packet) (length packet.header + length packet.exts.slice) packet.payload
    (transport_in packet.payload) layers refl is

of_ipv4_whole : WholeParts → (bytes : List ℕ) (r : Result Ipv4Packet Ipv4Fault) (layers : Layers)
    → ipv4_packet_at bytes ≡ r → ipv4_layers r ≡ Ok layers
    → lax_ipv4_layers (lax_ipv4_packet_at bytes) ≡ whole_layers layers
of_ipv4_whole law bytes (Ok packet) layers at is = rw (law.ipv4 bytes packet at) (ipv4_whole law packet layers is)
of_ipv4_whole law bytes (Err e) layers at is = cc

of_ipv6_whole : WholeParts → (bytes : List ℕ) (r : Result Ipv6Packet Ipv6Fault) (layers : Layers)
    → ipv6_packet_at bytes ≡ r → ipv6_layers r ≡ Ok layers
    → lax_ipv6_layers (lax_ipv6_packet_at bytes) ≡ whole_layers layers
of_ipv6_whole law bytes (Ok packet) layers at is = rw (law.ipv6 bytes packet at) (ipv6_whole law packet layers is)
of_ipv6_whole law bytes (Err e) layers at is = cc

arp_whole : (bytes : List ℕ) (layers : Layers) → arp_layers (packet_at bytes) ≡ Ok layers
    → lax_arp_layers (packet_at bytes) ≡ whole_layers layers
arp_whole bytes layers is = grind arith

layers_case : WholeParts → (four six arp : Bool) (bytes : List ℕ) (layers : Layers)
    → (if four then ipv4_layers (ipv4_packet_at bytes)
    else (if six then ipv6_layers (ipv6_packet_at bytes)
    else (if arp then arp_layers (packet_at bytes) else Ok strict.no_layers))) ≡ Ok layers
    → (if four then lax_ipv4_layers (lax_ipv4_packet_at bytes)
    else (if six then lax_ipv6_layers (lax_ipv6_packet_at bytes)
    else (if arp then lax_arp_layers (packet_at bytes) else no_layers None))) ≡ whole_layers layers
layers_case law true six arp bytes layers is = of_ipv4_whole law bytes (ipv4_packet_at bytes) layers refl is
layers_case law false true arp bytes layers is = of_ipv6_whole law bytes (ipv6_packet_at bytes) layers refl is
layers_case law false false true bytes layers is = arp_whole bytes layers is
layers_case law false false false bytes layers is = grind arith

layers_whole : WholeParts → (o : Option EtherPayload) (layers : Layers) → layers_in o ≡ Ok layers
    → lax_layers_in (option_map complete_ether o) ≡ whole_layers layers
layers_whole law None layers is = grind arith
layers_whole law (Some p) layers is = layers_case law (p.ether_type.0 == ipv4_type)
    (p.ether_type.0 == ipv6_type) (p.ether_type.0 == arp_type) p.payload layers is

-- tags and layers together, after a link header of so many bytes
with_layers : WholeParts → (link_len : ℕ) (link : LinkSlice) (t : Tagged) (r : Result Layers SliceError)
    (packet : SlicedPacket) → layers_in t.last ≡ r
    → packet_with (Some link) t.tags (later t.len r) ≡ Ok packet
    → lax_packet_tagged link_len (Some link) (whole_tags t) ≡ whole_packet packet
with_layers law link_len link t (Ok layers) packet at is =
    rw (layers_whole law t.last layers at) (grind arith)
with_layers law link_len link t (Err e) packet at is = cc

with_tags : WholeParts → (link_len : ℕ) (link : LinkSlice) (p : EtherPayload)
    (r : Result Tagged SliceError) (packet : SlicedPacket) → tags_in most_tags p ≡ r
    → packet_tagged (Some link) r ≡ Ok packet
    → lax_packet_after link_len link p ≡ whole_packet packet
with_tags law link_len link p (Ok t) packet at is =
    rw (tags_whole law 3 p t at) (with_layers law link_len link t (layers_in t.last) packet refl is)
with_tags law link_len link p (Err e) packet at is = cc

after_whole : WholeParts → (link_len : ℕ) (link : LinkSlice) (p : EtherPayload) (packet : SlicedPacket)
    → packet_after link p ≡ Ok packet → lax_packet_after link_len link p ≡ whole_packet packet
after_whole law link_len link p packet is =
    with_tags law link_len link p (tags_in most_tags p) packet refl is

later_ok : (n : ℕ) (r : Result SlicedPacket SliceError) (packet : SlicedPacket)
    → later n r ≡ Ok packet → r ≡ Ok packet
later_ok n r packet is = grind arith

frame_whole : WholeParts → (r : Result (List ℕ) LenError) (packet : SlicedPacket)
    → in_frame r ≡ Ok packet → in_lax_frame r ≡ Ok (whole_packet packet)
frame_whole law (Ok frame) packet is = ap Ok (after_whole law ethernet_len (link.Ethernet2 (without_fcs frame))
    (payload_of frame) packet (later_ok ethernet_len _ packet is))
frame_whole law (Err e) packet is = cc

pub ethernet_whole : WholeParts → (bytes : List ℕ) (packet : SlicedPacket)
    → sliced_ethernet bytes ≡ Ok packet → lax_sliced_ethernet bytes ≡ Ok (whole_packet packet)
ethernet_whole law bytes packet is =
    frame_whole law (whole_at Ethernet2Header ethernet_len bytes) packet is

named_whole : WholeParts → (bytes : List ℕ) (o : Option EtherPayload) (packet : SlicedPacket)
    → in_linux_sll bytes o ≡ Ok packet → in_lax_linux_sll bytes o ≡ whole_packet packet
named_whole law bytes None packet is = grind arith
named_whole law bytes (Some p) packet is = after_whole law sll_len (link.LinuxSll bytes) p packet
    (later_ok sll_len _ packet is)

cooked_whole : WholeParts → (r : Result (List ℕ) (HeaderSliceError SllFault)) (packet : SlicedPacket)
    → in_cooked r ≡ Ok packet → in_lax_cooked r ≡ Ok (whole_packet packet)
cooked_whole law (Ok bytes) packet is =
    ap Ok (named_whole law bytes (sll.named_payload (sll.payload_of bytes)) packet is)
cooked_whole law (Err e) packet is = cc

pub linux_sll_whole : WholeParts → (bytes : List ℕ) (packet : SlicedPacket)
    → sliced_linux_sll bytes ≡ Ok packet → lax_sliced_linux_sll bytes ≡ Ok (whole_packet packet)
linux_sll_whole law bytes packet is = cooked_whole law (sll_fault.whole_at bytes) packet is

pub ether_type_whole : WholeParts → (t : EtherType) (bytes : List ℕ) (packet : SlicedPacket)
    → sliced_ether_type t bytes ≡ Ok packet → lax_sliced_ether_type t bytes ≡ whole_packet packet
ether_type_whole law t bytes packet is = after_whole law 0 (link.EtherPayload (ether_payload t bytes))
    (ether_payload t bytes) packet is

ip_layers_whole : (r : Result Layers SliceError) (lax : LaxLayers) (packet : SlicedPacket)
    → ((layers : Layers) → r ≡ Ok layers → lax ≡ whole_layers layers)
    → packet_with None [] r ≡ Ok packet → lax_packet_of None [] lax ≡ whole_packet packet
ip_layers_whole (Ok layers) lax packet whole is = rw (whole layers refl) (grind arith)
ip_layers_whole (Err e) lax packet whole is = cc

ip_whole : WholeParts → (found : IpSlice) (packet : SlicedPacket)
    → packet_with None [] (ip_layers (Ok found)) ≡ Ok packet
    → in_lax_version (Ok (whole_ip found, None)) ≡ Ok (whole_packet packet)
ip_whole law (ip.Ipv4 found) packet is = ap Ok (ip_layers_whole (in_ipv4 found)
    (in_lax_ipv4 (whole_ipv4 found) None) packet (ipv4_whole law found) is)
ip_whole law (ip.Ipv6 found) packet is = ap Ok (ip_layers_whole (in_ipv6 found)
    (in_lax_ipv6 (whole_ipv6 found) None) packet (ipv6_whole law found) is)

version_whole : WholeParts → (bytes : List ℕ) (r : Result IpSlice IpFault) (packet : SlicedPacket)
    → ip_packet_at bytes ≡ r → packet_with None [] (ip_layers r) ≡ Ok packet
    → lax_sliced_ip bytes ≡ Ok (whole_packet packet)
version_whole law bytes (Ok found) packet at is = rw (law.ip bytes found at) (ip_whole law found packet is)
version_whole law bytes (Err e) packet at is = cc

pub ip_packet_whole : WholeParts → (bytes : List ℕ) (packet : SlicedPacket)
    → sliced_ip bytes ≡ Ok packet → lax_sliced_ip bytes ≡ Ok (whole_packet packet)
ip_packet_whole law bytes packet is = version_whole law bytes (ip_packet_at bytes) packet refl is
