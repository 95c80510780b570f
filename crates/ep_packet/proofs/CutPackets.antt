-- Packets of which the first bytes are there.
use Rattle.std.proofs.Common.{◌≡◌, ◌∙◌, sym, ap, refl, ℕ, zero, suc, ◌+◌, ◌-◌, ◌≤◌, ◌==◌, Bool, true, false, List, [], ◌∷◌}
use Rattle.std.proofs.Common.{ap₂, get_or, subst, length, take, drop, Option, Some, None, IfSome, Result, Ok, Err, arith}
use Rattle.std.specs.Prelude.{if◌then◌else◌, nat_lt}
use Rattle.std.specs.Option.{option_map}
use Rattle.std.proofs.lemmas.Bool.Decides.{nat_tests}
use Rattle.std.proofs.lemmas.List.{get_or-take, length-take, length-take-le, take-take}
use Rattle.ep_base.proofs.FirstBytes.{drop_in}
use Rattle.ep_base.specs.LenError.{too_few_bytes}
use Rattle.ep_base.specs.declared.err.layer.Layer.TheVariants.{Ethernet2Header, VlanHeader}
use Rattle.ep_base.specs.declared.err.len_error.LenError.{LenError}
use Rattle.ep_base.specs.declared.err.slice_error.SliceError.{SliceError as HeaderSliceError}
use Rattle.ep_base.specs.declared.len_source.LenSource.{LenSource}
use Rattle.ep_base.specs.declared.link.ether_type.EtherType.{EtherType}
use Rattle.ep_ipslice.specs.CutPackets.{cut_ip, cut_ipv4, cut_ipv6, cut_payload, ip_headers_len, ipv4_headers_len}
use Rattle.ep_ipslice.specs.CutPackets.{cut_ipv6_source, ipv6_headers_len, is_ipv4_short, is_ipv6_short}
use Rattle.ep_ipslice.specs.IpSlice.{ip_packet_at}
use Rattle.ep_ipslice.specs.Ipv4Packet.{ipv4_packet_at}
use Rattle.ep_ipslice.specs.Ipv6Packet.{ipv6_packet_at}
use Rattle.ep_ipslice.specs.LaxIp.{lax_ip_packet_at}
use Rattle.ep_ipslice.specs.LaxPackets.{lax_ipv4_packet_at, lax_ipv6_packet_at}
use Rattle.ep_ipslice.specs.Packet.{IpPayload, Ipv4Packet, Ipv6Packet, ipv4_payload}
use Rattle.ep_ipslice.specs.declared.err.ip.slice_error.SliceError.{SliceError as IpFault}
use Rattle.ep_ipslice.specs.declared.err.ipv4.slice_error.SliceError.{SliceError as Ipv4Fault}
use Rattle.ep_ipslice.specs.declared.err.ipv6.slice_error.SliceError.{SliceError as Ipv6Fault}
use Rattle.ep_ipslice.specs.declared.net.ip_slice.IpSlice.{IpSlice}
use Rattle.ep_ipslice.specs.declared.net.ip_slice.IpSlice.TheVariants as ip
use Rattle.ep_base.specs.declared.len_source.LenSource.TheVariants.{Ipv4HeaderTotalLen, Slice}
use Rattle.ep_link.specs.Arp.{packet_at, packet_len_of}
use Rattle.ep_link.specs.Ethernet.{ethernet_len, next_type_of, payload_of}
use Rattle.ep_link.specs.Frame.{without_fcs}
use Rattle.ep_link.specs.Sll.{greatest_packet_type, packet_type_of, sll_len}
use Rattle.ep_link.specs.SllFault as sll_fault
use Rattle.ep_link.specs.SllPayload as sll
use Rattle.ep_link.specs.declared.err.linux_sll.header_error.HeaderError.{HeaderError as SllFault}
use Rattle.ep_link.specs.declared.link.link_slice.LinkSlice.{LinkSlice}
use Rattle.ep_link.specs.declared.link.link_slice.LinkSlice.TheVariants as link
use Rattle.ep_link.specs.declared.link.linux_sll_protocol_type.LinuxSllProtocolType.{LinuxSllProtocolType}
use Rattle.ep_link.specs.declared.link.linux_sll_protocol_type.LinuxSllProtocolType.TheVariants as protocol
use Rattle.ep_packet.specs.CutPacket.{all_headers_len, cut_after, cut_link, cut_net, cut_packet, cut_tags, cut_transport}
use Rattle.ep_packet.specs.CutPacket.{len_after_link, link_len, transport_len}
use Rattle.ep_packet.specs.LaxCut.{cut_message, message_header_len}
use Rattle.ep_packet.specs.LaxSliced.{LaxLayers, in_lax_ip, in_lax_ipv4, in_lax_ipv6}
use Rattle.ep_packet.specs.LaxSliced.{in_lax_linux_sll, lax_arp_layers, lax_ipv4_layers, lax_ipv6_layers, lax_layers_in}
use Rattle.ep_packet.specs.LaxSliced.{lax_message_at, lax_message_in, lax_packet_after, lax_packet_of, lax_packet_tagged}
use Rattle.ep_packet.specs.LaxSliced.{lax_sliced_ether_type, lax_sliced_ethernet, lax_sliced_ip, lax_sliced_linux_sll}
use Rattle.ep_packet.specs.LaxSliced.{lax_transport_in, no_layers, with_transport}
use Rattle.ep_packet.specs.LaxTags.{LaxTagged, Stop, lax_tag_at, lax_tags_in, stop_by}
use Rattle.ep_packet.specs.Parts.{headers_len, tags_len}
use Rattle.ep_packet.specs.Readable.{ReadMessage, message_at}
use Rattle.ep_packet.specs.SliceFault.{later}
use Rattle.ep_packet.specs.Sliced.{Layers, arp_layers, arp_type, ether_payload, in_cooked, in_frame, in_ipv4, in_ipv6}
use Rattle.ep_packet.specs.Sliced.{in_linux_sll, ip_layers, ipv4_layers, ipv4_type, ipv6_layers, ipv6_type, layers_in}
use Rattle.ep_packet.specs.Sliced.{packet_after, packet_tagged, packet_with, read_transport, result_within, sliced_ether_type}
use Rattle.ep_packet.specs.Sliced.{sliced_ethernet, sliced_ip, sliced_linux_sll, transport_in, transport_of}
use Rattle.ep_packet.specs.Sliced as strict
use Rattle.ep_packet.specs.Tags.{Tagged, is_macsec_type, most_tags, tag_at, tags_in, no_tags}
use Rattle.ep_packet.specs.declared.err.packet.slice_error.SliceError.{SliceError}
use Rattle.ep_packet.specs.declared.lax_sliced_packet.LaxSlicedPacket.{LaxSlicedPacket}
use Rattle.ep_packet.specs.declared.net.net_slice.NetSlice.{NetSlice}
use Rattle.ep_packet.specs.declared.net.net_slice.NetSlice.TheVariants as net
use Rattle.ep_packet.specs.declared.sliced_packet.SlicedPacket.{SlicedPacket}
use Rattle.ep_packet.specs.declared.transport.transport_slice.TransportSlice.{TransportSlice}
use Rattle.ep_packet.proofs.LaxCutLemmas.{message_cut}
use Rattle.ep_packet.proofs.LaxTagsLemmas.{joined, lax_from_tag, lax_macsec_tag, lax_read_further, lax_tags_turn, lax_vlan_tag}
use Rattle.ep_packet.proofs.TagsLemmas.{from_tag, macsec_tag, read_further, tags_turn, vlan_tag, with_tag}
use Rattle.ep_tag.specs.CutTags.{Named, cut_macsec, cut_named, cut_tag, named_bytes}
use Rattle.ep_tag.specs.Ether.{EtherPayload, LaxEtherPayload, complete_ether}
use Rattle.ep_tag.specs.LinkExt.{lax_payload_after, lax_tag_len, payload_after, tag_len}
use Rattle.ep_tag.specs.MacsecLax.{lax_macsec_at}
use Rattle.ep_tag.specs.MacsecPayload.{Macsec, macsec_at}
use Rattle.ep_tag.specs.Prefix.{whole_at}
use Rattle.ep_tag.specs.Vlan.{is_vlan_type, vlan_len}
use Rattle.ep_tag.specs.declared.err.macsec.header_error.HeaderError.{HeaderError as MacsecFault}
use Rattle.ep_tag.specs.declared.link.lax_link_ext_slice.LaxLinkExtSlice.{LaxLinkExtSlice}
use Rattle.ep_tag.specs.declared.link.link_ext_slice.LinkExtSlice.{LinkExtSlice}
use Rattle.ep_tag.specs.declared.link.link_ext_slice.LinkExtSlice.TheVariants as tag

-- the laws of the layers, as they are called
pub record CutParts : Type 0 where
  pub macsec : (n : ℕ) (bytes : List ℕ) (m : Macsec) → macsec_at bytes ≡ Ok m → length m.header ≤ n
      → lax_macsec_at (take n bytes) ≡ Ok (cut_macsec n m)
  pub vlan : (n : ℕ) (bytes tag : List ℕ) → whole_at VlanHeader vlan_len bytes ≡ Ok tag → vlan_len ≤ n
      → whole_at VlanHeader vlan_len (take n bytes) ≡ Ok (take n tag)
  pub named : (n : ℕ) (t : LinkExtSlice) → tag_len t ≤ n
      → option_map named_bytes (lax_payload_after (cut_tag n t))
      ≡ option_map (cut_named (n - tag_len t)) (payload_after t)
  pub ipv4 : (n : ℕ) (bytes : List ℕ) (packet : Ipv4Packet) → ipv4_packet_at bytes ≡ Ok packet
      → ipv4_headers_len packet ≤ n → lax_ipv4_packet_at (take n bytes) ≡ Ok (cut_ipv4 n packet, None)
  pub ipv6 : (n : ℕ) (bytes : List ℕ) (packet : Ipv6Packet) → ipv6_packet_at bytes ≡ Ok packet
      → ipv6_headers_len packet ≤ n → lax_ipv6_packet_at (take n bytes) ≡ Ok (cut_ipv6 n packet, None)
  pub ip : (n : ℕ) (bytes : List ℕ) (packet : IpSlice) → ip_packet_at bytes ≡ Ok packet
      → ip_headers_len packet ≤ n → lax_ip_packet_at (take n bytes) ≡ Ok (cut_ip n packet, None)

-- the tag at the start of the first n bytes of a payload
abbrev TagFits : ℕ → Option LinkExtSlice → Type 0
TagFits n o = IfSome o (λ t. tag_len t ≤ n)

vlan_case : CutParts → (n : ℕ) (bytes : List ℕ) (r : Result (List ℕ) LenError) (o : Option LinkExtSlice)
    → whole_at VlanHeader vlan_len bytes ≡ r → vlan_tag r ≡ Ok o → TagFits n o
    → lax_vlan_tag (whole_at VlanHeader vlan_len (take n bytes)) ≡ Ok (option_map (cut_tag n) o)
vlan_case law n bytes (Err e) o at is fits = cc
vlan_case law n bytes (Ok x) o at is fits =
    let same : Some (tag.Vlan x) ≡ o = grind arith in
    let enough : TagFits n (Some (tag.Vlan x)) = rw (← same) at fits in
    rw (law.vlan n bytes x at enough, ← same) refl

macsec_case : CutParts → (n : ℕ) (bytes : List ℕ) (r : Result Macsec (HeaderSliceError MacsecFault))
    (o : Option LinkExtSlice) → macsec_at bytes ≡ r → macsec_tag r ≡ Ok o → TagFits n o
    → lax_macsec_tag (lax_macsec_at (take n bytes)) ≡ Ok (option_map (cut_tag n) o)
macsec_case law n bytes (Err e) o at is fits = cc
macsec_case law n bytes (Ok m) o at is fits =
    let same : Some (tag.Macsec m) ≡ o = grind arith in
    let enough : TagFits n (Some (tag.Macsec m)) = rw (← same) at fits in
    rw (law.macsec n bytes m at enough, ← same) refl

tag_case : CutParts → (vlan macsec : Bool) (n : ℕ) (bytes : List ℕ) (o : Option LinkExtSlice)
    → (if vlan then vlan_tag (whole_at VlanHeader vlan_len bytes)
    else (if macsec then macsec_tag (macsec_at bytes) else Ok None)) ≡ Ok o → TagFits n o
    → (if vlan then lax_vlan_tag (whole_at VlanHeader vlan_len (take n bytes))
    else (if macsec then lax_macsec_tag (lax_macsec_at (take n bytes)) else Ok None))
    ≡ Ok (option_map (cut_tag n) o)
tag_case law true macsec n bytes o is fits =
    vlan_case law n bytes (whole_at VlanHeader vlan_len bytes) o refl is fits
tag_case law false true n bytes o is fits = macsec_case law n bytes (macsec_at bytes) o refl is fits
tag_case law false false n bytes o is fits = grind arith

-- what an ether type names, of which the first n bytes are there
abbrev IsCut : ℕ → EtherPayload → LaxEtherPayload → Type 0
IsCut n p q = named_bytes q ≡ cut_named n p

abbrev AreCut : ℕ → Option EtherPayload → Option LaxEtherPayload → Type 0
AreCut n o q = option_map named_bytes q ≡ option_map (cut_named n) o

abbrev lax_tag_by : Named → Result (Option LaxLinkExtSlice) Stop
lax_tag_by p =
    if is_vlan_type p.0 then lax_vlan_tag (whole_at VlanHeader vlan_len p.1)
    else (if is_macsec_type p.0 then lax_macsec_tag (lax_macsec_at p.1) else Ok None)

tag_cut : CutParts → (n : ℕ) (p : EtherPayload) (q : LaxEtherPayload) (o : Option LinkExtSlice)
    → IsCut n p q → tag_at p ≡ Ok o → TagFits n o → lax_tag_at q ≡ Ok (option_map (cut_tag n) o)
tag_cut law n p q o cut at fits = ap lax_tag_by cut
    ∙ tag_case law (is_vlan_type p.ether_type) (is_macsec_type p.ether_type) n p.payload o at fits

len_same : (n : ℕ) (t : LinkExtSlice) → lax_tag_len (cut_tag n t) ≡ tag_len t
len_same n (tag.Vlan bytes) = refl
len_same n (tag.Macsec m) = refl

-- tags and what the last one names
record AreCutTags (n : ℕ) (t : Tagged) (lax : LaxTagged) : Type 0 where
  tags : lax.tags ≡ cut_tags n t.tags
  len : lax.len ≡ tags_len t.tags
  last : AreCut (n - tags_len t.tags) t.last lax.last
  stop : lax.stop ≡ None

abbrev TagsAreCut : ℕ → Type 0
TagsAreCut count = (n : ℕ) (p : EtherPayload) (q : LaxEtherPayload) (t : Tagged) → IsCut n p q
    → tags_in count p ≡ Ok t → tags_len t.tags ≤ n → AreCutTags n t (lax_tags_in count q)

no_tag : (n : ℕ) (p : EtherPayload) (q : LaxEtherPayload) (t : Tagged) → IsCut n p q
    → ◌≡◌ {A = Result Tagged SliceError} (Ok (record { tags = []; len = 0; last = Some p })) (Ok t)
    → AreCutTags n t (no_tags (Some q) None)
no_tag n p q t cut is =
    let same : record { tags = []; len = 0; last = Some p } ≡ t = cc in
    let all : n - 0 ≡ n = omega arith in
    let here : AreCutTags n (record { tags = []; len = 0; last = Some p }) (no_tags (Some q) None) = record {
      tags = refl;
      len = refl;
      last = rw all (ap (λ (x : Named). Some x) cut);
      stop = refl;
    } in
    rw same at here

-- what is read after a tag
further_cut : (count n : ℕ) (next : Option EtherPayload) (q : Option LaxEtherPayload) (t : Tagged)
    → TagsAreCut count → AreCut n next q → read_further (tags_in count) next ≡ Ok t
    → tags_len t.tags ≤ n → AreCutTags n t (lax_read_further (lax_tags_in count) q)
further_cut count n None None t each cut is fits =
    let same : record { tags = []; len = 0; last = None } ≡ t = cc in
    rw (← same) (record { tags = refl; len = refl; last = refl; stop = refl })
further_cut count n None (Some q) t each cut is fits = cc
further_cut count n (Some p) None t each cut is fits = cc
further_cut count n (Some p) (Some q) t each cut is fits = each n p q t (cc cut) is fits

with_tag_cut : CutParts → (count n : ℕ) (t : LinkExtSlice) (r : Result Tagged SliceError) (all : Tagged)
    → TagsAreCut count → read_further (tags_in count) (payload_after t) ≡ r → with_tag t r ≡ Ok all
    → tags_len all.tags ≤ n → (tag_len t ≤ n)
    × AreCutTags n all (joined (cut_tag n t ∷ []) (lax_tag_len (cut_tag n t))
    (lax_read_further (lax_tags_in count) (lax_payload_after (cut_tag n t))))
with_tag_cut law count n t (Err e) all each at is fits = cc
with_tag_cut law count n t (Ok more) all each at is fits =
    let same : record { tags = t ∷ more.tags; len = tag_len t + more.len; last = more.last } ≡ all = cc in
    let size : tag_len t + tags_len more.tags ≤ n = rw (← same) at fits in
    let left : ℕ = n - tag_len t in
    let inner = further_cut count left (payload_after t) (lax_payload_after (cut_tag n t)) more each
    (law.named n t (omega (arith, size))) at (omega (arith, size)) in
    let placed : left - tags_len more.tags ≡ n - (tag_len t + tags_len more.tags) = omega arith in (
      omega (arith, size),
      rw (← same) (record {
        tags = ap (λ (ts : List LaxLinkExtSlice). cut_tag n t ∷ ts) inner.tags;
        len = λ i. len_same n t i + inner.len i;
        last = rw placed at inner.last;
        stop = ap (option_map (stop_by (lax_tag_len (cut_tag n t)))) inner.stop;
      }),
    )

from_tag_cut : CutParts → (count n : ℕ) (p : EtherPayload) (q : LaxEtherPayload)
    (r : Result (Option LinkExtSlice) SliceError) (t : Tagged) → TagsAreCut count → IsCut n p q
    → tag_at p ≡ r → from_tag (tags_in count) p r ≡ Ok t → tags_len t.tags ≤ n
    → AreCutTags n t (lax_from_tag (lax_tags_in count) q (lax_tag_at q))
from_tag_cut law count n p q (Err e) t each cut at is fits = cc
from_tag_cut law count n p q (Ok None) t each cut at is fits =
    rw (tag_cut law n p q None cut at tt) (no_tag n p q t cut is)
from_tag_cut law count n p q (Ok (Some found)) t each cut at is fits =
    let more = with_tag_cut law count n found (read_further (tags_in count) (payload_after found)) t each
    refl is fits in
    rw (tag_cut law n p q (Some found) cut at more.0) more.1

tags_cut : CutParts → (count : ℕ) → TagsAreCut count
unfolding tags_in lax_tags_in
tags_cut law zero n p q t cut is fits = no_tag n p q t cut is
tags_cut law (suc count) n p q t cut is fits =
    subst (AreCutTags n t) (sym (lax_tags_turn count q))
    (from_tag_cut law count n p q (tag_at p) t (tags_cut law count) cut refl (sym (tags_turn count p) ∙ is) fits)

-- messages
transport_same : (n : ℕ) (m : ReadMessage)
    → transport_of (cut_message n m) ≡ option_map (cut_transport n) (transport_of m)
transport_same n m = grind arith

header_same : (m : ReadMessage) → transport_len (transport_of m) ≡ message_header_len m
header_same m = grind arith

read_cut : (number n : ℕ) (bytes : List ℕ) (outer inner : LenSource) (r : Result ReadMessage SliceError)
    (message : Option TransportSlice) → message_at number bytes ≡ r
    → result_within outer (read_transport r) ≡ Ok message → transport_len message ≤ n
    → result_within inner (read_transport (lax_message_at number (take n bytes)))
    ≡ Ok (option_map (cut_transport n) message)
read_cut number n bytes outer inner (Err e) message at is fits = cc
read_cut number n bytes outer inner (Ok m) message at is fits =
    let same : transport_of m ≡ message = cc in
    let enough : message_header_len m ≤ n = rw (header_same m) at (rw (← same) at fits) in
    rw (message_cut number n bytes m at enough)
    (ap (λ (o : Option TransportSlice). Ok o) (transport_same n m
    ∙ ap (option_map (cut_transport n)) same))

message_in_cut : (fragmented : Bool) (n : ℕ) (incomplete : Bool) (source : LenSource) (p : IpPayload)
    (message : Option TransportSlice) → p.fragmented ≡ fragmented → transport_in p ≡ Ok message
    → transport_len message ≤ n
    → lax_message_in (cut_payload n incomplete source p) ≡ Ok (option_map (cut_transport n) message)
message_in_cut true n incomplete source p message fragment is fits =
    let same : None ≡ message = grind arith in
    rw (fragment, ← same) refl
message_in_cut false n incomplete source p message whole is fits =
    let inside = rw whole at is in
    rw whole (read_cut p.ip_number.0 n p.payload p.len_source _
    (message_at p.ip_number.0 p.payload) message refl inside fits)

-- layers of which the first k bytes are there
abbrev cut_layers : ℕ → Layers → LaxLayers
cut_layers k layers = record {
  net = option_map (cut_net k) layers.net;
  transport = option_map (cut_transport (k - headers_len layers.net)) layers.transport;
  stop = None;
}

abbrev Fits : ℕ → Layers → Type 0
Fits k layers = headers_len layers.net + transport_len layers.transport ≤ k

with_cut : (packet : NetSlice) (k len : ℕ) (incomplete : Bool) (source : LenSource) (p : IpPayload)
    (r : Result (Option TransportSlice) SliceError) (layers : Layers) → headers_len (Some packet) ≡ len
    → transport_in p ≡ r → strict.with_transport packet len r ≡ Ok layers → Fits k layers
    → (len ≤ k) × (with_transport (cut_net k packet)
    (lax_transport_in len (cut_payload (k - len) incomplete source p) None) ≡ cut_layers k layers)
with_cut packet k len incomplete source p (Err e) layers counted at is fits = cc
with_cut packet k len incomplete source p (Ok message) layers counted at is fits =
    let same : record { net = Some packet; transport = message } ≡ layers = cc in
    let enough : headers_len (Some packet) + transport_len message ≤ k = rw (← same) at fits in
    let within : transport_len message ≤ k - len = omega (arith, enough, counted) in (
      omega (arith, enough, counted),
      rw (message_in_cut p.fragmented (k - len) incomplete source p message refl at within, ← same, counted)
          refl,
    )

ipv4_in_cut : CutParts → (k : ℕ) (packet : Ipv4Packet) (layers : Layers) → in_ipv4 packet ≡ Ok layers
    → Fits k layers
    → (ipv4_headers_len packet ≤ k) × (in_lax_ipv4 (cut_ipv4 k packet) None ≡ cut_layers k layers)
ipv4_in_cut law k packet layers is fits =
    with_cut (net.Ipv4 packet) k (ipv4_headers_len packet) (is_ipv4_short k packet) Ipv4HeaderTotalLen
    (ipv4_payload packet) (transport_in (ipv4_payload packet)) layers refl refl is fits

ipv6_in_cut : CutParts → (k : ℕ) (packet : Ipv6Packet) (layers : Layers) → in_ipv6 packet ≡ Ok layers
    → Fits k layers
    → (ipv6_headers_len packet ≤ k) × (in_lax_ipv6 (cut_ipv6 k packet) None ≡ cut_layers k layers)
ipv6_in_cut law k packet layers is fits =
    with_cut (net.Ipv6 packet) k (ipv6_headers_len packet) (is_ipv6_short k packet)
    (cut_ipv6_source k packet) packet.payload (transport_in packet.payload) layers refl refl is fits

ipv4_cut : CutParts → (k : ℕ) (bytes : List ℕ) (r : Result Ipv4Packet Ipv4Fault) (layers : Layers)
    → ipv4_packet_at bytes ≡ r → ipv4_layers r ≡ Ok layers → Fits k layers
    → lax_ipv4_layers (lax_ipv4_packet_at (take k bytes)) ≡ cut_layers k layers
ipv4_cut law k bytes (Err e) layers at is fits = cc
ipv4_cut law k bytes (Ok packet) layers at is fits =
    let inside = ipv4_in_cut law k packet layers is fits in
    rw (law.ipv4 k bytes packet at inside.0) inside.1

ipv6_cut : CutParts → (k : ℕ) (bytes : List ℕ) (r : Result Ipv6Packet Ipv6Fault) (layers : Layers)
    → ipv6_packet_at bytes ≡ r → ipv6_layers r ≡ Ok layers → Fits k layers
    → lax_ipv6_layers (lax_ipv6_packet_at (take k bytes)) ≡ cut_layers k layers
ipv6_cut law k bytes (Err e) layers at is fits = cc
ipv6_cut law k bytes (Ok packet) layers at is fits =
    let inside = ipv6_in_cut law k packet layers is fits in
    rw (law.ipv6 k bytes packet at inside.0) inside.1

-- an ARP packet, whose length stands in its first bytes
pub arp_taken : (bytes packet : List ℕ) → packet_at bytes ≡ Ok packet → (8 ≤ length bytes)
    × (packet_len_of bytes ≤ length bytes) × (take (packet_len_of bytes) bytes ≡ packet)
arp_taken bytes packet is = grind (arith, nat_tests)

pub arp_is : (bytes : List ℕ) → 8 ≤ length bytes → packet_len_of bytes ≤ length bytes
    → packet_at bytes ≡ Ok (take (packet_len_of bytes) bytes)
arp_is bytes least whole = grind (arith, nat_tests)

arp_packet_cut : (k : ℕ) (bytes packet : List ℕ) → packet_at bytes ≡ Ok packet → length packet ≤ k
    → packet_at (take k bytes) ≡ Ok packet
arp_packet_cut k bytes packet at fits =
    let taken = arp_taken bytes packet at in
    let size : length packet ≡ packet_len_of bytes = grind (arith, length-take-le) in
    let four : get_or (take k bytes) 4 0 ≡ get_or bytes 4 0 = get_or-take k bytes 4 0 (omega (arith, fits, size)) in
    let five : get_or (take k bytes) 5 0 ≡ get_or bytes 5 0 = get_or-take k bytes 5 0 (omega (arith, fits, size)) in
    let same : packet_len_of (take k bytes) ≡ packet_len_of bytes = rw (four, five) refl in
    let here = length-take k bytes in
    let least : 8 ≤ length (take k bytes) = omega (arith, here, fits, size, taken.0) in
    let whole : packet_len_of (take k bytes) ≤ length (take k bytes) =
    omega (arith, here, fits, size, same, taken.1) in
    let front : take (packet_len_of bytes) (take k bytes) ≡ take (packet_len_of bytes) bytes =
    grind (arith, take-take) in
    arp_is (take k bytes) least whole ∙ rw (same, front, taken.2) refl

arp_cut : (k : ℕ) (bytes : List ℕ) (r : Result (List ℕ) LenError) (layers : Layers)
    → packet_at bytes ≡ r → arp_layers r ≡ Ok layers → Fits k layers
    → lax_arp_layers (packet_at (take k bytes)) ≡ cut_layers k layers
arp_cut k bytes (Err e) layers at is fits = cc
arp_cut k bytes (Ok packet) layers at is fits =
    let same : record { net = Some (net.Arp packet); transport = None } ≡ layers = cc in
    let enough : length packet + 0 ≤ k = rw (← same) at fits in
    rw (arp_packet_cut k bytes packet at (omega (arith, enough)), ← same) refl

layers_case : CutParts → (four six arp : Bool) (k : ℕ) (bytes : List ℕ) (layers : Layers)
    → (if four then ipv4_layers (ipv4_packet_at bytes)
    else (if six then ipv6_layers (ipv6_packet_at bytes)
    else (if arp then arp_layers (packet_at bytes) else Ok strict.no_layers))) ≡ Ok layers → Fits k layers
    → (if four then lax_ipv4_layers (lax_ipv4_packet_at (take k bytes))
    else (if six then lax_ipv6_layers (lax_ipv6_packet_at (take k bytes))
    else (if arp then lax_arp_layers (packet_at (take k bytes)) else no_layers None)))
    ≡ cut_layers k layers
layers_case law true six arp k bytes layers is fits =
    ipv4_cut law k bytes (ipv4_packet_at bytes) layers refl is fits
layers_case law false true arp k bytes layers is fits =
    ipv6_cut law k bytes (ipv6_packet_at bytes) layers refl is fits
layers_case law false false true k bytes layers is fits =
    arp_cut k bytes (packet_at bytes) layers refl is fits
layers_case law false false false k bytes layers is fits =
    let same : strict.no_layers ≡ layers = cc in
    rw (← same) refl

abbrev lax_layers_by : Named → LaxLayers
lax_layers_by p =
    if p.0.0 == ipv4_type then lax_ipv4_layers (lax_ipv4_packet_at p.1)
    else (if p.0.0 == ipv6_type then lax_ipv6_layers (lax_ipv6_packet_at p.1)
    else (if p.0.0 == arp_type then lax_arp_layers (packet_at p.1)
    else no_layers None))

layers_cut : CutParts → (k : ℕ) (o : Option EtherPayload) (q : Option LaxEtherPayload) (layers : Layers)
    → AreCut k o q → layers_in o ≡ Ok layers → Fits k layers → lax_layers_in q ≡ cut_layers k layers
layers_cut law k None None layers cut is fits =
    let same : strict.no_layers ≡ layers = cc in
    rw (← same) refl
layers_cut law k None (Some q) layers cut is fits = cc
layers_cut law k (Some p) None layers cut is fits = cc
layers_cut law k (Some p) (Some q) layers cut is fits =
    let inside : named_bytes q ≡ cut_named k p = cc in
    ap lax_layers_by inside
    ∙ layers_case law (p.ether_type.0 == ipv4_type) (p.ether_type.0 == ipv6_type)
    (p.ether_type.0 == arp_type) k p.payload layers is fits

-- tags and layers together, after a link header of so many bytes
with_layers : CutParts → (link_len n : ℕ) (old new : LinkSlice) (t : Tagged) (lax : LaxTagged)
    (r : Result Layers SliceError) (packet : SlicedPacket) → AreCutTags n t lax → layers_in t.last ≡ r
    → packet_with (Some old) t.tags (later t.len r) ≡ Ok packet → len_after_link packet ≤ n
    → lax_packet_tagged link_len (Some new) lax ≡ cut_after n (Some new) packet
with_layers law link_len n old new t lax (Err e) packet cut at is fits = cc
with_layers law link_len n old new t lax (Ok layers) packet cut at is fits =
    let same : strict.packet_of (Some old) t.tags layers ≡ packet = cc in
    let enough : tags_len t.tags + (headers_len layers.net + transport_len layers.transport) ≤ n =
    rw (← same) at fits in
    let found = layers_cut law (n - tags_len t.tags) t.last lax.last layers cut.last at
    (omega (arith, enough)) in
    rw (found, cut.tags, cut.stop, ← same) refl

tags_fit : (old : LinkSlice) (t : Tagged) (r : Result Layers SliceError) (packet : SlicedPacket)
    → packet_with (Some old) t.tags (later t.len r) ≡ Ok packet → packet.link_exts.items ≡ t.tags
tags_fit old t r packet is = grind arith

with_tags : CutParts → (link_len n : ℕ) (old new : LinkSlice) (p : EtherPayload) (q : LaxEtherPayload)
    (r : Result Tagged SliceError) (packet : SlicedPacket) → IsCut n p q → tags_in most_tags p ≡ r
    → packet_tagged (Some old) r ≡ Ok packet → len_after_link packet ≤ n
    → lax_packet_tagged link_len (Some new) (lax_tags_in most_tags q) ≡ cut_after n (Some new) packet
with_tags law link_len n old new p q (Err e) packet cut at is fits = cc
with_tags law link_len n old new p q (Ok t) packet cut at is fits =
    let same = tags_fit old t (layers_in t.last) packet is in
    let size : tags_len t.tags ≤ n = omega (arith, fits, ap tags_len same) in
    with_layers law link_len n old new t (lax_tags_in most_tags q) (layers_in t.last) packet
    (tags_cut law 3 n p q t cut at size) refl is fits

after_cut : CutParts → (link_len n : ℕ) (old new : LinkSlice) (p q : EtherPayload) (packet : SlicedPacket)
    → packet_after old p ≡ Ok packet → q.ether_type ≡ p.ether_type → q.payload ≡ take n p.payload
    → len_after_link packet ≤ n → lax_packet_after link_len new q ≡ cut_after n (Some new) packet
after_cut law link_len n old new p q packet is named there fits =
    with_tags law link_len n old new p (complete_ether q) (tags_in most_tags p) packet
    (λ i. (named i, there i)) refl is fits

link_is : (old : LinkSlice) (p : EtherPayload) (packet : SlicedPacket) → packet_after old p ≡ Ok packet
    → packet.link ≡ Some old
link_is old p packet is = grind arith

later_ok : (n : ℕ) (r : Result SlicedPacket SliceError) (packet : SlicedPacket)
    → later n r ≡ Ok packet → r ≡ Ok packet
later_ok n r packet is = grind arith

-- the packet of which the first n bytes are there, by its link header
by_link : (n : ℕ) (header : LinkSlice) (packet : SlicedPacket) → packet.link ≡ Some header
    → all_headers_len packet ≤ n → (link_len (Some header) ≤ n)
    × (len_after_link packet ≤ n - link_len (Some header))
    × (cut_packet n packet ≡ cut_after (n - link_len (Some header)) (Some (cut_link n header)) packet)
by_link n header packet is fits =
    let size : link_len (Some header) + len_after_link packet ≤ n = rw is at fits in
    (omega (arith, size), omega (arith, size), rw is refl)

ethernet_case : CutParts → (short : Bool) (n : ℕ) (bytes : List ℕ) (packet : SlicedPacket)
    → in_frame (if short then Err (too_few_bytes Ethernet2Header ethernet_len (length bytes)) else Ok bytes)
    ≡ Ok packet → nat_lt (length bytes) ethernet_len ≡ short → all_headers_len packet ≤ n
    → lax_sliced_ethernet (take n bytes) ≡ Ok (cut_packet n packet)
ethernet_case law true n bytes packet is size fits = cc
ethernet_case law false n bytes packet is size fits =
    let frame : LinkSlice = link.Ethernet2 (without_fcs bytes) in
    let inner = later_ok ethernet_len (packet_after frame (payload_of bytes)) packet is in
    let parts = by_link n frame packet (link_is frame (payload_of bytes) packet inner) fits in
    let whole : nat_lt (length (take n bytes)) ethernet_len ≡ false =
    grind (arith, nat_tests, length-take n bytes, parts.0) in
    let high = get_or-take n bytes 12 0 (omega (arith, parts.0)) in
    let low = get_or-take n bytes 13 0 (omega (arith, parts.0)) in
    let named : next_type_of (take n bytes) ≡ next_type_of bytes = rw (high, low) refl in
    let found = after_cut law ethernet_len (n - ethernet_len) frame (cut_link n frame) (payload_of bytes)
    (payload_of (take n bytes)) packet inner named (drop_in ethernet_len n bytes parts.0) parts.1 in
    rw (whole, parts.2) (ap (λ (x : LaxSlicedPacket). Ok x) found)

pub ethernet_cut : CutParts → (n : ℕ) (bytes : List ℕ) (packet : SlicedPacket)
    → sliced_ethernet bytes ≡ Ok packet → all_headers_len packet ≤ n
    → lax_sliced_ethernet (take n bytes) ≡ Ok (cut_packet n packet)
ethernet_cut law n bytes packet is fits =
    ethernet_case law (nat_lt (length bytes) ethernet_len) n bytes packet is refl fits

-- cooked captures
named_link : (bytes : List ℕ) (o : Option EtherPayload) (packet : SlicedPacket)
    → in_linux_sll bytes o ≡ Ok packet → packet.link ≡ Some (link.LinuxSll bytes)
named_link bytes None packet is = grind arith
named_link bytes (Some p) packet is =
    link_is (link.LinuxSll bytes) p packet (later_ok sll_len _ packet is)

no_ether_type : (n : ℕ) (bytes : List ℕ) (packet : SlicedPacket) → in_linux_sll bytes None ≡ Ok packet
    → in_lax_linux_sll (take n bytes) None ≡ cut_packet n packet
no_ether_type n bytes packet is =
    let same : strict.packet_of (Some (link.LinuxSll bytes)) [] strict.no_layers ≡ packet = cc in
    rw (← same) refl

named_cut : CutParts → (t : LinuxSllProtocolType) (n : ℕ) (bytes following : List ℕ)
    (packet : SlicedPacket) → in_linux_sll bytes (sll.ether_payload_of t following) ≡ Ok packet
    → all_headers_len packet ≤ n
    → in_lax_linux_sll (take n bytes) (sll.ether_payload_of t (take (n - sll_len) following))
    ≡ cut_packet n packet
named_cut law (protocol.EtherType t) n bytes following packet is fits =
    let header : LinkSlice = link.LinuxSll bytes in
    let old : EtherPayload = record { ether_type = t; len_source = Slice; payload = following } in
    let new : EtherPayload = record old { payload = take (n - sll_len) following } in
    let inner = later_ok sll_len (packet_after header old) packet is in
    let parts = by_link n header packet (link_is header old packet inner) fits in
    after_cut law sll_len (n - sll_len) header (cut_link n header) old new packet inner refl refl parts.1
    ∙ sym parts.2
named_cut law (protocol.Ignored t) n bytes following packet is fits = no_ether_type n bytes packet is
named_cut law (protocol.NetlinkProtocolType t) n bytes following packet is fits =
    no_ether_type n bytes packet is
named_cut law (protocol.GenericRoutingEncapsulationProtocolType t) n bytes following packet is fits =
    no_ether_type n bytes packet is
named_cut law (protocol.LinuxNonstandardEtherType t) n bytes following packet is fits =
    no_ether_type n bytes packet is

pub cooked_taken : (bytes found : List ℕ) → sll_fault.whole_at bytes ≡ Ok found → (sll_len ≤ length bytes)
    × (packet_type_of bytes ≤ greatest_packet_type) × (bytes ≡ found)
cooked_taken bytes found is = grind (arith, nat_tests)

pub cooked_is : (bytes : List ℕ) → sll_len ≤ length bytes → packet_type_of bytes ≤ greatest_packet_type
    → sll_fault.whole_at bytes ≡ Ok bytes
cooked_is bytes size kind = grind (arith, nat_tests)

cooked_case : CutParts → (n : ℕ) (bytes : List ℕ) (r : Result (List ℕ) (HeaderSliceError SllFault))
    (packet : SlicedPacket) → sll_fault.whole_at bytes ≡ r → in_cooked r ≡ Ok packet
    → all_headers_len packet ≤ n → lax_sliced_linux_sll (take n bytes) ≡ Ok (cut_packet n packet)
cooked_case law n bytes (Err e) packet at is fits = cc
cooked_case law n bytes (Ok found) packet at is fits =
    let taken = cooked_taken bytes found at in
    let inside : in_linux_sll bytes (sll.named_payload (sll.payload_of bytes)) ≡ Ok packet =
    rw taken.2 is in
    let header = named_link bytes (sll.named_payload (sll.payload_of bytes)) packet inside in
    let parts = by_link n (link.LinuxSll bytes) packet header fits in
    let b0 = get_or-take n bytes 0 0 (omega (arith, parts.0)) in
    let b1 = get_or-take n bytes 1 0 (omega (arith, parts.0)) in
    let b2 = get_or-take n bytes 2 0 (omega (arith, parts.0)) in
    let b3 = get_or-take n bytes 3 0 (omega (arith, parts.0)) in
    let b14 = get_or-take n bytes 14 0 (omega (arith, parts.0)) in
    let b15 = get_or-take n bytes 15 0 (omega (arith, parts.0)) in
    let kind : packet_type_of (take n bytes) ≡ packet_type_of bytes = rw (b0, b1) refl in
    let protocol : (sll.payload_of (take n bytes)).protocol_type ≡ (sll.payload_of bytes).protocol_type =
    rw (b2, b3, b14, b15) refl in
    let here = cooked_is (take n bytes) (omega (arith, length-take n bytes, taken.0, parts.0))
    (omega (arith, kind, taken.1)) in
    let named = named_cut law (sll.payload_of bytes).protocol_type n bytes (drop sll_len bytes) packet
    inside fits in
    rw here (ap (λ (x : LaxSlicedPacket). Ok x)
    (ap₂ (λ (t : LinuxSllProtocolType) (xs : List ℕ). in_lax_linux_sll (take n bytes) (sll.ether_payload_of t xs))
    protocol (drop_in sll_len n bytes parts.0) ∙ named))

pub linux_sll_cut : CutParts → (n : ℕ) (bytes : List ℕ) (packet : SlicedPacket)
    → sliced_linux_sll bytes ≡ Ok packet → all_headers_len packet ≤ n
    → lax_sliced_linux_sll (take n bytes) ≡ Ok (cut_packet n packet)
linux_sll_cut law n bytes packet is fits =
    cooked_case law n bytes (sll_fault.whole_at bytes) packet refl is fits

-- bytes after an ether type, and IP packets
pub ether_type_cut : CutParts → (t : EtherType) (n : ℕ) (bytes : List ℕ) (packet : SlicedPacket)
    → sliced_ether_type t bytes ≡ Ok packet → all_headers_len packet ≤ n
    → lax_sliced_ether_type t (take n bytes) ≡ cut_packet n packet
ether_type_cut law t n bytes packet is fits =
    let header : LinkSlice = link.EtherPayload (ether_payload t bytes) in
    let parts = by_link n header packet (link_is header (ether_payload t bytes) packet is) fits in
    let all : n - 0 ≡ n = omega arith in
    after_cut law 0 (n - 0) header (cut_link n header) (ether_payload t bytes) (ether_payload t (take n bytes))
    packet is refl (ap (λ (k : ℕ). take k bytes) (sym all)) parts.1 ∙ sym parts.2

without_link : (n : ℕ) (layers : Layers) (packet : SlicedPacket)
    → strict.packet_of None [] layers ≡ packet → all_headers_len packet ≤ n → Fits n layers
    × (lax_packet_of None [] (cut_layers n layers) ≡ cut_packet n packet)
without_link n layers packet same fits =
    let size : 0 + (0 + (headers_len layers.net + transport_len layers.transport)) ≤ n = rw (← same) at fits in
    let all : n - 0 - 0 ≡ n = omega arith in
    (omega (arith, size), rw (← same, all) refl)

ip_cut : CutParts → (n : ℕ) (found : IpSlice) (r : Result Layers SliceError) (packet : SlicedPacket)
    → ip_layers (Ok found) ≡ r → packet_with None [] r ≡ Ok packet → all_headers_len packet ≤ n
    → (ip_headers_len found ≤ n)
    × (lax_packet_of None [] (in_lax_ip (cut_ip n found) None) ≡ cut_packet n packet)
ip_cut law n found (Err e) packet at is fits = cc
ip_cut law n (ip.Ipv4 found) (Ok layers) packet at is fits =
    let same : strict.packet_of None [] layers ≡ packet = cc in
    let parts = without_link n layers packet same fits in
    let inside = ipv4_in_cut law n found layers at parts.0 in
    (inside.0, ap (lax_packet_of None []) inside.1 ∙ parts.1)
ip_cut law n (ip.Ipv6 found) (Ok layers) packet at is fits =
    let same : strict.packet_of None [] layers ≡ packet = cc in
    let parts = without_link n layers packet same fits in
    let inside = ipv6_in_cut law n found layers at parts.0 in
    (inside.0, ap (lax_packet_of None []) inside.1 ∙ parts.1)

version_cut : CutParts → (n : ℕ) (bytes : List ℕ) (r : Result IpSlice IpFault) (packet : SlicedPacket)
    → ip_packet_at bytes ≡ r → packet_with None [] (ip_layers r) ≡ Ok packet → all_headers_len packet ≤ n
    → lax_sliced_ip (take n bytes) ≡ Ok (cut_packet n packet)
version_cut law n bytes (Err e) packet at is fits = cc
version_cut law n bytes (Ok found) packet at is fits =
    let inside = ip_cut law n found (ip_layers (Ok found)) packet refl is fits in
    rw (law.ip n bytes found at inside.0) (ap (λ (x : LaxSlicedPacket). Ok x) inside.1)

pub ip_packet_cut : CutParts → (n : ℕ) (bytes : List ℕ) (packet : SlicedPacket)
    → sliced_ip bytes ≡ Ok packet → all_headers_len packet ≤ n
    → lax_sliced_ip (take n bytes) ≡ Ok (cut_packet n packet)
ip_packet_cut law n bytes packet is fits = version_cut law n bytes (ip_packet_at bytes) packet refl is fits
