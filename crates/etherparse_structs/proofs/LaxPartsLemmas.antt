-- The parts of a packet as far as it is there, in its bytes.
use Rattle.std.proofs.Common.{◌≡◌, ◌∙◌, ap, sym, subst, refl, ℕ, zero, suc, ◌+◌, ◌-◌, ◌≤◌, ◌==◌, Bool, false, List, []}
use Rattle.std.proofs.Common.{◌∷◌, length, take, drop, Option, Some, None, Result, Ok, Err, IfOk, IfSome, arith}
use Rattle.std.proofs.lemmas.Bool.{ltb-false}
use Rattle.std.specs.List.{slice_get}
use Rattle.std.specs.Option.{option_map}
use Rattle.std.specs.Prelude.{unwrap_or}
use Rattle.etherparse.specs.base.declared.err.layer.Layer.{Layer}
use Rattle.etherparse.specs.base.declared.err.layer.Layer.TheVariants.{VlanHeader}
use Rattle.etherparse.specs.base.declared.err.len_error.LenError.{LenError}
use Rattle.etherparse.specs.base.declared.err.slice_error.SliceError.{SliceError as HeaderSliceError}
use Rattle.etherparse.specs.base.declared.len_source.LenSource.{LenSource}
use Rattle.etherparse.specs.base.declared.len_source.LenSource.TheVariants.{Slice}
use Rattle.etherparse.specs.ext.Ipv4Exts.{auth_bytes}
use Rattle.etherparse.specs.ip.declared.err.ipv4.header_error.HeaderError.{HeaderError as Ipv4HeaderFault}
use Rattle.etherparse.specs.ip.declared.err.ipv6.header_error.HeaderError.{HeaderError as Ipv6HeaderFault}
use Rattle.etherparse.specs.ipslice.LaxPackets.{StoppedIpv4, StoppedIpv6, lax_ipv4_packet_at, lax_ipv6_packet_at}
use Rattle.etherparse.specs.link.Arp as arp
use Rattle.etherparse.specs.link.declared.link.link_slice.LinkSlice.{LinkSlice}
use Rattle.etherparse.specs.packet.LaxSliced.{LaxLayers, in_lax_ipv4, in_lax_ipv6, lax_arp_layers, lax_ipv4_layers, lax_ipv6_layers}
use Rattle.etherparse.specs.packet.LaxSliced.{lax_layers_in, lax_layers_of, lax_packet_tagged, lax_transport_in}
use Rattle.etherparse.specs.packet.LaxTags.{LaxTagged, Stop, lax_tag_at, lax_tags_in}
use Rattle.etherparse.specs.packet.LaxView.{bound_after, bounded, lax_named_by}
use Rattle.etherparse.specs.packet.Parts.{IsAt, StandAt, transport_bytes}
use Rattle.etherparse.specs.packet.Sliced.{arp_type, ipv4_type, ipv6_type}
use Rattle.etherparse.specs.packet.Tags.{find_tags, is_macsec_type, tags_from}
use Rattle.etherparse.specs.packet.declared.net.lax_net_slice.LaxNetSlice.{LaxNetSlice}
use Rattle.etherparse.specs.packet.declared.net.lax_net_slice.LaxNetSlice.TheVariants as net
use Rattle.etherparse.specs.packet.declared.transport.transport_slice.TransportSlice.{TransportSlice}
use Rattle.etherparse.specs.tag.Ether.{LaxEtherPayload}
use Rattle.etherparse.specs.tag.LinkExt.{lax_payload_after, lax_tag_len}
use Rattle.etherparse.specs.tag.Macsec.{header_len_of}
use Rattle.etherparse.specs.tag.MacsecFault.{header_at}
use Rattle.etherparse.specs.tag.MacsecLax.{LaxMacsecPayload, LaxModified, LaxUnmodified, lax_macsec_after}
use Rattle.etherparse.specs.tag.MacsecLax.{lax_macsec_with, lax_named_payload}
use Rattle.etherparse.specs.tag.Prefix.{whole_at}
use Rattle.etherparse.specs.tag.Vlan.{is_vlan_type, vlan_len}
use Rattle.etherparse.specs.tag.declared.err.macsec.header_error.HeaderError.{HeaderError}
use Rattle.etherparse.specs.tag.declared.link.lax_link_ext_slice.LaxLinkExtSlice.{LaxLinkExtSlice}
use Rattle.etherparse.specs.tag.declared.link.lax_link_ext_slice.LaxLinkExtSlice.TheVariants as tag
use Rattle.etherparse_structs.specs.LaxParts.{AreLaxPartsOf, AreLaxTagsAt, IsLaxNetAt, IsLaxTagAt, lax_macsec_bytes, lax_tags_len}
use Rattle.etherparse_structs.specs.Net.{message_offset_in}
use Rattle.etherparse_structs.proofs.LaxMessageParts.{transport_at}
use Rattle.etherparse_structs.proofs.LaxNetParts.{arp_stands, ipv4_stands, ipv6_stands}
use Rattle.etherparse_structs.proofs.PartOffsets.{prefix_is, stand_later}
use Rattle.ep_packet.proofs.ClassLemmas.{chosen}
use Rattle.ep_packet.proofs.PartsLemmas.{at_whole, at_take, at_drop, at_same_position, at_later}
use Rattle.ep_packet.proofs.LaxTagsLemmas.{lax_vlan_tag, lax_macsec_tag}

-- network layer and transport layer from this offset on
pub record LayersAt (frame : List ℕ) (position : ℕ) (packet : Option LaxNetSlice)
    (message : Option TransportSlice) : Type 0 where
  pub net : IfSome packet (IsLaxNetAt frame position)
  pub transport : IfSome message (λ m. IsAt frame (message_offset_in position packet) (transport_bytes m))

no_layer : (frame : List ℕ) (position : ℕ) → LayersAt frame position None None
no_layer frame position = record { net = tt; transport = tt }

-- a message in bytes at this offset
message_moved : (frame bytes : List ℕ) (position p q : ℕ) → position + p ≡ q → IsAt frame position bytes
    → (o : Option TransportSlice) → IfSome o (λ m. IsAt bytes p (transport_bytes m))
    → IfSome o (λ m. IsAt frame q (transport_bytes m))
message_moved frame bytes position p q sum at None here = tt
message_moved frame bytes position p q sum at (Some m) here =
    at_later frame bytes (transport_bytes m) position p q sum at here

abbrev layers_of : LaxLayers → List ℕ → Type 0
layers_of layers bytes = LayersAt bytes 0 layers.net layers.transport

pub in_ipv4 : (bytes : List ℕ) (s : StoppedIpv4) (stop : Option Stop)
    → StandAt bytes 0 s.0.header (auth_bytes s.0.auth) s.0.payload.payload
    → LayersAt bytes 0 (in_lax_ipv4 s.0 stop).net (in_lax_ipv4 s.0 stop).transport
in_ipv4 bytes s stop at =
    record {
      net = at;
      transport = message_moved bytes s.0.payload.payload _ 0 _ (omega arith) at.2
          (lax_transport_in (length s.0.header + length (auth_bytes s.0.auth)) s.0.payload stop).0
          (transport_at (length s.0.header + length (auth_bytes s.0.auth)) s.0.payload stop);
    }

pub in_ipv6 : (bytes : List ℕ) (s : StoppedIpv6) (stop : Option Stop)
    → StandAt bytes 0 s.0.header s.0.exts.slice s.0.payload.payload
    → LayersAt bytes 0 (in_lax_ipv6 s.0 stop).net (in_lax_ipv6 s.0 stop).transport
in_ipv6 bytes s stop at =
    record {
      net = at;
      transport = message_moved bytes s.0.payload.payload _ 0 _ (omega arith) at.2
          (lax_transport_in (length s.0.header + length s.0.exts.slice) s.0.payload stop).0
          (transport_at (length s.0.header + length s.0.exts.slice) s.0.payload stop);
    }

ipv4_case : (bytes : List ℕ) (r : Result StoppedIpv4 (HeaderSliceError Ipv4HeaderFault))
    → lax_ipv4_packet_at bytes ≡ r → layers_of (lax_ipv4_layers r) bytes
ipv4_case bytes (Ok s) at = in_ipv4 bytes s _ (ipv4_stands bytes s at)
ipv4_case bytes (Err e) at = no_layer bytes 0

ipv6_case : (bytes : List ℕ) (r : Result StoppedIpv6 (HeaderSliceError Ipv6HeaderFault))
    → lax_ipv6_packet_at bytes ≡ r → layers_of (lax_ipv6_layers r) bytes
ipv6_case bytes (Ok s) at = in_ipv6 bytes s _ (ipv6_stands bytes s at)
ipv6_case bytes (Err e) at = no_layer bytes 0

arp_case : (bytes : List ℕ) (r : Result (List ℕ) LenError) → arp.packet_at bytes ≡ r
    → layers_of (lax_arp_layers r) bytes
arp_case bytes (Ok packet) at = record { net = arp_stands bytes packet at; transport = tt }
arp_case bytes (Err e) at = no_layer bytes 0

layers_at : (p : LaxEtherPayload) → layers_of (lax_layers_of p) p.payload
layers_at p =
    let P : LaxLayers → Type 0 = λ layers. layers_of layers p.payload in
    chosen P (p.ether_type.0 == ipv4_type) _ _ (ipv4_case p.payload (lax_ipv4_packet_at p.payload) refl)
    (chosen P (p.ether_type.0 == ipv6_type) _ _ (ipv6_case p.payload (lax_ipv6_packet_at p.payload) refl)
    (chosen P (p.ether_type.0 == arp_type) _ _ (arp_case p.payload (arp.packet_at p.payload) refl)
    (no_layer p.payload 0)))

-- the same later
net_later : (frame bytes : List ℕ) (position : ℕ) → IsAt frame position bytes
    → (packet : Option LaxNetSlice) → IfSome packet (IsLaxNetAt bytes 0)
    → IfSome packet (IsLaxNetAt frame position)
net_later frame bytes position at None here = tt
net_later frame bytes position at (Some (net.Ipv4 packet)) here =
    stand_later frame bytes packet.header (auth_bytes packet.auth) packet.payload.payload position at here
net_later frame bytes position at (Some (net.Ipv6 packet)) here =
    stand_later frame bytes packet.header packet.exts.slice packet.payload.payload position at here
net_later frame bytes position at (Some (net.Arp packet)) here =
    at_later frame bytes packet position 0 position (omega arith) at here

offset_later : (position : ℕ) (packet : Option LaxNetSlice)
    → position + message_offset_in 0 packet ≡ message_offset_in position packet
offset_later position None = omega arith
offset_later position (Some (net.Ipv4 packet)) = omega arith
offset_later position (Some (net.Ipv6 packet)) = omega arith
offset_later position (Some (net.Arp packet)) = omega arith

layers_later : (frame bytes : List ℕ) (position : ℕ) (packet : Option LaxNetSlice)
    (message : Option TransportSlice) → IsAt frame position bytes → LayersAt bytes 0 packet message
    → LayersAt frame position packet message
layers_later frame bytes position packet message at here = record {
  net = net_later frame bytes position at packet here.net;
  transport = message_moved frame bytes position (message_offset_in 0 packet)
      (message_offset_in position packet) (offset_later position packet) at message here.transport;
}

-- a tag at the start of some bytes, and what follows it
record TagAt (bytes : List ℕ) (t : LaxLinkExtSlice) : Type 0 where
  tag_at : IsLaxTagAt bytes 0 t
  next : IfSome (lax_payload_after t) (λ q. IsAt bytes (lax_tag_len t) q.payload)

pub whole_is : (layer : Layer) (n : ℕ) (bytes taken : List ℕ) → whole_at layer n bytes ≡ Ok taken
    → (taken ≡ bytes) × (n ≤ length bytes)
whole_is layer n bytes taken same = grind arith

vlan_case : (bytes : List ℕ) (r : Result (List ℕ) LenError) → whole_at VlanHeader vlan_len bytes ≡ r
    → IfOk (lax_vlan_tag r) (λ o. IfSome o (TagAt bytes))
vlan_case bytes (Ok taken) at =
    let is = whole_is VlanHeader vlan_len bytes taken at in
    subst (λ (xs : List ℕ). TagAt bytes (tag.Vlan xs)) (sym is.0)
    (record { tag_at = at_whole bytes; next = at_drop vlan_len bytes is.1 })
vlan_case bytes (Err e) at = tt

macsec_header_is : (bytes header : List ℕ) → header_at bytes ≡ Ok header
    → (header ≡ take (header_len_of bytes) bytes) × (header_len_of bytes ≤ length bytes)
macsec_header_is bytes header at = grind (arith, ltb-false)

under_at : (header rest : List ℕ) → IsAt rest 0 (lax_macsec_bytes (lax_macsec_with header rest).payload)
under_at header rest = grind (arith, at_take, at_whole)

named_at : (bytes : List ℕ) (n : ℕ) (payload : LaxMacsecPayload) → IsAt bytes n (lax_macsec_bytes payload)
    → IfSome (lax_named_payload payload) (λ q. IsAt bytes n q.payload)
named_at bytes n (LaxUnmodified p) at = at
named_at bytes n (LaxModified incomplete payload) at = tt

macsec_with : (bytes header : List ℕ) → header_at bytes ≡ Ok header
    → TagAt bytes (tag.Macsec (lax_macsec_with header (drop (length header) bytes)))
macsec_with bytes header at =
    let is = macsec_header_is bytes header at in
    let known = prefix_is (header_len_of bytes) bytes header is.0 is.1 in
    let rest : List ℕ = drop (length header) bytes in
    let payload = (lax_macsec_with header rest).payload in
    let follows : IsAt bytes (length header) rest =
    at_drop (length header) bytes (omega (arith, known.0, is.1)) in
    let inside : IsAt bytes (length header) (lax_macsec_bytes payload) =
    at_later bytes rest (lax_macsec_bytes payload) (length header) 0 (length header) (omega arith) follows
    (under_at header rest) in
    let front : IsAt bytes 0 header =
    subst (IsAt bytes 0) (sym is.0) (at_take (header_len_of bytes) bytes) in
    record {
      tag_at = (front, at_same_position bytes (lax_macsec_bytes payload) (length header) (0 + length header) (omega arith) inside);
      next = named_at bytes (length header) payload inside;
    }

macsec_after : (bytes : List ℕ) (h : Result (List ℕ) (HeaderSliceError HeaderError))
    → header_at bytes ≡ h
    → IfOk (lax_macsec_tag (lax_macsec_after bytes h)) (λ o. IfSome o (TagAt bytes))
macsec_after bytes (Ok header) at = macsec_with bytes header at
macsec_after bytes (Err e) at = tt

tag_of : (p : LaxEtherPayload) → IfOk (lax_tag_at p) (λ o. IfSome o (TagAt p.payload))
tag_of p =
    let P : Result (Option LaxLinkExtSlice) Stop → Type 0 =
    λ r. IfOk r (λ o. IfSome o (TagAt p.payload)) in
    chosen P (is_vlan_type p.ether_type) _ _
    (vlan_case p.payload (whole_at VlanHeader vlan_len p.payload) refl)
    (chosen P (is_macsec_type p.ether_type) _ _
    (macsec_after p.payload (header_at p.payload) refl) tt)

-- what the last of tags names, or without one this
abbrev named_last : Option LaxEtherPayload → List LaxLinkExtSlice → Option LaxEtherPayload
named_last o [] = o
named_last o (t ∷ tags) = named_last (lax_payload_after t) tags

-- tags after this payload, what the last of them names, and what is read after them
record TagsAt (bytes : List ℕ) (o : Option LaxEtherPayload) (t : LaxTagged) : Type 0 where
  tags_at : AreLaxTagsAt bytes 0 t.tags
  size : t.len ≡ lax_tags_len t.tags
  named_at : IfSome (named_last o t.tags) (λ q. IsAt bytes t.len q.payload)
  last_at : IfSome t.last (λ q. IsAt bytes t.len q.payload)

tag_later : (frame bytes : List ℕ) (position p q : ℕ) (t : LaxLinkExtSlice) → position + p ≡ q
    → IsAt frame position bytes → IsLaxTagAt bytes p t → IsLaxTagAt frame q t
tag_later frame bytes position p q (tag.Vlan xs) sum at here =
    at_later frame bytes xs position p q sum at here
tag_later frame bytes position p q (tag.Macsec m) sum at here = (
  at_later frame bytes m.header position p q sum at here.0,
  at_later frame bytes (lax_macsec_bytes m.payload) position (p + length m.header) (q + length m.header)
      (omega (arith, sum)) at here.1,
)

tags_later : (frame bytes : List ℕ) (position p q : ℕ) (tags : List LaxLinkExtSlice) → position + p ≡ q
    → IsAt frame position bytes → AreLaxTagsAt bytes p tags → AreLaxTagsAt frame q tags
tags_later frame bytes position p q [] sum at here = tt
tags_later frame bytes position p q (t ∷ tags) sum at here = (
  tag_later frame bytes position p q t sum at here.0,
  tags_later frame bytes position (p + lax_tag_len t) (q + lax_tag_len t) tags (omega (arith, sum)) at here.1,
)

last_later : (frame bytes : List ℕ) (position p q : ℕ) (last : Option LaxEtherPayload) → position + p ≡ q
    → IsAt frame position bytes → IfSome last (λ next. IsAt bytes p next.payload)
    → IfSome last (λ next. IsAt frame q next.payload)
last_later frame bytes position p q None sum at here = tt
last_later frame bytes position p q (Some next) sum at here =
    at_later frame bytes next.payload position p q sum at here

abbrev no_tags : LaxTagged
no_tags = record { tags = []; len = 0; last = None; stop = None }

further : (read : LaxEtherPayload → LaxTagged) (bytes : List ℕ) (t : LaxLinkExtSlice)
    (o next : Option LaxEtherPayload) → lax_payload_after t ≡ next
    → ((q : LaxEtherPayload) → TagsAt q.payload (Some q) (read q))
    → IsLaxTagAt bytes 0 t → IfSome next (λ q. IsAt bytes (lax_tag_len t) q.payload)
    → let more : LaxTagged = unwrap_or (option_map read next) no_tags in
    TagsAt bytes o
    (record { tags = t ∷ more.tags; len = lax_tag_len t + more.len; last = more.last; stop = more.stop })
further read bytes t o None is each at named = record {
  tags_at = (at, tt);
  size = refl;
  named_at = subst (λ (n : Option LaxEtherPayload). IfSome n (λ q. IsAt bytes (lax_tag_len t + 0) q.payload))
      (sym is) tt;
  last_at = tt;
}
further read bytes t o (Some q) is each at named =
    let more = each q in
    record {
      tags_at = (
        at,
        tags_later bytes q.payload (lax_tag_len t) 0 (0 + lax_tag_len t) (read q).tags (omega arith)
            named more.tags_at,
      );
      size = omega (arith, more.size);
      named_at = subst (λ (n : Option LaxEtherPayload). IfSome (named_last n (read q).tags)
          (λ next. IsAt bytes (lax_tag_len t + (read q).len) next.payload)) (sym is)
          (last_later bytes q.payload (lax_tag_len t) (read q).len (lax_tag_len t + (read q).len)
          (named_last (Some q) (read q).tags) refl named more.named_at);
      last_at = last_later bytes q.payload (lax_tag_len t) (read q).len (lax_tag_len t + (read q).len)
          (read q).last refl named more.last_at;
    }

from_tag : (read : LaxEtherPayload → LaxTagged) (p : LaxEtherPayload)
    (found : Result (Option LaxLinkExtSlice) Stop)
    → ((q : LaxEtherPayload) → TagsAt q.payload (Some q) (read q))
    → IfOk found (λ o. IfSome o (TagAt p.payload))
    → TagsAt p.payload (Some p) (tags_from lax_tag_len lax_payload_after read p found)
from_tag read p (Err stop) each here =
    record { tags_at = tt; size = refl; named_at = at_whole p.payload; last_at = tt }
from_tag read p (Ok None) each here =
    record { tags_at = tt; size = refl; named_at = at_whole p.payload; last_at = at_whole p.payload }
from_tag read p (Ok (Some t)) each here =
    further read p.payload t (Some p) (lax_payload_after t) refl each here.tag_at here.next

abbrev found_in : ℕ → LaxEtherPayload → LaxTagged
found_in n p = find_tags lax_tag_at lax_tag_len lax_payload_after n p

found_at : (n : ℕ) (p : LaxEtherPayload) → TagsAt p.payload (Some p) (found_in n p)
found_at zero p = record { tags_at = tt; size = refl; named_at = at_whole p.payload; last_at = at_whole p.payload }
found_at (suc n) p = from_tag (found_in n) p (lax_tag_at p) (found_at n) (tag_of p)

tags_at : (n : ℕ) (p : LaxEtherPayload) → TagsAt p.payload (Some p) (lax_tags_in n p)
unfolding lax_tags_in
tags_at n p =
    let found = found_at n p in
    record { tags_at = found.tags_at; size = found.size; named_at = found.named_at; last_at = found.last_at }

-- the layers after the tags
layers_in : (bytes : List ℕ) (position : ℕ) (last : Option LaxEtherPayload)
    → IfSome last (λ q. IsAt bytes position q.payload)
    → LayersAt bytes position (lax_layers_in last).net (lax_layers_in last).transport
layers_in bytes position None at = no_layer bytes position
layers_in bytes position (Some q) at =
    layers_later bytes q.payload position (lax_layers_of q).net (lax_layers_of q).transport at (layers_at q)

-- what the last ether type names, by the tag of the last index
named_of : (header : Option LinkSlice) (t : LaxLinkExtSlice) (tags : List LaxLinkExtSlice)
    → lax_named_by header (slice_get (t ∷ tags) (length tags)) ≡ named_last (lax_payload_after t) tags
named_of header t [] = refl
named_of header t (u ∷ tags) = named_of header u tags

is_named : (header : Option LinkSlice) (o : Option LaxEtherPayload) → lax_named_by header None ≡ o
    → (tags : List LaxLinkExtSlice)
    → lax_named_by header (slice_get tags (length tags - 1)) ≡ named_last o tags
is_named header o of [] = of
is_named header o of (t ∷ tags) =
    let before : length (t ∷ tags) - 1 ≡ length tags = omega arith in
    ap (λ (n : ℕ). lax_named_by header (slice_get (t ∷ tags) n)) before ∙ named_of header t tags

with_bound : (P : List ℕ → Type 0) (bound : Bool × LenSource) (o : Option LaxEtherPayload)
    → IfSome o (λ q. P q.payload) → IfSome (option_map (bounded bound) o) (λ q. P q.payload)
with_bound P bound None here = tt
with_bound P bound (Some q) here = here

-- what follows a link header of this length
pub parts_after : (frame payload : List ℕ) (link_len n : ℕ) (header : Option LinkSlice)
    (p : LaxEtherPayload) → lax_named_by header None ≡ Some p → p.payload ≡ payload
    → IsAt frame link_len payload
    → AreLaxPartsOf frame link_len (lax_packet_tagged link_len header (lax_tags_in n p))
parts_after frame payload link_len n header p of is at =
    let t = lax_tags_in n p in
    let inside : IsAt frame link_len p.payload = subst (IsAt frame link_len) (sym is) at in
    let tagged = tags_at n p in
    let last = last_later frame p.payload link_len t.len (link_len + lax_tags_len t.tags) t.last
    (omega (arith, tagged.size)) inside tagged.last_at in
    let layers = layers_in frame (link_len + lax_tags_len t.tags) t.last last in
    record {
      tags = tags_later frame p.payload link_len 0 link_len t.tags (omega arith) inside tagged.tags_at;
      ether = with_bound (IsAt frame (link_len + lax_tags_len t.tags)) (bound_after (false, Slice) t.tags) _
          (subst (λ (o : Option LaxEtherPayload). IfSome o
          (λ q. IsAt frame (link_len + lax_tags_len t.tags) q.payload)) (sym (is_named header (Some p) of t.tags))
          (last_later frame p.payload link_len t.len (link_len + lax_tags_len t.tags)
          (named_last (Some p) t.tags) (omega (arith, tagged.size)) inside tagged.named_at));
      net = layers.net;
      transport = layers.transport;
    }
