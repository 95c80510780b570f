-- The layers of a packet together.
use Rattle.std.proofs.Common.{◌≡◌, ℕ, ◌≤◌, drop, ◌+◌, List, length, Option, Some, None, Result, Ok, Err, IfOk}
use Rattle.std.proofs.Common.{IfSome, IsSome, ◌<◌, ◌^◌, arith, sym, subst}
use Rattle.std.specs.Option.{ok_or}
use Rattle.ep_ext.specs.Ipv4Exts.{auth_bytes}
use Rattle.ep_link.specs.Sll.{sll_len}
use Rattle.ep_link.specs.SllFault.{whole_at as sll_at}
use Rattle.ep_link.specs.SllPayload.{ether_payload_of, named_payload, payload_of}
use Rattle.ep_link.specs.declared.link.linux_sll_protocol_type.LinuxSllProtocolType.{LinuxSllProtocolType}
use Rattle.ep_link.specs.declared.link.link_slice.LinkSlice.{LinkSlice}
use Rattle.ep_packet.specs.Parts.{ArePartsOf, IsAt, IsNetAt, LayersIn, StandAt, TagsIn, headers_len}
use Rattle.ep_packet.specs.Parts.{tags_len, transport_bytes}
use Rattle.ep_packet.specs.SliceFault.{later, offset_by, fault_offset}
use Rattle.ep_packet.specs.Sliced.{Layers, layers_in, no_layers, packet_after, packet_of}
use Rattle.ep_packet.specs.Tags.{Tagged, tags_in}
use Rattle.ep_packet.specs.declared.err.packet.slice_error.SliceError.{SliceError}
use Rattle.ep_packet.specs.declared.net.net_slice.NetSlice.{NetSlice}
use Rattle.ep_packet.specs.declared.net.net_slice.NetSlice.TheVariants as net
use Rattle.ep_packet.specs.declared.sliced_packet.SlicedPacket.{SlicedPacket}
use Rattle.ep_packet.specs.declared.transport.transport_slice.TransportSlice.{TransportSlice}
use Rattle.ep_packet.proofs.PartsLemmas.{at_drop, at_fits, at_later, tags_later}
use Rattle.ep_tag.specs.Ether.{EtherPayload}

-- the results for a packet after a link header
pub faulty_tags : (link : LinkSlice) (p : EtherPayload) (n : ℕ) (e returned : SliceError)
    → Err e ≡ tags_in 3 p → returned ≡ offset_by n e → Err returned ≡ later n (packet_after link p)
faulty_tags link p n e returned same is = grind arith

pub faulty_layers : (link : LinkSlice) (p : EtherPayload) (n : ℕ) (t : Tagged) (e returned : SliceError)
    → Ok t ≡ tags_in 3 p → Err e ≡ layers_in t.last → returned ≡ offset_by (n + t.len) e →
    Err returned ≡ later n (packet_after link p)
faulty_layers link p n t e returned tagged same is = grind arith

pub whole_packet : (link : LinkSlice) (p : EtherPayload) (n : ℕ) (t : Tagged) (layers : Layers)
    → Ok t ≡ tags_in 3 p → Ok layers ≡ layers_in t.last →
    Ok (packet_of (Some link) t.tags layers) ≡ later n (packet_after link p)
whole_packet link p n t layers tagged same = grind arith

-- parts of a part, at this offset in the whole
stand_later : (frame bytes header exts payload : List ℕ) (position p q : ℕ) → position + p ≡ q
    → IsAt frame position bytes → StandAt bytes p header exts payload
    → StandAt frame q header exts payload
stand_later frame bytes header exts payload position p q sum at here = grind (arith, at_later)

net_later : (frame bytes : List ℕ) (position p q : ℕ) (packet : NetSlice) → position + p ≡ q
    → IsAt frame position bytes → IsNetAt bytes p packet → IsNetAt frame q packet
net_later frame bytes position p q (net.Ipv4 packet) sum at here =
    stand_later frame bytes packet.header (auth_bytes packet.auth)
    packet.payload position p q sum at here
net_later frame bytes position p q (net.Ipv6 packet) sum at here =
    stand_later frame bytes packet.header packet.exts.slice
    packet.payload.payload position p q sum at here
net_later frame bytes position p q (net.Arp packet) sum at here = grind (arith, at_later)

maybe_net_later : (frame bytes : List ℕ) (position p q : ℕ) (o : Option NetSlice) → position + p ≡ q
    → IsAt frame position bytes → IfSome o (IsNetAt bytes p) → IfSome o (IsNetAt frame q)
maybe_net_later frame bytes position p q o sum at here = grind (arith, net_later)

transport_later : (frame bytes : List ℕ) (position p q n : ℕ) (o : Option TransportSlice)
    → position + p ≡ q → IsAt frame position bytes
    → IfSome o (λ m. IsAt bytes (p + n) (transport_bytes m)) →
    IfSome o (λ m. IsAt frame (q + n) (transport_bytes m))
transport_later frame bytes position p q n o sum at here = grind (arith, at_later)

layers_later : (frame bytes : List ℕ) (position p q : ℕ) (layers : Layers) → position + p ≡ q
    → IsAt frame position bytes → LayersIn bytes p layers → LayersIn frame q layers
layers_later frame bytes position p q layers sum at inside = record {
  net = maybe_net_later frame bytes position p q layers.net sum at inside.net;
  transport = transport_later frame bytes position p q
      (headers_len layers.net) layers.transport sum at inside.transport;
}

-- the parts of a payload, at the offset of the payload in a frame
pub parts_later : (frame bytes : List ℕ) (position : ℕ) (packet : SlicedPacket)
    → IsAt frame position bytes → ArePartsOf bytes 0 packet → ArePartsOf frame position packet
parts_later frame bytes position packet at are = record {
  tags = tags_later frame bytes position 0 position packet.link_exts.items (omega arith) at are.tags;
  layers = layers_later frame bytes position (0 + tags_len packet.link_exts.items)
      (position + tags_len packet.link_exts.items)
      (record { net = packet.net; transport = packet.transport }) (omega arith) at are.layers;
}

none_some : IsSome {T = EtherPayload} None → ⊥
none_some some = cc

layer_fits_at : (bytes : List ℕ) (n len : ℕ) (o : Option EtherPayload) (e : SliceError)
    → IfSome o (λ q. IsAt bytes (0 + len) q.payload) →
    IfSome o (λ q. (m : ℕ) → length q.payload + m < 2 ^ 64 → fault_offset e + m < 2 ^ 64) → IsSome o
    → n + length bytes < 2 ^ 64 → fault_offset e + (n + len) < 2 ^ 64
layer_fits_at bytes n len None e at fits some room = absurd (none_some some)
layer_fits_at bytes n len (Some q) e at fits some room =
    fits (n + len) (omega (arith, at_fits bytes q.payload (0 + len) at, room))

-- where layers are refused, something was named
pub named_of : (o : Option EtherPayload) (e : SliceError) → Err e ≡ layers_in o → IsSome o
named_of o e same = grind arith

-- the layers in what an ether type names, if it was named
abbrev LayersAfter : Option EtherPayload → Layers → Type 0
LayersAfter None layers = layers ≡ no_layers
LayersAfter (Some q) layers = LayersIn q.payload 0 layers

layers_after : (bytes : List ℕ) (n position : ℕ) (o : Option EtherPayload) (layers : Layers)
    → n ≡ position → IfSome o (λ q. IsAt bytes n q.payload) → LayersAfter o layers
    → LayersIn bytes position layers
layers_after bytes n position None layers same at none = grind arith
layers_after bytes n position (Some q) layers same at inside =
    layers_later bytes q.payload n 0 position layers (omega (arith, same)) at inside

-- the parts of a payload, with the layers in what the last ether type names
pub parts_with : (bytes : List ℕ) (link : Option LinkSlice) (t : Tagged) (layers : Layers)
    → TagsIn bytes 0 t → LayersAfter t.last layers
    → ArePartsOf bytes 0 (packet_of link t.tags layers)
parts_with bytes link t layers tags inside =
    record {
      tags = tags.tags;
      layers = layers_after bytes (0 + t.len) (0 + tags_len t.tags) t.last layers (omega (arith, tags.len)) tags.last inside;
    }

-- a fault of the layers, moved by the bytes before them, is within the bytes
pub layer_fits : (bytes : List ℕ) (n : ℕ) (t : Tagged) (e : SliceError) → TagsIn bytes 0 t
    → IfSome t.last (λ q. (m : ℕ) → length q.payload + m < 2 ^ 64 → fault_offset e + m < 2 ^ 64)
    → IsSome t.last →
    n + length bytes < 2 ^ 64 → fault_offset e + (n + t.len) < 2 ^ 64
layer_fits bytes n t e tags fits some room =
    layer_fits_at bytes n t.len t.last e tags.last fits some room

-- what the last ether type names starts where the tags end
named_at_end : (bytes : List ℕ) (t : Tagged) (q : EtherPayload) → t.last ≡ Some q
    → TagsIn bytes 0 t → t.len + length q.payload ≤ length bytes
named_at_end bytes t q named tags = grind (arith, at_fits)

pub tags_fit : (bytes : List ℕ) (n : ℕ) (t : Tagged) (q : EtherPayload) → t.last ≡ Some q
    → TagsIn bytes 0 t → n + length bytes < 2 ^ 64 → n + t.len < 2 ^ 64
tags_fit bytes n t q named tags room = omega (arith, named_at_end bytes t q named tags, room)

-- the same of a fault in it
pub named_fits : (bytes : List ℕ) (n : ℕ) (t : Tagged) (q : EtherPayload) (e : SliceError)
    → t.last ≡ Some q → TagsIn bytes 0 t
    → ((m : ℕ) → length q.payload + m < 2 ^ 64 → fault_offset e + m < 2 ^ 64)
    → n + length bytes < 2 ^ 64 → fault_offset e + (n + t.len) < 2 ^ 64
named_fits bytes n t q e named tags fits room =
    fits (n + t.len) (omega (arith, named_at_end bytes t q named tags, room))

-- and the layers in it
pub parts_named : (bytes : List ℕ) (link : Option LinkSlice) (t : Tagged) (q : EtherPayload)
    (layers returned : Layers) → t.last ≡ Some q → TagsIn bytes 0 t → layers ≡ returned
    → LayersIn q.payload 0 returned → ArePartsOf bytes 0 (packet_of link t.tags layers)
parts_named bytes link t q layers returned named tags same inside =
    parts_with bytes link t layers tags
    (subst (λ (o : Option EtherPayload). LayersAfter o layers) (sym named)
    (subst (λ (ls : Layers). LayersIn q.payload 0 ls) (sym same) inside))

pub parts_in_frame : (frame bytes : List ℕ) (position : ℕ) (r : Result SlicedPacket SliceError)
    → IsAt frame position bytes → IfOk r (λ packet. ArePartsOf bytes 0 packet)
    → IfOk r (λ packet. ArePartsOf frame position packet)
parts_in_frame frame bytes position (Ok packet) at are = parts_later frame bytes position packet at are
parts_in_frame frame bytes position (Err e) at are = tt

-- a cooked capture's packet is all of its bytes, and they hold its header
pub sll_whole : (bytes packet : List ℕ) → Ok packet ≡ sll_at bytes
    → (packet ≡ bytes) × (sll_len ≤ length bytes)
sll_whole bytes packet same = grind arith

-- what its protocol names, if it is an ether type
pub some_named : (o : Option EtherPayload) (p : EtherPayload) → Ok p ≡ ok_or o (tt {0}) → o ≡ Some p
some_named o p same = grind arith

named_bytes : (protocol : LinuxSllProtocolType) (bytes : List ℕ) (p : EtherPayload)
    → ether_payload_of protocol bytes ≡ Some p → p.payload ≡ bytes
named_bytes protocol bytes p same = grind arith

pub named_at : (bytes : List ℕ) (p : EtherPayload) → sll_len ≤ length bytes
    → named_payload (payload_of bytes) ≡ Some p → IsAt bytes sll_len p.payload
named_at bytes p enough named = subst (IsAt bytes sll_len)
    (sym (named_bytes (payload_of bytes).protocol_type (drop sll_len bytes) p named))
    (at_drop sll_len bytes enough)
