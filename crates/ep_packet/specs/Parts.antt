-- The offsets in a frame of its parts: tags, headers and payloads.
use Rattle.std.specs.Prelude.{◌≡◌, ℕ, ◌+◌, ⊤, List, [], ◌∷◌, ◌++◌, length, Option, Some, None, IfSome}
use Rattle.ep_ext.specs.Ipv4Exts.{auth_bytes}
use Rattle.ep_packet.specs.Sliced.{Layers}
use Rattle.ep_packet.specs.Tags.{Tagged}
use Rattle.ep_packet.specs.declared.net.net_slice.NetSlice.{NetSlice}
use Rattle.ep_packet.specs.declared.net.net_slice.NetSlice.TheVariants as net
use Rattle.ep_packet.specs.declared.sliced_packet.SlicedPacket.{SlicedPacket}
use Rattle.ep_packet.specs.declared.transport.transport_slice.TransportSlice.{TransportSlice}
use Rattle.ep_packet.specs.declared.transport.transport_slice.TransportSlice.TheVariants as transport
use Rattle.ep_tag.specs.LinkExt.{tag_len}
use Rattle.ep_tag.specs.MacsecPayload.{MacsecPayload, Unmodified, Modified}
use Rattle.ep_tag.specs.declared.link.link_ext_slice.LinkExtSlice.{LinkExtSlice}
use Rattle.ep_tag.specs.declared.link.link_ext_slice.LinkExtSlice.TheVariants as tag

-- the part is in the bytes at this offset
pub record IsAt (bytes : List ℕ) (position : ℕ) (part : List ℕ) : Type 0 where
  pub before : List ℕ
  pub after : List ℕ
  pub here : length before ≡ position
  pub parts : bytes ≡ before ++ part ++ after

abbrev pub macsec_bytes : MacsecPayload → List ℕ
macsec_bytes (Unmodified p) = p.payload
macsec_bytes (Modified bytes) = bytes

-- a VLAN tag with all bytes after it, or a MACsec header and its payload
abbrev pub IsTagAt : List ℕ → ℕ → LinkExtSlice → Type 0
IsTagAt frame position (tag.Vlan bytes) = IsAt frame position bytes
IsTagAt frame position (tag.Macsec macsec) = IsAt frame position macsec.header
    × IsAt frame (position + length macsec.header) (macsec_bytes macsec.payload)

-- each tag starts where the one before it ends
abbrev pub AreTagsAt : List ℕ → ℕ → List LinkExtSlice → Type 0
AreTagsAt frame position [] = ⊤
AreTagsAt frame position (t ∷ tags) = IsTagAt frame position t × AreTagsAt frame (position + tag_len t) tags

abbrev pub tags_len : List LinkExtSlice → ℕ
tags_len [] = 0
tags_len (t ∷ tags) = tag_len t + tags_len tags

-- header, extension headers and payload one after the other
abbrev pub StandAt : List ℕ → ℕ → List ℕ → List ℕ → List ℕ → Type 0
StandAt frame position header exts payload =
    IsAt frame position header × IsAt frame (position + length header) exts
    × IsAt frame (position + length header + length exts) payload

abbrev pub IsNetAt : List ℕ → ℕ → NetSlice → Type 0
IsNetAt frame position (net.Ipv4 packet) =
    StandAt frame position packet.header (auth_bytes packet.auth) packet.payload
IsNetAt frame position (net.Ipv6 packet) =
    StandAt frame position packet.header packet.exts.slice packet.payload.payload
IsNetAt frame position (net.Arp packet) = IsAt frame position packet

-- the number of bytes before a packet's payload
abbrev pub headers_len : Option NetSlice → ℕ
headers_len None = 0
headers_len (Some (net.Ipv4 packet)) = length packet.header + length (auth_bytes packet.auth)
headers_len (Some (net.Ipv6 packet)) = length packet.header + length packet.exts.slice
headers_len (Some (net.Arp packet)) = length packet

-- the bytes of a message
abbrev pub transport_bytes : TransportSlice → List ℕ
transport_bytes (transport.Udp m) = m
transport_bytes (transport.Tcp m) = m
transport_bytes (transport.Icmpv4 m) = m
transport_bytes (transport.Icmpv6 m) = m

-- network layer and transport layer, from this offset on
pub record LayersIn (frame : List ℕ) (position : ℕ) (layers : Layers) : Type 0 where
  pub net : IfSome layers.net (IsNetAt frame position)
  pub transport : IfSome layers.transport
      (λ message. IsAt frame (position + headers_len layers.net) (transport_bytes message))

-- the tags from this offset on, and what follows them
pub record TagsIn (frame : List ℕ) (position : ℕ) (t : Tagged) : Type 0 where
  pub tags : AreTagsAt frame position t.tags
  pub len : t.len ≡ tags_len t.tags
  pub last : IfSome t.last (λ q. IsAt frame (position + t.len) q.payload)

-- every part of a packet is at its offset in the frame; the tags start at this one
pub record ArePartsOf (frame : List ℕ) (position : ℕ) (packet : SlicedPacket) : Type 0 where
  pub tags : AreTagsAt frame position packet.link_exts.items
  pub layers : LayersIn frame (position + tags_len packet.link_exts.items)
      (record { net = packet.net; transport = packet.transport })
