-- The offsets, in the bytes of a packet as far as it is there, of its tags, headers and payloads.
use Rattle.std.specs.Prelude.{ℕ, ◌+◌, ⊤, List, [], ◌∷◌, length, IfSome}
use Rattle.etherparse.specs.ext.Ipv4Exts.{auth_bytes}
use Rattle.etherparse.specs.packet.LaxView.{lax_ether_payload_in}
use Rattle.etherparse.specs.packet.Parts.{IsAt, StandAt, transport_bytes}
use Rattle.etherparse.specs.packet.declared.lax_sliced_packet.LaxSlicedPacket.{LaxSlicedPacket}
use Rattle.etherparse.specs.packet.declared.net.lax_net_slice.LaxNetSlice.{LaxNetSlice}
use Rattle.etherparse.specs.packet.declared.net.lax_net_slice.LaxNetSlice.TheVariants as net
use Rattle.etherparse.specs.tag.LinkExt.{lax_tag_len}
use Rattle.etherparse.specs.tag.MacsecLax.{LaxMacsecPayload, LaxModified, LaxUnmodified}
use Rattle.etherparse.specs.tag.declared.link.lax_link_ext_slice.LaxLinkExtSlice.{LaxLinkExtSlice}
use Rattle.etherparse.specs.tag.declared.link.lax_link_ext_slice.LaxLinkExtSlice.TheVariants as tag
use Rattle.etherparse_structs.specs.Net.{message_offset_in}

abbrev pub lax_macsec_bytes : LaxMacsecPayload → List ℕ
lax_macsec_bytes (LaxUnmodified p) = p.payload
lax_macsec_bytes (LaxModified incomplete bytes) = bytes

-- a VLAN tag with all bytes after it, or a MACsec header and its payload
abbrev pub IsLaxTagAt : List ℕ → ℕ → LaxLinkExtSlice → Type 0
IsLaxTagAt frame position (tag.Vlan bytes) = IsAt frame position bytes
IsLaxTagAt frame position (tag.Macsec m) = IsAt frame position m.header
    × IsAt frame (position + length m.header) (lax_macsec_bytes m.payload)

-- each tag starts where the one before it ends
abbrev pub AreLaxTagsAt : List ℕ → ℕ → List LaxLinkExtSlice → Type 0
AreLaxTagsAt frame position [] = ⊤
AreLaxTagsAt frame position (t ∷ tags) =
    IsLaxTagAt frame position t × AreLaxTagsAt frame (position + lax_tag_len t) tags

abbrev pub lax_tags_len : List LaxLinkExtSlice → ℕ
lax_tags_len [] = 0
lax_tags_len (t ∷ tags) = lax_tag_len t + lax_tags_len tags

abbrev pub IsLaxNetAt : List ℕ → ℕ → LaxNetSlice → Type 0
IsLaxNetAt frame position (net.Ipv4 packet) =
    StandAt frame position packet.header (auth_bytes packet.auth) packet.payload.payload
IsLaxNetAt frame position (net.Ipv6 packet) =
    StandAt frame position packet.header packet.exts.slice packet.payload.payload
IsLaxNetAt frame position (net.Arp packet) = IsAt frame position packet

-- every part of a packet is at its offset in the bytes; the tags start at this one
pub record AreLaxPartsOf (frame : List ℕ) (position : ℕ) (packet : LaxSlicedPacket) : Type 0 where
  pub tags : AreLaxTagsAt frame position packet.link_exts.items
  pub ether : IfSome (lax_ether_payload_in packet) (λ p. IsAt frame
      (position + lax_tags_len packet.link_exts.items) p.payload)
  pub net : IfSome packet.net (IsLaxNetAt frame (position + lax_tags_len packet.link_exts.items))
  pub transport : IfSome packet.transport (λ message. IsAt frame
      (message_offset_in (position + lax_tags_len packet.link_exts.items) packet.net)
      (transport_bytes message))
