-- The headers of a packet as far as it is there, as values, that belong to its slices.
use Rattle.std.specs.Prelude.{◌≡◌, Bool, true, false, map, Option, Some, None}
use Rattle.std.specs.Option.{option_map}
use Rattle.ep_ext.specs.Ipv4Exts.{ipv4_exts_of}
use Rattle.ep_ext.specs.declared.net.ipv6_extensions.Ipv6Extensions.{Ipv6Extensions}
use Rattle.ep_ip.specs.Ipv4.{ipv4_header_of}
use Rattle.ep_ip.specs.Ipv6.{ipv6_header_of}
use Rattle.ep_link.specs.Arp as arp
use Rattle.ep_link.specs.SllPayload as sll
use Rattle.ep_link.specs.SllPayload.{SllPayload}
use Rattle.ep_link.specs.declared.link.link_slice.LinkSlice.{LinkSlice}
use Rattle.ep_link.specs.declared.link.link_slice.LinkSlice.TheVariants as link
use Rattle.ep_packet.specs.LaxPacketHeaders.{LaxHeaders, lax_after_message, lax_after_tags, lax_last_of}
use Rattle.ep_packet.specs.LaxPayload.{LaxPayload, Empty, Ip, LinuxSll}
use Rattle.ep_packet.specs.LaxView.{lax_named_by}
use Rattle.ep_packet.specs.SameHeaders.{link_fields, transport_fields}
use Rattle.ep_packet.specs.declared.lax_sliced_packet.LaxSlicedPacket.{LaxSlicedPacket}
use Rattle.ep_packet.specs.declared.net.lax_net_slice.LaxNetSlice.{LaxNetSlice}
use Rattle.ep_packet.specs.declared.net.lax_net_slice.LaxNetSlice.TheVariants as slice
use Rattle.ep_packet.specs.declared.net.net_headers.NetHeaders.{NetHeaders}
use Rattle.ep_packet.specs.declared.net.net_headers.NetHeaders.TheVariants as headers
use Rattle.ep_packet.specs.declared.transport.transport_slice.TransportSlice.{TransportSlice}
use Rattle.ep_tag.specs.Ether.{EtherPayload}
use Rattle.ep_tag.specs.LinkExt.{lax_fields_of}

-- the headers are those of the packet; of IPv6 this says the first header alone
abbrev pub AreLaxFieldsOf : LaxNetSlice → NetHeaders → Type 0
AreLaxFieldsOf (slice.Ipv4 packet) h =
    h ≡ headers.Ipv4 (ipv4_header_of packet.header) (ipv4_exts_of packet.auth)
AreLaxFieldsOf (slice.Ipv6 packet) h =
    (e : Ipv6Extensions) × (h ≡ headers.Ipv6 (ipv6_header_of packet.header) e)
AreLaxFieldsOf (slice.Arp packet) h = h ≡ headers.Arp (arp.fields_of packet)

abbrev pub AreLaxNetFields : Option LaxNetSlice → Option NetHeaders → Type 0
AreLaxNetFields None h = h ≡ None
AreLaxNetFields (Some packet) h =
    (fields : NetHeaders) × (h ≡ Some fields) × AreLaxFieldsOf packet fields

abbrev pub is_lax_ipv6 : Option LaxNetSlice → Bool
is_lax_ipv6 None = false
is_lax_ipv6 (Some (slice.Ipv4 packet)) = false
is_lax_ipv6 (Some (slice.Ipv6 packet)) = true
is_lax_ipv6 (Some (slice.Arp packet)) = false

-- bytes of the payload of a packet are missing
abbrev pub is_net_incomplete : LaxNetSlice → Bool
is_net_incomplete (slice.Ipv4 packet) = packet.incomplete
is_net_incomplete (slice.Ipv6 packet) = packet.incomplete
is_net_incomplete (slice.Arp packet) = false

-- the payload after a packet without a message that is read
abbrev pub lax_after_packet : LaxNetSlice → LaxPayload
lax_after_packet (slice.Ipv4 packet) = Ip (packet.incomplete, packet.payload)
lax_after_packet (slice.Ipv6 packet) = Ip (packet.incomplete, packet.payload)
lax_after_packet (slice.Arp packet) = Empty

-- the payload after the last of the layers
abbrev pub lax_after_layers : Option LaxNetSlice → Option TransportSlice → LaxPayload → LaxPayload
lax_after_layers None message below = below
lax_after_layers (Some packet) (Some m) below = lax_after_message (is_net_incomplete packet) m
lax_after_layers (Some packet) None below = lax_after_packet packet

-- the payload after the header of a cooked capture whose protocol is no ether type, or else this one
abbrev pub or_cooked : SllPayload → Option EtherPayload → LaxPayload → LaxPayload
or_cooked p None below = LinuxSll p
or_cooked p (Some named) below = below

abbrev pub cooked_or : Option LinkSlice → LaxPayload → LaxPayload
cooked_or None below = below
cooked_or (Some (link.Ethernet2 frame)) below = below
cooked_or (Some (link.LinuxSll bytes)) below =
    or_cooked (sll.payload_of bytes) (sll.named_payload (sll.payload_of bytes)) below
cooked_or (Some (link.EtherPayload p)) below = below
cooked_or (Some (link.LinuxSllPayload p)) below = below

-- the payload without a packet of the network layer
abbrev pub lax_below : LaxSlicedPacket → LaxPayload
lax_below packet = cooked_or packet.link (lax_after_tags packet.link_exts.items
    (lax_named_by packet.link (lax_last_of packet.link_exts.items)))

-- the headers, the payload and what stopped are those that the slices have; the three last of IPv6
-- packets aren't said here
pub record AreLaxHeadersOf (packet : LaxSlicedPacket) (h : LaxHeaders) : Type 0 where
  pub link : h.link ≡ link_fields packet.link
  pub link_exts : h.link_exts ≡ map lax_fields_of packet.link_exts.items
  pub net : AreLaxNetFields packet.net h.net
  pub transport : is_lax_ipv6 packet.net ≡ false
      → h.transport ≡ option_map transport_fields packet.transport
  pub payload : is_lax_ipv6 packet.net ≡ false
      → h.payload ≡ lax_after_layers packet.net packet.transport (lax_below packet)
  pub stop : is_lax_ipv6 packet.net ≡ false → h.stop ≡ packet.stop_err
