-- What of a packet as far as it is there stays the same where more bytes are there.
use Rattle.std.specs.Prelude.{◌≡◌, ◌≢◌, ℕ, false, ⊤, List, [], ◌∷◌, Option, Some}
use Rattle.ep_base.specs.declared.len_source.LenSource.TheVariants.{Ipv4HeaderTotalLen, Ipv6HeaderPayloadLen}
use Rattle.ep_icmp.specs.Icmpv4.{is_timestamp}
use Rattle.ep_ip.specs.Ipv6.{payload_length_of}
use Rattle.ep_ipslice.specs.LaxPackets.{LaxIpv4Packet, LaxIpv6Packet}
use Rattle.ep_link.specs.declared.link.link_slice.LinkSlice.{LinkSlice}
use Rattle.ep_link.specs.declared.link.link_slice.LinkSlice.TheVariants as link
use Rattle.ep_packet.specs.declared.lax_sliced_packet.LaxSlicedPacket.{LaxSlicedPacket}
use Rattle.ep_packet.specs.declared.net.lax_net_slice.LaxNetSlice.{LaxNetSlice}
use Rattle.ep_packet.specs.declared.net.lax_net_slice.LaxNetSlice.TheVariants as net
use Rattle.ep_packet.specs.declared.transport.transport_slice.TransportSlice.{TransportSlice}
use Rattle.ep_packet.specs.declared.transport.transport_slice.TransportSlice.TheVariants.{Icmpv4, Icmpv6, Tcp, Udp}
use Rattle.ep_base.specs.Bytes.{IsContinued}
use Rattle.ep_tag.specs.MoreTags.{KeepsTag}
use Rattle.ep_tag.specs.declared.link.lax_link_ext_slice.LaxLinkExtSlice.{LaxLinkExtSlice}

-- the link header, and more of what follows it at most
abbrev pub KeepsLink : LinkSlice → Option LinkSlice → Type 0
KeepsLink (link.Ethernet2 frame) after =
    (all : List ℕ) × (after ≡ Some (link.Ethernet2 (record frame { bytes = all }))) × IsContinued frame.bytes all
KeepsLink (link.LinuxSll bytes) after =
    (all : List ℕ) × (after ≡ Some (link.LinuxSll all)) × IsContinued bytes all
KeepsLink (link.EtherPayload p) after =
    (all : List ℕ) × (after ≡ Some (link.EtherPayload (record p { payload = all }))) × IsContinued p.payload all
KeepsLink (link.LinuxSllPayload p) after =
    (all : List ℕ) × (after ≡ Some (link.LinuxSllPayload (record p { payload = all })))
    × IsContinued p.payload all

-- each tag, after which more tags may be there
abbrev pub KeepsTags : List LaxLinkExtSlice → List LaxLinkExtSlice → Type 0
KeepsTags [] after = ⊤
KeepsTags (t ∷ tags) [] = ⊥
KeepsTags (t ∷ tags) (u ∷ after) = KeepsTag t u × KeepsTags tags after

-- the header and the authentication header; and the packet, if all bytes that its total length counts
-- were there
pub record KeepsIpv4Headers (before after : LaxIpv4Packet) : Type 0 where
  pub header : after.header ≡ before.header
  pub auth : (auth : List ℕ) → before.auth ≡ Some auth → after.auth ≡ Some auth
  pub whole : before.payload.len_source ≡ Ipv4HeaderTotalLen → after ≡ before

-- the header and the extension headers, after which more of them may be there; and the packet, if all
-- bytes that its payload length counts were there
pub record KeepsIpv6Headers (before after : LaxIpv6Packet) : Type 0 where
  pub header : after.header ≡ before.header
  pub exts : IsContinued before.exts.slice after.exts.slice
  pub whole : before.payload.len_source ≡ Ipv6HeaderPayloadLen → payload_length_of before.header ≢ 0
      → after ≡ before

abbrev pub KeepsNet : LaxNetSlice → Option LaxNetSlice → Type 0
KeepsNet (net.Ipv4 packet) after =
    (later : LaxIpv4Packet) × (after ≡ Some (net.Ipv4 later)) × KeepsIpv4Headers packet later
KeepsNet (net.Ipv6 packet) after =
    (later : LaxIpv6Packet) × (after ≡ Some (net.Ipv6 later)) × KeepsIpv6Headers packet later
KeepsNet (net.Arp packet) after = after ≡ Some (net.Arp packet)

-- the header of the message, and more of its payload at most; a timestamp message of ICMP (RFC 792) is
-- none any more if bytes follow its 20 bytes
abbrev pub KeepsTransport : TransportSlice → Option TransportSlice → Type 0
KeepsTransport (Icmpv4 m) after = is_timestamp m ≡ false
    → (all : List ℕ) × (after ≡ Some (Icmpv4 all)) × IsContinued m all
KeepsTransport (Tcp m) after = (all : List ℕ) × (after ≡ Some (Tcp all)) × IsContinued m all
KeepsTransport (Udp m) after = (all : List ℕ) × (after ≡ Some (Udp all)) × IsContinued m all
KeepsTransport (Icmpv6 m) after = (all : List ℕ) × (after ≡ Some (Icmpv6 all)) × IsContinued m all

-- each layer that was there
pub record KeepsLayers (before after : LaxSlicedPacket) : Type 0 where
  pub link : (header : LinkSlice) → before.link ≡ Some header → KeepsLink header after.link
  pub link_exts : KeepsTags before.link_exts.items after.link_exts.items
  pub net : (packet : LaxNetSlice) → before.net ≡ Some packet → KeepsNet packet after.net
  pub transport : (message : TransportSlice) → before.transport ≡ Some message
      → KeepsTransport message after.transport
