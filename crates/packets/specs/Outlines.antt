-- What filters, summaries and conversations need of a packet.
use Rattle.std.specs.Prelude.{Bool, true, false, Option, Some, None, Result, Ok, Err}
use Rattle.std.specs.List.{list_any}
use Rattle.captures.specs.declared.link.kind.Link.{Link}
use Rattle.captures.specs.declared.link.kind.Link.TheVariants.{Ethernet, Ip, Null, Loop, Sll, Sll2, Other}
use Rattle.ep_ip.specs.Ipv4 as ipv4
use Rattle.ep_ip.specs.Ipv6 as ipv6
use Rattle.ep_ipslice.specs.Packet.{ipv4_payload}
use Rattle.ep_packet.specs.Class.{ipv4_addresses, ipv6_addresses}
use Rattle.ep_packet.specs.Readable.{ReadMessage, message_at}
use Rattle.ep_packet.specs.declared.addresses.Addresses.TheVariants.{V4, V6}
use Rattle.ep_packet.specs.declared.err.packet.slice_error.SliceError.{SliceError}
use Rattle.ep_packet.specs.declared.lax_sliced_packet.LaxSlicedPacket.{LaxSlicedPacket}
use Rattle.ep_packet.specs.declared.net.lax_net_slice.LaxNetSlice.{LaxNetSlice}
use Rattle.ep_packet.specs.declared.net.lax_net_slice.LaxNetSlice.TheVariants as lax
use Rattle.ep_packet.specs.declared.net.net_slice.NetSlice.{NetSlice}
use Rattle.ep_packet.specs.declared.net.net_slice.NetSlice.TheVariants as slice
use Rattle.ep_packet.specs.declared.sliced_packet.SlicedPacket.{SlicedPacket}
use Rattle.ep_tag.specs.declared.link.lax_link_ext_slice.LaxLinkExtSlice.{LaxLinkExtSlice}
use Rattle.ep_tag.specs.declared.link.lax_link_ext_slice.LaxLinkExtSlice.TheVariants as lax_tag
use Rattle.ep_tag.specs.declared.link.link_ext_slice.LinkExtSlice.{LinkExtSlice}
use Rattle.ep_tag.specs.declared.link.link_ext_slice.LinkExtSlice.TheVariants.{Vlan, Macsec}
use Rattle.packets.specs.LaxLayers.{lax_layers_of}
use Rattle.packets.specs.Reasons.{fragment_reason, reason_of}
use Rattle.packets.specs.declared.reason.Reason.{Reason}
use Rattle.packets.specs.declared.dissection.Dissection.{Dissection}
use Rattle.packets.specs.declared.dissection.Fragment.{Fragment}
use Rattle.packets.specs.declared.dissection.Fragment.TheVariants as fragment
use Rattle.packets.specs.declared.outline.Headers.{Headers}
use Rattle.packets.specs.declared.outline.Net.{Net}
use Rattle.packets.specs.declared.outline.Net.TheVariants as net
use Rattle.packets.specs.declared.outline.Outline.{Outline}
use Rattle.packets.specs.declared.outline.FragmentState.{FragmentState}
use Rattle.packets.specs.declared.outline.FragmentState.TheVariants as state

abbrev pub is_ethernet : Link → Bool
is_ethernet Ethernet = true
is_ethernet Ip = false
is_ethernet Null = false
is_ethernet Loop = false
is_ethernet Sll = false
is_ethernet Sll2 = false
is_ethernet (Other number) = false

abbrev pub is_vlan : LinkExtSlice → Bool
is_vlan (Vlan bytes) = true
is_vlan (Macsec bytes) = false

abbrev pub is_macsec : LinkExtSlice → Bool
is_macsec (Vlan bytes) = false
is_macsec (Macsec bytes) = true

abbrev pub net_of : Option NetSlice → Option Net
net_of None = None
net_of (Some (slice.Ipv4 packet)) =
    Some (net.Ip (ipv4_addresses packet) (ipv4_payload packet).ip_number)
net_of (Some (slice.Ipv6 packet)) =
    Some (net.Ip (ipv6_addresses packet) packet.payload.ip_number)
net_of (Some (slice.Arp packet)) = Some net.Arp

abbrev pub is_lax_vlan : LaxLinkExtSlice → Bool
is_lax_vlan (lax_tag.Vlan bytes) = true
is_lax_vlan (lax_tag.Macsec header) = false

abbrev pub is_lax_macsec : LaxLinkExtSlice → Bool
is_lax_macsec (lax_tag.Vlan bytes) = false
is_lax_macsec (lax_tag.Macsec header) = true

-- the same of a packet that is there in part. Where extension headers are not there, its protocol is
-- the first of these
abbrev pub lax_net_of : Option LaxNetSlice → Option Net
lax_net_of None = None
lax_net_of (Some (lax.Ipv4 packet)) =
    Some (net.Ip (V4 (ipv4.source_of packet.header) (ipv4.destination_of packet.header))
    packet.payload.ip_number)
lax_net_of (Some (lax.Ipv6 packet)) =
    Some (net.Ip (V6 (ipv6.source_of packet.header) (ipv6.destination_of packet.header))
    packet.payload.ip_number)
lax_net_of (Some (lax.Arp packet)) = Some net.Arp

-- the headers that are there of a packet of a link
abbrev pub lax_headers_of : Link → Option LaxSlicedPacket → Headers
lax_headers_of link (Some packet) = record {
  ethernet = is_ethernet link;
  vlan = list_any is_lax_vlan packet.link_exts.items;
  macsec = list_any is_lax_macsec packet.link_exts.items;
  net = lax_net_of packet.net;
}
lax_headers_of link None = record {
  ethernet = is_ethernet link;
  vlan = false;
  macsec = false;
  net = None;
}

-- the headers of a packet of a link; of one that is refused those that are there
abbrev pub headers_of : Link → Result SlicedPacket SliceError → Option LaxSlicedPacket → Headers
headers_of link (Ok packet) lax_layers = record {
  ethernet = is_ethernet link;
  vlan = list_any is_vlan packet.link_exts.items;
  macsec = list_any is_macsec packet.link_exts.items;
  net = net_of packet.net;
}
headers_of link (Err e) lax_layers = lax_headers_of link lax_layers

-- why a reassembled message can't be read
abbrev pub message_refusal : Result ReadMessage SliceError → Option Reason
message_refusal (Ok message) = None
message_refusal (Err e) = Some (reason_of e)

abbrev pub fragment_refusal : Option Fragment → Option Reason
fragment_refusal None = None
fragment_refusal (Some (fragment.Waits started)) = None
fragment_refusal (Some (fragment.Completes started message)) =
    message_refusal (message_at message.ip_number.0 message.payload.items)
fragment_refusal (Some (fragment.Refused started error)) = Some (fragment_reason error)

-- why a packet is refused: by its headers, as a fragment, or since the message that it completes
-- can't be read
abbrev pub refusal_of : Result SlicedPacket SliceError → Option Fragment → Option Reason
refusal_of (Ok packet) fragment = fragment_refusal fragment
refusal_of (Err e) fragment = Some (reason_of e)

abbrev pub fragment_state_of : Option Fragment → Option FragmentState
fragment_state_of None = None
fragment_state_of (Some (fragment.Waits started)) = Some state.Waits
fragment_state_of (Some (fragment.Completes started message)) = Some state.Completes
fragment_state_of (Some (fragment.Refused started error)) = Some state.Refused

abbrev pub outline_of : Dissection → Outline
outline_of packet = record {
  number = packet.number;
  time = packet.time;
  len = packet.len;
  captured_len = packet.captured_len;
  wire_len = packet.wire_len;
  headers = headers_of packet.link packet.layers (lax_layers_of packet.header packet.bytes);
  refusal = refusal_of packet.layers packet.fragment;
  fragment = fragment_state_of packet.fragment;
  verdict = packet.verdict;
}
