-- A frame, or a packet in one, sliced into its layers as far as they are there: where a length field
-- promises more than is there, the layer ends with the bytes, and reading stops at the first fault.
use Rattle.std.specs.Prelude.{ℕ, ◌+◌, ◌==◌, if◌then◌else◌, List, [], length, Option, Some, None, Result, Ok, Err}
use Rattle.std.specs.Option.{option_map}
use Rattle.std.specs.Result.{result_map_both}
use Rattle.ep_base.specs.declared.err.layer.Layer.{Layer}
use Rattle.ep_base.specs.declared.err.layer.Layer.TheVariants as layer
use Rattle.ep_base.specs.declared.err.len_error.LenError.{LenError}
use Rattle.ep_base.specs.declared.err.slice_error.SliceError.{SliceError as HeaderSliceError}
use Rattle.ep_base.specs.declared.err.slice_error.SliceError.TheVariants as slice_error
use Rattle.ep_base.specs.declared.link.ether_type.EtherType.{EtherType}
use Rattle.ep_ext.specs.Chain.{Fault}
use Rattle.ep_ext.specs.Ipv4Exts.{auth_bytes}
use Rattle.ep_ext.specs.declared.err.ip_auth.header_error.HeaderError.{HeaderError as AuthFault}
use Rattle.ep_ext.specs.declared.err.ip_exts.header_error.HeaderError.{HeaderError as ExtsFault}
use Rattle.ep_ext.specs.declared.err.ip_exts.header_error.HeaderError.TheVariants as exts
use Rattle.ep_ext.specs.declared.err.ipv6_exts.header_error.HeaderError.{HeaderError as Ipv6ExtsFault}
use Rattle.ep_ip.specs.declared.err.ipv4.header_error.HeaderError.{HeaderError as Ipv4HeaderFault}
use Rattle.ep_ip.specs.declared.err.ipv6.header_error.HeaderError.{HeaderError as Ipv6HeaderFault}
use Rattle.ep_ipslice.specs.LaxIp.{ExtsStop, StoppedIp, lax_ip_packet_at}
use Rattle.ep_ipslice.specs.LaxPackets.{LaxIpv4Packet, LaxIpv6Packet, StoppedIpv4, StoppedIpv6}
use Rattle.ep_ipslice.specs.LaxPackets.{lax_ipv4_packet_at, lax_ipv6_packet_at}
use Rattle.ep_ipslice.specs.Packet.{IpPayload}
use Rattle.ep_ipslice.specs.declared.err.ip.header_error.HeaderError.{HeaderError as IpHeaderFault}
use Rattle.ep_ipslice.specs.declared.net.lax_ip_slice.LaxIpSlice.{LaxIpSlice}
use Rattle.ep_ipslice.specs.declared.net.lax_ip_slice.LaxIpSlice.TheVariants as ip
use Rattle.ep_link.specs.Arp as arp
use Rattle.ep_link.specs.Ethernet.{ethernet_len, payload_of}
use Rattle.ep_link.specs.Frame.{without_fcs}
use Rattle.ep_link.specs.Sll.{sll_len}
use Rattle.ep_link.specs.SllFault as sll_fault
use Rattle.ep_link.specs.SllPayload as sll
use Rattle.ep_link.specs.declared.err.linux_sll.header_error.HeaderError.{HeaderError as SllFault}
use Rattle.ep_link.specs.declared.link.link_slice.LinkSlice.{LinkSlice}
use Rattle.ep_link.specs.declared.link.link_slice.LinkSlice.TheVariants as link
use Rattle.ep_packet.specs.LaxTags.{LaxTagged, Stop, lax_tags_in, stop_by}
use Rattle.ep_packet.specs.Readable.{ReadMessage, icmpv4, message_at, tcp, udp}
use Rattle.ep_packet.specs.Readable.ReadMessage.{Udp}
use Rattle.ep_packet.specs.SliceFault.{offset_by}
use Rattle.ep_packet.specs.Sliced.{arp_type, ether_payload, ipv4_type, ipv6_type, read_transport, result_within}
use Rattle.ep_packet.specs.Tags.{most_tags}
use Rattle.ep_packet.specs.declared.err.packet.slice_error.SliceError.{SliceError}
use Rattle.ep_packet.specs.declared.err.packet.slice_error.SliceError.TheVariants as fault
use Rattle.ep_packet.specs.declared.lax_sliced_packet.LaxSlicedPacket.{LaxSlicedPacket}
use Rattle.ep_packet.specs.declared.net.lax_net_slice.LaxNetSlice.{LaxNetSlice}
use Rattle.ep_packet.specs.declared.net.lax_net_slice.LaxNetSlice.TheVariants as net
use Rattle.ep_packet.specs.declared.transport.transport_slice.TransportSlice.{TransportSlice}
use Rattle.ep_tag.specs.Ether.{EtherPayload, LaxEtherPayload, complete_ether}
use Rattle.ep_tag.specs.Prefix.{whole_at}
use Rattle.ep_tag.specs.declared.link.lax_link_ext_slice.LaxLinkExtSlice.{LaxLinkExtSlice}
use Rattle.ep_tcpudp.specs.UdpFault.{lax_udp_at}

-- faults of IP's headers as those of all layers
abbrev pub of_ip_header : HeaderSliceError IpHeaderFault → SliceError
of_ip_header (slice_error.Len e) = fault.Len e
of_ip_header (slice_error.Content e) = fault.Ip e

abbrev pub of_ipv4_header : HeaderSliceError Ipv4HeaderFault → SliceError
of_ipv4_header (slice_error.Len e) = fault.Len e
of_ipv4_header (slice_error.Content e) = fault.Ipv4 e

abbrev pub of_ipv6_header : HeaderSliceError Ipv6HeaderFault → SliceError
of_ipv6_header (slice_error.Len e) = fault.Len e
of_ipv6_header (slice_error.Content e) = fault.Ipv6 e

abbrev pub of_auth : HeaderSliceError AuthFault → SliceError
of_auth (slice_error.Len e) = fault.Len e
of_auth (slice_error.Content e) = fault.Ipv4Exts e

abbrev pub of_ipv6_exts : HeaderSliceError Ipv6ExtsFault → SliceError
of_ipv6_exts (slice_error.Len e) = fault.Len e
of_ipv6_exts (slice_error.Content e) = fault.Ipv6Exts e

abbrev pub of_exts : HeaderSliceError ExtsFault → SliceError
of_exts (slice_error.Len e) = fault.Len e
of_exts (slice_error.Content (exts.Ipv4Ext e)) = fault.Ipv4Exts e
of_exts (slice_error.Content (exts.Ipv6Ext e)) = fault.Ipv6Exts e

-- with the layer in which they are
abbrev pub auth_stop : HeaderSliceError AuthFault → Stop
auth_stop e = (of_auth e, layer.IpAuthHeader)

abbrev pub ipv6_exts_stop : Fault → Stop
ipv6_exts_stop e = (of_ipv6_exts e.0, e.1)

abbrev pub exts_stop : ExtsStop → Stop
exts_stop e = (of_exts e.0, e.1)

-- the message that bytes with this number are, or why they are none; of a UDP datagram what is there
abbrev pub lax_message_at : ℕ → List ℕ → Result ReadMessage SliceError
lax_message_at number bytes =
    if number == udp then result_map_both (λ m. Udp m) (λ e. fault.Len e) (lax_udp_at bytes)
    else message_at number bytes

-- the message in an IP payload: none if the payload is a fragment
abbrev pub lax_message_in : IpPayload → Result (Option TransportSlice) SliceError
lax_message_in p = if p.fragmented then Ok None
    else result_within p.len_source (read_transport (lax_message_at p.ip_number.0 p.payload))

-- the layer of a message with this number
abbrev pub message_layer : ℕ → Layer
message_layer number =
    if number == icmpv4 then layer.Icmpv4
    else (if number == tcp then layer.TcpHeader
    else (if number == udp then layer.UdpHeader else layer.Icmpv6))

-- a message, or the fault in it so many bytes later
abbrev pub message_or_stop : ℕ → Layer → Result (Option TransportSlice) SliceError
    → Option TransportSlice × Option Stop
message_or_stop headers_len at (Ok message) = (message, None)
message_or_stop headers_len at (Err e) = (None, Some (offset_by headers_len e, at))

-- the message after so many bytes of headers, unless a fault stopped these
abbrev pub lax_transport_in : ℕ → IpPayload → Option Stop → Option TransportSlice × Option Stop
lax_transport_in headers_len p None =
    message_or_stop headers_len (message_layer p.ip_number.0) (lax_message_in p)
lax_transport_in headers_len p (Some stop) = (None, Some stop)

-- the network layer and the transport layer, and what stopped
pub record LaxLayers : Type 0 where
  pub net : Option LaxNetSlice
  pub transport : Option TransportSlice
  pub stop : Option Stop

abbrev pub no_layers : Option Stop → LaxLayers
no_layers stop = record { net = None; transport = None; stop = stop }

abbrev pub with_transport : LaxNetSlice → Option TransportSlice × Option Stop → LaxLayers
with_transport packet found =
    record { net = Some packet; transport = found.0; stop = found.1 }

abbrev pub in_lax_ipv4 : LaxIpv4Packet → Option Stop → LaxLayers
in_lax_ipv4 packet stop = with_transport (net.Ipv4 packet)
    (lax_transport_in (length packet.header + length (auth_bytes packet.auth)) packet.payload stop)

abbrev pub in_lax_ipv6 : LaxIpv6Packet → Option Stop → LaxLayers
in_lax_ipv6 packet stop = with_transport (net.Ipv6 packet)
    (lax_transport_in (length packet.header + length packet.exts.slice) packet.payload stop)

abbrev pub lax_ipv4_layers : Result StoppedIpv4 (HeaderSliceError Ipv4HeaderFault) → LaxLayers
lax_ipv4_layers (Ok stopped) = in_lax_ipv4 stopped.0 (option_map auth_stop stopped.1)
lax_ipv4_layers (Err e) = no_layers (Some (of_ipv4_header e, layer.Ipv4Header))

abbrev pub lax_ipv6_layers : Result StoppedIpv6 (HeaderSliceError Ipv6HeaderFault) → LaxLayers
lax_ipv6_layers (Ok stopped) = in_lax_ipv6 stopped.0 (option_map ipv6_exts_stop stopped.1)
lax_ipv6_layers (Err e) = no_layers (Some (of_ipv6_header e, layer.Ipv6Header))

abbrev pub lax_arp_layers : Result (List ℕ) LenError → LaxLayers
lax_arp_layers (Ok packet) = record { net = Some (net.Arp packet); transport = None; stop = None }
lax_arp_layers (Err e) = no_layers (Some (fault.Len e, layer.Arp))

-- the layers in what an ether type names
abbrev pub lax_layers_of : LaxEtherPayload → LaxLayers
lax_layers_of p =
    if p.ether_type.0 == ipv4_type then lax_ipv4_layers (lax_ipv4_packet_at p.payload)
    else (if p.ether_type.0 == ipv6_type then lax_ipv6_layers (lax_ipv6_packet_at p.payload)
    else (if p.ether_type.0 == arp_type then lax_arp_layers (arp.packet_at p.payload)
    else no_layers None))

-- the layers after the tags: none if nothing is named there
abbrev pub lax_layers_in : Option LaxEtherPayload → LaxLayers
lax_layers_in None = no_layers None
lax_layers_in (Some p) = lax_layers_of p

-- the first of two faults
abbrev pub first_stop : Option Stop → Option Stop → Option Stop
first_stop (Some stop) later = Some stop
first_stop None later = later

-- link header, tags and layers together
abbrev pub lax_packet_of : Option LinkSlice → List LaxLinkExtSlice → LaxLayers → LaxSlicedPacket
lax_packet_of link tags layers =
    record {
      link = link;
      link_exts = record { items = tags };
      net = layers.net;
      transport = layers.transport;
      stop_err = layers.stop;
    }

-- layers so many bytes later, after tags that may have stopped
abbrev pub layers_after : ℕ → Option Stop → LaxLayers → LaxLayers
layers_after len stop layers =
    record {
      net = layers.net;
      transport = layers.transport;
      stop = first_stop stop (option_map (stop_by len) layers.stop);
    }

abbrev pub lax_packet_tagged : ℕ → Option LinkSlice → LaxTagged → LaxSlicedPacket
lax_packet_tagged link_len link t = lax_packet_of link t.tags
    (layers_after (link_len + t.len) (option_map (stop_by link_len) t.stop) (lax_layers_in t.last))

-- the layers of what an ether type names, after this link header of so many bytes
abbrev pub lax_packet_after : ℕ → LinkSlice → EtherPayload → LaxSlicedPacket
lax_packet_after link_len link p =
    lax_packet_tagged link_len (Some link) (lax_tags_in most_tags (complete_ether p))

abbrev pub in_lax_frame : Result (List ℕ) LenError → Result LaxSlicedPacket LenError
in_lax_frame (Ok frame) =
    Ok (lax_packet_after ethernet_len (link.Ethernet2 (without_fcs frame)) (payload_of frame))
in_lax_frame (Err e) = Err e

-- the layers of an Ethernet II frame, or why it has no link header
abbrev pub lax_sliced_ethernet : List ℕ → Result LaxSlicedPacket LenError
lax_sliced_ethernet frame = in_lax_frame (whole_at layer.Ethernet2Header ethernet_len frame)

abbrev pub in_lax_linux_sll : List ℕ → Option EtherPayload → LaxSlicedPacket
in_lax_linux_sll bytes None = lax_packet_of (Some (link.LinuxSll bytes)) [] (no_layers None)
in_lax_linux_sll bytes (Some p) = lax_packet_after sll_len (link.LinuxSll bytes) p

abbrev pub in_lax_cooked : Result (List ℕ) (HeaderSliceError SllFault)
    → Result LaxSlicedPacket (HeaderSliceError SllFault)
in_lax_cooked (Ok bytes) = Ok (in_lax_linux_sll bytes (sll.named_payload (sll.payload_of bytes)))
in_lax_cooked (Err e) = Err e

-- those of a packet of a Linux cooked capture, whose payload is parsed if its protocol is an ether
-- type
abbrev pub lax_sliced_linux_sll : List ℕ → Result LaxSlicedPacket (HeaderSliceError SllFault)
lax_sliced_linux_sll bytes = in_lax_cooked (sll_fault.whole_at bytes)

-- those of bytes after an ether type
abbrev pub lax_sliced_ether_type : EtherType → List ℕ → LaxSlicedPacket
lax_sliced_ether_type t bytes = lax_packet_after 0 (link.EtherPayload (ether_payload t bytes))
    (ether_payload t bytes)

abbrev pub in_lax_ip : LaxIpSlice → Option Stop → LaxLayers
in_lax_ip (ip.Ipv4 packet) stop = in_lax_ipv4 packet stop
in_lax_ip (ip.Ipv6 packet) stop = in_lax_ipv6 packet stop

abbrev pub in_lax_version : Result StoppedIp (HeaderSliceError IpHeaderFault)
    → Result LaxSlicedPacket (HeaderSliceError IpHeaderFault)
in_lax_version (Ok stopped) = Ok (lax_packet_of None []
    (in_lax_ip stopped.0 (option_map exts_stop stopped.1)))
in_lax_version (Err e) = Err e

-- those of an IP packet of either version, or why it has no IP header
abbrev pub lax_sliced_ip : List ℕ → Result LaxSlicedPacket (HeaderSliceError IpHeaderFault)
lax_sliced_ip bytes = in_lax_version (lax_ip_packet_at bytes)
