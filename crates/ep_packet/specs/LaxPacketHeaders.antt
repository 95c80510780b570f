-- The headers of a frame, or of a packet in one, as far as they are there, and the payload after them.
use Rattle.std.specs.Prelude.{ℕ, ◌+◌, ◌-◌, ◌==◌, if◌then◌else◌, Bool, false, List, [], length, map, slice_get, Option, Some, None}
use Rattle.std.specs.Prelude.{Result, Ok, Err}
use Rattle.std.specs.Option.{option_map}
use Rattle.ep_base.specs.declared.err.layer.Layer.TheVariants as layer
use Rattle.ep_base.specs.declared.err.len_error.LenError.{LenError}
use Rattle.ep_base.specs.declared.err.slice_error.SliceError.{SliceError as HeaderSliceError}
use Rattle.ep_base.specs.declared.err.slice_error.SliceError.TheVariants as slice_error
use Rattle.ep_base.specs.declared.len_source.LenSource.TheVariants.{Slice}
use Rattle.ep_base.specs.declared.link.ether_type.EtherType.{EtherType}
use Rattle.ep_ext.specs.Ipv4Exts.{auth_bytes}
use Rattle.ep_icmp.specs.Icmpv4 as icmpv4
use Rattle.ep_ip.specs.Ipv4.{version_of}
use Rattle.ep_ip.specs.declared.err.ipv4.header_error.HeaderError.{HeaderError as Ipv4HeaderFault}
use Rattle.ep_ip.specs.declared.err.ipv6.header_error.HeaderError.{HeaderError as Ipv6HeaderFault}
use Rattle.ep_ipslice.specs.IpSlice.{no_version}
use Rattle.ep_ipslice.specs.LaxIp.{ipv4_header_fault, ipv6_header_fault, map_content}
use Rattle.ep_ipslice.specs.LaxPackets.{StoppedIpv4, lax_ipv4_packet_at}
use Rattle.ep_ipslice.specs.Packet.{IpPayload}
use Rattle.ep_ipslice.specs.declared.err.ip.header_error.HeaderError.{HeaderError as IpHeaderFault}
use Rattle.ep_ipslice.specs.declared.err.ip.header_error.HeaderError.TheVariants.{UnsupportedIpVersion}
use Rattle.ep_link.specs.Arp as arp
use Rattle.ep_link.specs.Ethernet.{ethernet_header_of, ethernet_len, payload_of}
use Rattle.ep_link.specs.Sll.{sll_header_of, sll_len}
use Rattle.ep_link.specs.SllFault as sll_fault
use Rattle.ep_link.specs.SllPayload as sll
use Rattle.ep_link.specs.declared.err.linux_sll.header_error.HeaderError.{HeaderError as SllFault}
use Rattle.ep_link.specs.declared.link.link_header.LinkHeader.{LinkHeader}
use Rattle.ep_link.specs.declared.link.link_header.LinkHeader.TheVariants as link
use Rattle.ep_packet.specs.LaxIpHeadersAt.{LaxIpv6Headers, StoppedHeaders, lax_ipv4_parts, lax_ipv6_headers_at}
use Rattle.ep_packet.specs.LaxPayload.{LaxPayload, Empty, Ether, Icmpv4, Icmpv6, Ip, LinuxSll, MacsecModified, Tcp, Udp}
use Rattle.ep_packet.specs.LaxPayload.{lax_payload_parsed}
use Rattle.ep_packet.specs.LaxSliced.{auth_stop, first_stop, ipv6_exts_stop, lax_transport_in, of_ipv4_header}
use Rattle.ep_packet.specs.LaxSliced.{of_ipv6_header}
use Rattle.ep_packet.specs.LaxTags.{LaxTagged, Stop, lax_tags_in, stop_by}
use Rattle.ep_packet.specs.LaxView.{bound_after, bounded}
use Rattle.ep_packet.specs.NetHeaders.{of_ip}
use Rattle.ep_packet.specs.SameHeaders.{transport_fields}
use Rattle.ep_packet.specs.Sliced.{arp_type, ether_payload, ipv4_type, ipv6_type}
use Rattle.ep_packet.specs.Tags.{most_tags}
use Rattle.ep_packet.specs.declared.err.packet.slice_error.SliceError.TheVariants as fault
use Rattle.ep_packet.specs.declared.lax_packet_headers.LaxPacketHeaders.{LaxPacketHeaders}
use Rattle.ep_packet.specs.declared.net.net_headers.NetHeaders.{NetHeaders}
use Rattle.ep_packet.specs.declared.net.net_headers.NetHeaders.TheVariants as net
use Rattle.ep_packet.specs.declared.transport.transport_header.TransportHeader.{TransportHeader}
use Rattle.ep_packet.specs.declared.transport.transport_slice.TransportSlice.{TransportSlice}
use Rattle.ep_packet.specs.declared.transport.transport_slice.TransportSlice.TheVariants as message
use Rattle.ep_tag.specs.Ether.{EtherPayload, LaxEtherPayload, complete_ether}
use Rattle.ep_tag.specs.LinkExt.{lax_fields_of, lax_payload_after}
use Rattle.ep_tag.specs.MacsecLax.{LaxMacsecPayload, LaxModified, LaxUnmodified}
use Rattle.ep_tag.specs.Prefix.{whole_at}
use Rattle.ep_tag.specs.declared.link.lax_link_ext_slice.LaxLinkExtSlice.{LaxLinkExtSlice}
use Rattle.ep_tag.specs.declared.link.lax_link_ext_slice.LaxLinkExtSlice.TheVariants as tag
use Rattle.ep_tag.specs.declared.link.link_ext_header.LinkExtHeader.{LinkExtHeader}
use Rattle.ep_tcpudp.specs.Tcp as tcp
use Rattle.std.specs.Prelude.{drop}

pub record LaxHeaders : Type 0 where
  pub link : Option LinkHeader
  pub link_exts : List LinkExtHeader
  pub net : Option NetHeaders
  pub transport : Option TransportHeader
  pub payload : LaxPayload
  pub stop : Option Stop

-- the value of headers with a borrowed payload
abbrev pub lax_headers_parsed : LaxPacketHeaders → LaxHeaders
lax_headers_parsed h = record {
  link = h.link;
  link_exts = h.link_exts.items;
  net = h.net;
  transport = h.transport;
  payload = lax_payload_parsed h.payload;
  stop = h.stop_err;
}

abbrev pub lax_result_parsed : {E : Type 0} → Result LaxPacketHeaders E → Result LaxHeaders E
lax_result_parsed (Ok h) = Ok (lax_headers_parsed h)
lax_result_parsed (Err e) = Err e

-- the bytes after the header of a message, in an IP payload of which bytes may be missing
abbrev pub lax_after_message : Bool → TransportSlice → LaxPayload
lax_after_message incomplete (message.Icmpv4 m) =
    Icmpv4 (drop (icmpv4.header_len (icmpv4.type_of m)) m) incomplete
lax_after_message incomplete (message.Tcp m) = Tcp (tcp.payload_of m) incomplete
lax_after_message incomplete (message.Udp m) = Udp (drop 8 m) incomplete
lax_after_message incomplete (message.Icmpv6 m) = Icmpv6 (drop 8 m) incomplete

-- the payload after the last header of an IP packet
abbrev pub lax_after_headers : Bool × IpPayload → Option TransportSlice → LaxPayload
lax_after_headers p None = Ip p
lax_after_headers p (Some m) = lax_after_message p.0 m

-- the headers of the network and the transport layer, the payload after them, where there is a packet
-- of the network layer, and what stopped
pub record LaxHeaderLayers : Type 0 where
  pub net : Option NetHeaders
  pub transport : Option TransportHeader
  pub payload : Option LaxPayload
  pub stop : Option Stop

abbrev pub no_lax_headers : Option Stop → LaxHeaderLayers
no_lax_headers stop = record { net = None; transport = None; payload = None; stop = stop }

abbrev pub with_lax_message : NetHeaders → Bool × IpPayload → Option TransportSlice × Option Stop
    → LaxHeaderLayers
with_lax_message headers p found = record {
  net = Some headers;
  transport = option_map transport_fields found.0;
  payload = Some (lax_after_headers p found.0);
  stop = found.1;
}

-- the message after so many bytes of headers is that of the slices
abbrev pub in_lax_packet : {S : Type 0} → (S → Stop) → ℕ → StoppedHeaders S → LaxHeaderLayers
in_lax_packet named len s = with_lax_message (of_ip s.headers) s.payload
    (lax_transport_in len s.payload.1 (option_map named s.stop))

abbrev pub in_lax_ipv4_headers : StoppedIpv4 → LaxHeaderLayers
in_lax_ipv4_headers s =
    in_lax_packet auth_stop (length s.0.header + length (auth_bytes s.0.auth)) (lax_ipv4_parts s)

abbrev pub in_lax_ipv6_headers : LaxIpv6Headers → LaxHeaderLayers
in_lax_ipv6_headers h = in_lax_packet ipv6_exts_stop h.len h.parts

abbrev pub lax_ipv4_headers : Result StoppedIpv4 (HeaderSliceError Ipv4HeaderFault) → LaxHeaderLayers
lax_ipv4_headers (Ok s) = in_lax_ipv4_headers s
lax_ipv4_headers (Err e) = no_lax_headers (Some (of_ipv4_header e, layer.Ipv4Header))

abbrev pub lax_ipv6_headers : Result LaxIpv6Headers (HeaderSliceError Ipv6HeaderFault)
    → LaxHeaderLayers
lax_ipv6_headers (Ok h) = in_lax_ipv6_headers h
lax_ipv6_headers (Err e) = no_lax_headers (Some (of_ipv6_header e, layer.Ipv6Header))

-- after an ARP packet there is no payload
abbrev pub lax_arp_headers : Result (List ℕ) LenError → LaxHeaderLayers
lax_arp_headers (Ok packet) = record {
  net = Some (net.Arp (arp.fields_of packet));
  transport = None;
  payload = Some Empty;
  stop = None;
}
lax_arp_headers (Err e) = no_lax_headers (Some (fault.Len e, layer.Arp))

-- the headers in what an ether type names
abbrev pub lax_headers_of : LaxEtherPayload → LaxHeaderLayers
lax_headers_of p =
    if p.ether_type.0 == ipv4_type then lax_ipv4_headers (lax_ipv4_packet_at p.payload)
    else (if p.ether_type.0 == ipv6_type then lax_ipv6_headers (lax_ipv6_headers_at p.payload)
    else (if p.ether_type.0 == arp_type then lax_arp_headers (arp.packet_at p.payload)
    else no_lax_headers None))

-- the headers after the tags: none if nothing is named there
abbrev pub lax_headers_in : Option LaxEtherPayload → LaxHeaderLayers
lax_headers_in None = no_lax_headers None
lax_headers_in (Some p) = lax_headers_of p

-- the last of the tags
abbrev pub lax_last_of : List LaxLinkExtSlice → Option LaxLinkExtSlice
lax_last_of tags = slice_get tags (length tags - 1)

-- what the last of the ether types names: that of the last tag, or without one this payload
abbrev pub lax_named_after : LaxEtherPayload → Option LaxLinkExtSlice → Option LaxEtherPayload
lax_named_after p None = Some p
lax_named_after p (Some t) = lax_payload_after t

-- the modified payload of a MACsec header
abbrev pub lax_modified_payload : LaxMacsecPayload → LaxPayload
lax_modified_payload (LaxUnmodified p) = Empty
lax_modified_payload (LaxModified incomplete bytes) = MacsecModified bytes incomplete

abbrev pub lax_modified_after : Option LaxLinkExtSlice → LaxPayload
lax_modified_after None = Empty
lax_modified_after (Some (tag.Vlan bytes)) = Empty
lax_modified_after (Some (tag.Macsec m)) = lax_modified_payload m.payload

-- the payload after the tags, also where the next one has a fault: what the last ether type names, or
-- else the modified payload of the last MACsec header
abbrev pub lax_after_tags : List LaxLinkExtSlice → Option LaxEtherPayload → LaxPayload
lax_after_tags tags (Some p) = Ether (bounded (bound_after (false, Slice) tags) p)
lax_after_tags tags None = lax_modified_after (lax_last_of tags)

abbrev pub or_else : Option LaxPayload → LaxPayload → LaxPayload
or_else (Some p) below = p
or_else None below = below

-- all headers together, where tags and layers come after so many bytes of a link header
abbrev pub lax_headers_tagged : ℕ → Option LinkHeader → LaxEtherPayload → LaxTagged → LaxHeaderLayers
    → LaxHeaders
lax_headers_tagged link_len link p t layers = record {
  link = link;
  link_exts = map lax_fields_of t.tags;
  net = layers.net;
  transport = layers.transport;
  payload = or_else layers.payload
      (lax_after_tags t.tags (lax_named_after p (lax_last_of t.tags)));
  stop = first_stop (option_map (stop_by link_len) t.stop)
      (option_map (stop_by (link_len + t.len)) layers.stop);
}

-- the headers of what an ether type names, after this link header of so many bytes
abbrev pub lax_headers_after : ℕ → Option LinkHeader → EtherPayload → LaxHeaders
lax_headers_after link_len link p =
    let t : LaxTagged = lax_tags_in most_tags (complete_ether p) in
    lax_headers_tagged link_len link (complete_ether p) t (lax_headers_in t.last)

abbrev pub in_lax_frame : Result (List ℕ) LenError → Result LaxHeaders LenError
in_lax_frame (Ok frame) = Ok (lax_headers_after ethernet_len
    (Some (link.Ethernet2 (ethernet_header_of frame))) (payload_of frame))
in_lax_frame (Err e) = Err e

-- those of an Ethernet II frame, or why it has no link header
abbrev pub lax_ethernet_headers : List ℕ → Result LaxHeaders LenError
lax_ethernet_headers frame = in_lax_frame (whole_at layer.Ethernet2Header ethernet_len frame)

-- those without a packet
abbrev pub lax_headers_alone : Option LinkHeader → LaxPayload → LaxHeaders
lax_headers_alone link p = record {
  link = link;
  link_exts = [];
  net = None;
  transport = None;
  payload = p;
  stop = None;
}

abbrev pub in_lax_linux_sll : List ℕ → Option EtherPayload → LaxHeaders
in_lax_linux_sll bytes None =
    lax_headers_alone (Some (link.LinuxSll (sll_header_of bytes))) (LinuxSll (sll.payload_of bytes))
in_lax_linux_sll bytes (Some p) =
    lax_headers_after sll_len (Some (link.LinuxSll (sll_header_of bytes))) p

abbrev pub in_lax_cooked : Result (List ℕ) (HeaderSliceError SllFault)
    → Result LaxHeaders (HeaderSliceError SllFault)
in_lax_cooked (Ok bytes) = Ok (in_lax_linux_sll bytes (sll.named_payload (sll.payload_of bytes)))
in_lax_cooked (Err e) = Err e

-- those of a packet of a Linux cooked capture
abbrev pub lax_linux_sll_headers : List ℕ → Result LaxHeaders (HeaderSliceError SllFault)
lax_linux_sll_headers bytes = in_lax_cooked (sll_fault.whole_at bytes)

-- those of the bytes after an ether type
abbrev pub lax_ether_type_headers : EtherType → List ℕ → LaxHeaders
lax_ether_type_headers t bytes = lax_headers_after 0 None (ether_payload t bytes)

-- those of an IP packet, or why it has no IP header
abbrev pub of_lax_ipv4_headers : Result StoppedIpv4 (HeaderSliceError Ipv4HeaderFault)
    → Result LaxHeaderLayers (HeaderSliceError IpHeaderFault)
of_lax_ipv4_headers (Ok s) = Ok (in_lax_ipv4_headers s)
of_lax_ipv4_headers (Err e) = Err (map_content ipv4_header_fault e)

abbrev pub of_lax_ipv6_headers : Result LaxIpv6Headers (HeaderSliceError Ipv6HeaderFault)
    → Result LaxHeaderLayers (HeaderSliceError IpHeaderFault)
of_lax_ipv6_headers (Ok h) = Ok (in_lax_ipv6_headers h)
of_lax_ipv6_headers (Err e) = Err (map_content ipv6_header_fault e)

abbrev pub lax_ip_layers : List ℕ → Result LaxHeaderLayers (HeaderSliceError IpHeaderFault)
lax_ip_layers bytes =
    if length bytes == 0 then Err (slice_error.Len no_version)
    else (if version_of bytes == 4 then of_lax_ipv4_headers (lax_ipv4_packet_at bytes)
    else (if version_of bytes == 6 then of_lax_ipv6_headers (lax_ipv6_headers_at bytes)
    else Err (slice_error.Content (UnsupportedIpVersion (version_of bytes)))))

abbrev pub lax_headers_alone_in : LaxHeaderLayers → LaxHeaders
lax_headers_alone_in layers = record {
  link = None;
  link_exts = [];
  net = layers.net;
  transport = layers.transport;
  payload = or_else layers.payload Empty;
  stop = layers.stop;
}

abbrev pub with_lax_layers : Result LaxHeaderLayers (HeaderSliceError IpHeaderFault)
    → Result LaxHeaders (HeaderSliceError IpHeaderFault)
with_lax_layers (Ok layers) = Ok (lax_headers_alone_in layers)
with_lax_layers (Err e) = Err e

-- those of an IP packet of either version
abbrev pub lax_ip_packet_headers : List ℕ → Result LaxHeaders (HeaderSliceError IpHeaderFault)
lax_ip_packet_headers bytes = with_lax_layers (lax_ip_layers bytes)
