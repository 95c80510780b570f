-- A frame, or a packet in one, sliced into its layers.
use Rattle.std.specs.Prelude.{◌≡◌, ℕ, ◌+◌, ◌==◌, if◌then◌else◌, List, [], length, Option, Some, None, Result, Ok, Err}
use Rattle.ep_base.specs.declared.err.layer.Layer.TheVariants.{Ethernet2Header}
use Rattle.ep_base.specs.declared.err.len_error.LenError.{LenError}
use Rattle.ep_base.specs.declared.len_source.LenSource.{LenSource}
use Rattle.ep_base.specs.declared.len_source.LenSource.TheVariants as source
use Rattle.ep_base.specs.declared.link.ether_type.EtherType.{EtherType}
use Rattle.ep_ext.specs.Ipv4Exts.{auth_bytes}
use Rattle.ep_ipslice.specs.IpSlice.{IsIpPacket, ip_packet_at}
use Rattle.ep_ipslice.specs.Ipv4Packet.{ipv4_packet_at}
use Rattle.ep_ipslice.specs.Ipv6Packet.{ipv6_packet_at}
use Rattle.ep_ipslice.specs.Packet.{IpPayload, Ipv4Packet, Ipv6Packet, ipv4_payload}
use Rattle.ep_ipslice.specs.declared.err.ip.slice_error.SliceError.{SliceError as IpFault}
use Rattle.ep_ipslice.specs.declared.err.ipv4.slice_error.SliceError.{SliceError as Ipv4Fault}
use Rattle.ep_ipslice.specs.declared.err.ipv6.slice_error.SliceError.{SliceError as Ipv6Fault}
use Rattle.ep_ipslice.specs.declared.net.ip_slice.IpSlice.{IpSlice}
use Rattle.ep_ipslice.specs.declared.net.ip_slice.IpSlice.TheVariants as ip
use Rattle.ep_link.specs.Arp as arp
use Rattle.ep_link.specs.Ethernet.{ethernet_len, payload_of}
use Rattle.ep_link.specs.Frame.{without_fcs}
use Rattle.ep_link.specs.SllFault as sll_fault
use Rattle.ep_link.specs.Sll.{sll_len}
use Rattle.ep_link.specs.SllPayload as sll
use Rattle.ep_base.specs.declared.err.slice_error.SliceError.{SliceError as HeaderSliceError}
use Rattle.ep_link.specs.declared.err.linux_sll.header_error.HeaderError.{HeaderError as SllFault}
use Rattle.ep_link.specs.declared.link.link_slice.LinkSlice.{LinkSlice}
use Rattle.ep_link.specs.declared.link.link_slice.LinkSlice.TheVariants as link
use Rattle.ep_packet.specs.Readable.{ReadMessage, message_at}
use Rattle.ep_packet.specs.Readable.ReadMessage.{Icmpv4, Icmpv6, Raw, Tcp, Udp}
use Rattle.ep_packet.specs.SliceFault.{later, offset_by, of_ip, of_ipv4, of_ipv6, of_linux_sll, within}
use Rattle.ep_packet.specs.IsTagged.{IsTagged}
use Rattle.ep_packet.specs.Tags.{Tagged, most_tags, tags_in}
use Rattle.ep_packet.specs.declared.err.packet.slice_error.SliceError.{SliceError}
use Rattle.ep_packet.specs.declared.err.packet.slice_error.SliceError.TheVariants.{Len}
use Rattle.ep_packet.specs.declared.net.net_slice.NetSlice.{NetSlice}
use Rattle.ep_packet.specs.declared.net.net_slice.NetSlice.TheVariants as net
use Rattle.ep_packet.specs.declared.sliced_packet.SlicedPacket.{SlicedPacket}
use Rattle.ep_packet.specs.declared.transport.transport_slice.TransportSlice.{TransportSlice}
use Rattle.ep_packet.specs.declared.transport.transport_slice.TransportSlice.TheVariants as transport
use Rattle.ep_tag.specs.Ether.{EtherPayload}
use Rattle.ep_tag.specs.Prefix.{whole_at}
use Rattle.ep_tag.specs.declared.link.link_ext_slice.LinkExtSlice.{LinkExtSlice}

-- the ether types of the protocols that are parsed
abbrev pub ipv4_type : ℕ
ipv4_type = 0x0800

abbrev pub arp_type : ℕ
arp_type = 0x0806

abbrev pub ipv6_type : ℕ
ipv6_type = 0x86dd

-- a message as a slice, if its protocol is known
abbrev pub transport_of : ReadMessage → Option TransportSlice
transport_of (Icmpv4 m) = Some (transport.Icmpv4 m)
transport_of (Tcp m) = Some (transport.Tcp m)
transport_of (Udp m) = Some (transport.Udp m)
transport_of (Icmpv6 m) = Some (transport.Icmpv6 m)
transport_of (Raw m) = None

abbrev pub read_transport : Result ReadMessage SliceError
    → Result (Option TransportSlice) SliceError
read_transport (Ok message) = Ok (transport_of message)
read_transport (Err e) = Err e

-- what is in an IP payload that this length bounds
abbrev pub result_within : LenSource → Result (Option TransportSlice) SliceError
    → Result (Option TransportSlice) SliceError
result_within outer (Ok message) = Ok message
result_within outer (Err e) = Err (within outer e)

-- the message in an IP payload: none if the payload is a fragment
abbrev pub transport_in : IpPayload → Result (Option TransportSlice) SliceError
transport_in p = if p.fragmented then Ok None
    else result_within p.len_source (read_transport (message_at p.ip_number.0 p.payload))

-- the network layer and the transport layer
pub record Layers : Type 0 where
  pub net : Option NetSlice
  pub transport : Option TransportSlice

abbrev pub no_layers : Layers
no_layers = record { net = None; transport = None }

-- a packet and the message after so many bytes of headers
abbrev pub with_transport : NetSlice → ℕ → Result (Option TransportSlice) SliceError
    → Result Layers SliceError
with_transport packet headers_len (Ok message) =
    Ok (record { net = Some packet; transport = message })
with_transport packet headers_len (Err e) = Err (offset_by headers_len e)

abbrev pub in_ipv4 : Ipv4Packet → Result Layers SliceError
in_ipv4 packet = with_transport (net.Ipv4 packet)
    (length packet.header + length (auth_bytes packet.auth)) (transport_in (ipv4_payload packet))

abbrev pub in_ipv6 : Ipv6Packet → Result Layers SliceError
in_ipv6 packet = with_transport (net.Ipv6 packet) (length packet.header + length packet.exts.slice)
    (transport_in packet.payload)

abbrev pub ipv4_layers : Result Ipv4Packet Ipv4Fault → Result Layers SliceError
ipv4_layers (Ok packet) = in_ipv4 packet
ipv4_layers (Err e) = Err (of_ipv4 e)

abbrev pub ipv6_layers : Result Ipv6Packet Ipv6Fault → Result Layers SliceError
ipv6_layers (Ok packet) = in_ipv6 packet
ipv6_layers (Err e) = Err (of_ipv6 e)

abbrev pub ip_layers : Result IpSlice IpFault → Result Layers SliceError
ip_layers (Ok (ip.Ipv4 packet)) = in_ipv4 packet
ip_layers (Ok (ip.Ipv6 packet)) = in_ipv6 packet
ip_layers (Err e) = Err (of_ip e)

abbrev pub arp_layers : Result (List ℕ) LenError → Result Layers SliceError
arp_layers (Ok packet) = Ok (record { net = Some (net.Arp packet); transport = None })
arp_layers (Err e) = Err (Len e)

-- the layers in what an ether type names
abbrev pub layers_of : EtherPayload → Result Layers SliceError
layers_of p =
    if p.ether_type.0 == ipv4_type then ipv4_layers (ipv4_packet_at p.payload)
    else (if p.ether_type.0 == ipv6_type then ipv6_layers (ipv6_packet_at p.payload)
    else (if p.ether_type.0 == arp_type then arp_layers (arp.packet_at p.payload)
    else Ok no_layers))

-- the layers after the tags: none if nothing is named there
abbrev pub layers_in : Option EtherPayload → Result Layers SliceError
layers_in None = Ok no_layers
layers_in (Some p) = layers_of p

-- link header, tags and layers together
abbrev pub packet_of : Option LinkSlice → List LinkExtSlice → Layers → SlicedPacket
packet_of link tags layers =
    record {
      link = link;
      link_exts = record { items = tags };
      net = layers.net;
      transport = layers.transport;
    }

abbrev pub packet_with : Option LinkSlice → List LinkExtSlice → Result Layers SliceError
    → Result SlicedPacket SliceError
packet_with link tags (Ok layers) = Ok (packet_of link tags layers)
packet_with link tags (Err e) = Err e

abbrev pub packet_tagged : Option LinkSlice → Result Tagged SliceError
    → Result SlicedPacket SliceError
packet_tagged link (Ok t) = packet_with link t.tags (later t.len (layers_in t.last))
packet_tagged link (Err e) = Err e

-- the layers of what an ether type names, after this link header
abbrev pub packet_after : LinkSlice → EtherPayload → Result SlicedPacket SliceError
packet_after link p = packet_tagged (Some link) (tags_in most_tags p)

abbrev pub in_frame : Result (List ℕ) LenError → Result SlicedPacket SliceError
in_frame (Ok frame) = later ethernet_len
    (packet_after (link.Ethernet2 (without_fcs frame)) (payload_of frame))
in_frame (Err e) = Err (Len e)

-- the layers of an Ethernet II frame, or the first fault with its offset in the frame
abbrev pub sliced_ethernet : List ℕ → Result SlicedPacket SliceError
sliced_ethernet frame = in_frame (whole_at Ethernet2Header ethernet_len frame)

abbrev pub in_linux_sll : List ℕ → Option EtherPayload → Result SlicedPacket SliceError
in_linux_sll bytes None = Ok (packet_of (Some (link.LinuxSll bytes)) [] no_layers)
in_linux_sll bytes (Some p) = later sll_len (packet_after (link.LinuxSll bytes) p)

abbrev pub in_cooked : Result (List ℕ) (HeaderSliceError SllFault) → Result SlicedPacket SliceError
in_cooked (Ok bytes) = in_linux_sll bytes (sll.named_payload (sll.payload_of bytes))
in_cooked (Err e) = Err (of_linux_sll e)

-- those of a packet of a Linux cooked capture, whose payload is parsed if its protocol is an ether
-- type
abbrev pub sliced_linux_sll : List ℕ → Result SlicedPacket SliceError
sliced_linux_sll bytes = in_cooked (sll_fault.whole_at bytes)

-- bytes after an ether type
abbrev pub ether_payload : EtherType → List ℕ → EtherPayload
ether_payload t bytes = record { ether_type = t; len_source = source.Slice; payload = bytes }

-- their layers
abbrev pub sliced_ether_type : EtherType → List ℕ → Result SlicedPacket SliceError
sliced_ether_type t bytes = packet_after (link.EtherPayload (ether_payload t bytes))
    (ether_payload t bytes)

-- those of an IP packet of either version
abbrev pub sliced_ip : List ℕ → Result SlicedPacket SliceError
sliced_ip bytes = packet_with None [] (ip_layers (ip_packet_at bytes))

-- the bytes start with an IP packet, and the layers are the packet and the message that its payload
-- is
pub record AreIpLayers (bytes : List ℕ) (layers : Layers) : Type 0 where
  pub packet : IpSlice
  pub begins : IsIpPacket bytes packet
  pub message : ip_layers (Ok packet) ≡ Ok layers

-- no link header, no tags, and these layers
abbrev pub IsSlicedIp : List ℕ → SlicedPacket → Type 0
IsSlicedIp bytes packet = (layers : Layers) × AreIpLayers bytes layers
    × (packet ≡ packet_of None [] layers)

-- the tags in a payload, and the layers in what the last of them names
pub record IsSliced (p : EtherPayload) (packet : SlicedPacket) : Type 0 where
  pub last : Option EtherPayload
  pub tagged : IsTagged most_tags p packet.link_exts.items last
  pub layers : layers_in last ≡ Ok (record { net = packet.net; transport = packet.transport })
