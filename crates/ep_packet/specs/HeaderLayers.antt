-- The headers of the network and the transport layer, and the payload after them.
use Rattle.std.specs.Prelude.{ℕ, ◌+◌, ◌-◌, ◌==◌, ◌&&◌, nat_lt, if◌then◌else◌, List, length, drop, Option, Some, None}
use Rattle.std.specs.Prelude.{Result, Ok, Err}
use Rattle.ep_base.specs.declared.err.len_error.LenError.{LenError}
use Rattle.ep_icmp.specs.Icmpv4 as icmpv4
use Rattle.ep_icmp.specs.Icmpv4Fault as icmpv4_fault
use Rattle.ep_icmp.specs.Icmpv6 as icmpv6
use Rattle.ep_icmp.specs.Icmpv6Fault as icmpv6_fault
use Rattle.ep_ipslice.specs.Packet.{IpPayload}
use Rattle.ep_ipslice.specs.declared.err.ip.headers_error.HeadersError.TheVariants as headers_error
use Rattle.ep_ipslice.specs.declared.err.ip.headers_slice_error.HeadersSliceError.{HeadersSliceError}
use Rattle.ep_ipslice.specs.declared.err.ip.headers_slice_error.HeadersSliceError.TheVariants as slice_error
use Rattle.ep_ipslice.specs.declared.err.ipv4.slice_error.SliceError.{SliceError as Ipv4Fault}
use Rattle.ep_ipslice.specs.declared.err.ipv6.slice_error.SliceError.{SliceError as Ipv6Fault}
use Rattle.ep_link.specs.Arp as arp
use Rattle.ep_packet.specs.IpHeadersAt.{ipv4_headers_at, ipv6_headers_at}
use Rattle.ep_packet.specs.NetHeaders.{of_ip}
use Rattle.ep_packet.specs.Payload.{Payload, Empty, Ether, Ip, Udp, Tcp, Icmpv4, Icmpv6}
use Rattle.ep_packet.specs.Readable as number
use Rattle.ep_packet.specs.SliceFault.{offset_by, of_ipv4, of_ipv6, within}
use Rattle.ep_packet.specs.Sliced.{arp_type, ipv4_type, ipv6_type}
use Rattle.ep_packet.specs.declared.err.packet.slice_error.SliceError.{SliceError}
use Rattle.ep_packet.specs.declared.err.packet.slice_error.SliceError.TheVariants as error
use Rattle.ep_packet.specs.declared.net.ip_headers.IpHeaders.{IpHeaders}
use Rattle.ep_packet.specs.declared.net.ip_headers.IpHeaders.TheVariants as ip
use Rattle.ep_packet.specs.declared.net.net_headers.NetHeaders.{NetHeaders}
use Rattle.ep_packet.specs.declared.net.net_headers.NetHeaders.TheVariants as net
use Rattle.ep_packet.specs.declared.transport.transport_header.TransportHeader.{TransportHeader}
use Rattle.ep_packet.specs.declared.transport.transport_header.TransportHeader.TheVariants as transport
use Rattle.ep_tag.specs.Ether.{EtherPayload}
use Rattle.ep_tcpudp.specs.Tcp as tcp
use Rattle.ep_tcpudp.specs.TcpFault.{segment_at}
use Rattle.ep_tcpudp.specs.Udp as udp
use Rattle.ep_tcpudp.specs.UdpFault as udp_fault
use Rattle.ep_base.specs.declared.err.slice_error.SliceError.{SliceError as HeaderSliceError}
use Rattle.ep_tcpudp.specs.declared.err.tcp.header_error.HeaderError.{HeaderError}

pub record HeaderLayers : Type 0 where
  pub net : Option NetHeaders
  pub transport : Option TransportHeader
  pub payload : Payload

-- a transport header, and the bytes after it as a payload of its protocol
abbrev pub MessageParts : Type 0
MessageParts = Option (TransportHeader × Payload)

abbrev pub icmpv4_parts : Result (List ℕ) LenError → Result MessageParts SliceError
icmpv4_parts (Ok m) =
    Ok (Some (
      transport.Icmpv4 (icmpv4.icmpv4_header_of m),
      Icmpv4
          (drop (icmpv4.header_len (icmpv4.type_of m)) m),
    ))
icmpv4_parts (Err e) = Err (error.Len e)

abbrev pub tcp_parts : Result (List ℕ) (HeaderSliceError HeaderError)
    → Result MessageParts SliceError
tcp_parts (Ok m) = Ok (Some (transport.Tcp (tcp.tcp_header_of m), Tcp (tcp.payload_of m)))
tcp_parts (Err e) = Err (number.tcp_fault e)

-- of UDP the header alone is read, and all bytes after it are payload
abbrev pub udp_parts : List ℕ → Result (List ℕ) LenError → Result MessageParts SliceError
udp_parts bytes (Ok header) = Ok (Some (
  transport.Udp (udp.udp_header_of header),
  Udp (drop 8
      bytes),
))
udp_parts bytes (Err e) = Err (error.Len e)

abbrev pub icmpv6_parts : Result (List ℕ) LenError → Result MessageParts SliceError
icmpv6_parts (Ok m) = Ok (Some (transport.Icmpv6 (icmpv6.icmpv6_header_of m), Icmpv6 (drop 8 m)))
icmpv6_parts (Err e) = Err (error.Len e)

-- the header of a message with this number, if the protocol is one that is read, or why there is
-- none
abbrev pub message_parts : ℕ → List ℕ → Result MessageParts SliceError
message_parts n bytes =
    if n == number.icmpv4 then icmpv4_parts (icmpv4_fault.message_at bytes)
    else (if n == number.tcp then tcp_parts (segment_at bytes)
    else (if n == number.udp then udp_parts bytes (udp_fault.header_at bytes)
    else (if n == number.icmpv6 then icmpv6_parts (icmpv6_fault.message_at bytes) else Ok None)))

-- that of the message in an IP payload: none if the payload is a fragment
abbrev pub message_in : IpPayload → Result MessageParts SliceError
message_in p = if p.fragmented then Ok None else message_parts p.ip_number.0 p.payload

-- how many of so many bytes a packet takes, by its length field; without one it takes all
abbrev pub packet_len : IpHeaders → ℕ → ℕ
packet_len (ip.Ipv4 h e) found = h.total_len
packet_len (ip.Ipv6 h e) found = if (h.payload_length == 0) && nat_lt 40 found then found
    else 40 + h.payload_length

-- headers of the network layer, and the message at this offset. The payload is that of the message,
-- or of the packet if that is a fragment or of a number that isn't read.
abbrev pub with_message : NetHeaders → ℕ → IpPayload → Result MessageParts SliceError
    → Result HeaderLayers SliceError
with_message headers position p (Ok None) =
    Ok (record { net = Some headers; transport = None; payload = Ip p })
with_message headers position p (Ok (Some m)) =
    Ok (record { net = Some headers; transport = Some m.0; payload = m.1 })
with_message headers position p (Err e) = Err (offset_by position (within p.len_source e))

-- in the IP packet at the start of so many bytes, which ends where its payload ends
abbrev pub in_packet : ℕ → IpHeaders → IpPayload → Result HeaderLayers SliceError
in_packet found headers p =
    with_message (of_ip headers) (packet_len headers found - length p.payload) p (message_in p)

abbrev pub ipv4_layers : ℕ → Result (IpHeaders × IpPayload) Ipv4Fault
    → Result HeaderLayers SliceError
ipv4_layers found (Ok parts) = in_packet found parts.0 parts.1
ipv4_layers found (Err e) = Err (of_ipv4 e)

abbrev pub ipv6_layers : ℕ → Result (IpHeaders × IpPayload) Ipv6Fault
    → Result HeaderLayers SliceError
ipv6_layers found (Ok parts) = in_packet found parts.0 parts.1
ipv6_layers found (Err e) = Err (of_ipv6 e)

-- a fault of IP headers as one of all layers
abbrev pub of_headers : HeadersSliceError → SliceError
of_headers (slice_error.Len e) = error.Len e
of_headers (slice_error.Content (headers_error.Ip e)) = error.Ip e
of_headers (slice_error.Content (headers_error.Ipv4Ext e)) = error.Ipv4Exts e
of_headers (slice_error.Content (headers_error.Ipv6Ext e)) = error.Ipv6Exts e

abbrev pub ip_layers : ℕ → Result (IpHeaders × IpPayload) HeadersSliceError
    → Result HeaderLayers SliceError
ip_layers found (Ok parts) = in_packet found parts.0 parts.1
ip_layers found (Err e) = Err (of_headers e)

abbrev pub arp_layers : Result (List ℕ) LenError → Result HeaderLayers SliceError
arp_layers (Ok packet) =
    Ok (record { net = Some (net.Arp (arp.fields_of packet)); transport = None; payload = Empty })
arp_layers (Err e) = Err (error.Len e)

-- no packet of the network layer
abbrev pub payload_alone : Payload → HeaderLayers
payload_alone p = record { net = None; transport = None; payload = p }

-- the layers in what an ether type names
abbrev pub layers_of : EtherPayload → Result HeaderLayers SliceError
layers_of p =
    if p.ether_type.0 == ipv4_type then ipv4_layers (length p.payload) (ipv4_headers_at p.payload)
    else (if p.ether_type.0 == ipv6_type
    then ipv6_layers (length p.payload) (ipv6_headers_at p.payload)
    else (if p.ether_type.0 == arp_type then arp_layers (arp.packet_at p.payload)
    else Ok (payload_alone (Ether p))))
