-- What conditions and conversations read of the header of a message of TCP, UDP or SCTP.
use Rattle.std.specs.Prelude.{ℕ, ◌==◌, nat_lt, if◌then◌else◌, Bool, false, List, length, Option, Some, None, Result, Ok, Err}
use Rattle.std.specs.Option.{option_map_or}
use Rattle.ep_base.specs.Bytes.{num}
use Rattle.ep_ipslice.specs.Packet.{IpPayload, ipv4_payload}
use Rattle.ep_packet.specs.Readable.{ReadMessage, message_at}
use Rattle.ep_packet.specs.Readable.ReadMessage.{Icmpv4, Icmpv6, Raw, Tcp, Udp}
use Rattle.ep_packet.specs.declared.err.packet.slice_error.SliceError.{SliceError}
use Rattle.ep_packet.specs.declared.lax_sliced_packet.LaxSlicedPacket.{LaxSlicedPacket}
use Rattle.ep_packet.specs.declared.net.lax_net_slice.LaxNetSlice.{LaxNetSlice}
use Rattle.ep_packet.specs.declared.net.lax_net_slice.LaxNetSlice.TheVariants as lax
use Rattle.ep_packet.specs.declared.net.net_slice.NetSlice.{NetSlice}
use Rattle.ep_packet.specs.declared.net.net_slice.NetSlice.TheVariants as net
use Rattle.ep_packet.specs.declared.sliced_packet.SlicedPacket.{SlicedPacket}
use Rattle.ep_packet.specs.declared.transport.transport_slice.TransportSlice.{TransportSlice}
use Rattle.ep_packet.specs.declared.transport.transport_slice.TransportSlice.TheVariants as transport
use Rattle.ep_tcpudp.specs.Tcp as tcp
use Rattle.ep_tcpudp.specs.Udp as udp
use Rattle.packets.specs.declared.dissection.Fragment.{Fragment}
use Rattle.packets.specs.declared.dissection.Fragment.TheVariants as fragment
use Rattle.packets.specs.declared.message_header.MessageHeader.{MessageHeader}
use Rattle.packets.specs.declared.show.endpoints.Ports.{Ports}

abbrev pub segment_header : List ℕ → MessageHeader
segment_header segment = record {
  source_port = tcp.source_port_of segment;
  destination_port = tcp.destination_port_of segment;
  fin = tcp.fin_of segment;
  syn = tcp.syn_of segment;
  rst = tcp.rst_of segment;
  ack = tcp.ack_of segment;
  sequence_number = tcp.sequence_number_of segment;
  acknowledgment_number = tcp.acknowledgment_number_of segment;
}

-- a header without flags and numbers of its own
abbrev pub ports_header : (source destination : ℕ) → MessageHeader
ports_header source destination = record {
  source_port = source;
  destination_port = destination;
  fin = false;
  syn = false;
  rst = false;
  ack = false;
  sequence_number = 0;
  acknowledgment_number = 0;
}

abbrev pub datagram_header : List ℕ → MessageHeader
datagram_header datagram =
    ports_header (udp.source_port_of datagram) (udp.destination_port_of datagram)

-- the ports of an SCTP packet, which begins with a header of 12 bytes (RFC 9260, section 3.1)
abbrev pub sctp_ports : List ℕ → Option Ports
sctp_ports bytes = if nat_lt (length bytes) 12 then None
    else Some (record { source = num bytes 0 2; destination = num bytes 2 2 })

abbrev pub sctp_header : List ℕ → Option MessageHeader
sctp_header bytes =
    option_map_or (λ (ports : Ports). Some (ports_header ports.source ports.destination))
    (sctp_ports bytes) None

-- the header of a message of another protocol than those that are read further; the number of SCTP is
-- 132
abbrev pub raw_header : (number : ℕ) → List ℕ → Option MessageHeader
raw_header number bytes = if number == 132 then sctp_header bytes else None

abbrev pub transport_header : TransportSlice → Option MessageHeader
transport_header (transport.Udp datagram) = Some (datagram_header datagram)
transport_header (transport.Tcp segment) = Some (segment_header segment)
transport_header (transport.Icmpv4 message) = None
transport_header (transport.Icmpv6 message) = None

-- of the payload of an IP packet, if that is no fragment
abbrev pub whole_header : (fragmented : Bool) → (number : ℕ) → List ℕ → Option MessageHeader
whole_header fragmented number bytes = if fragmented then None else raw_header number bytes

abbrev pub payload_header : IpPayload → Option MessageHeader
payload_header payload = whole_header payload.fragmented payload.ip_number.0 payload.payload

abbrev pub net_header : Option NetSlice → Option MessageHeader
net_header None = None
net_header (Some (net.Ipv4 packet)) = payload_header (ipv4_payload packet)
net_header (Some (net.Ipv6 packet)) = payload_header packet.payload
net_header (Some (net.Arp packet)) = None

abbrev pub lax_net_header : Option LaxNetSlice → Option MessageHeader
lax_net_header None = None
lax_net_header (Some (lax.Ipv4 packet)) = payload_header packet.payload
lax_net_header (Some (lax.Ipv6 packet)) = payload_header packet.payload
lax_net_header (Some (lax.Arp packet)) = None

-- the header of a reassembled message with this number, if it can be read
abbrev pub completed_header : (number : ℕ) → Result ReadMessage SliceError → Option MessageHeader
completed_header number (Ok (Icmpv4 message)) = None
completed_header number (Ok (Tcp segment)) = Some (segment_header segment)
completed_header number (Ok (Udp datagram)) = Some (datagram_header datagram)
completed_header number (Ok (Icmpv6 message)) = None
completed_header number (Ok (Raw bytes)) = raw_header number bytes
completed_header number (Err e) = None

-- the header that the transport layer has, or else the network layer's payload
abbrev pub header_in : Option TransportSlice → Option MessageHeader → Option MessageHeader
header_in None other = other
header_in (Some transport) other = transport_header transport

abbrev pub lax_packet_header : Option LaxSlicedPacket → Option MessageHeader
lax_packet_header None = None
lax_packet_header (Some packet) = header_in packet.transport (lax_net_header packet.net)

abbrev pub packet_header : Result SlicedPacket SliceError → Option LaxSlicedPacket → Option MessageHeader
packet_header (Ok packet) lax_layers = header_in packet.transport (net_header packet.net)
packet_header (Err e) lax_layers = lax_packet_header lax_layers

-- the header of the message of a packet, or of the one that it completes; of a packet that is refused
-- the header that is there
abbrev pub message_header : Result SlicedPacket SliceError → Option LaxSlicedPacket → Option Fragment
    → Option MessageHeader
message_header layers lax_layers None = packet_header layers lax_layers
message_header layers lax_layers (Some (fragment.Waits started)) = packet_header layers lax_layers
message_header layers lax_layers (Some (fragment.Completes started message)) = completed_header
    message.ip_number.0 (message_at message.ip_number.0 message.payload.items)
message_header layers lax_layers (Some (fragment.Refused started error)) = packet_header layers lax_layers

abbrev pub ports_of : Option MessageHeader → Option (ℕ × ℕ)
ports_of None = None
ports_of (Some header) = Some (header.source_port, header.destination_port)
