-- Which packets a TCP connection is followed by, and by which segments: those whose IP packet is whole.
use Rattle.std.specs.Prelude.{ℕ, ◌==◌, ◌||◌, if◌then◌else◌, Bool, true, false, not, Option, Some, None, List}
use Rattle.std.specs.Prelude.{Result, Ok, Err}
use Rattle.ep_ip.specs.Ipv6.{payload_length_of}
use Rattle.ep_packet.specs.Readable.{ReadMessage, message_at}
use Rattle.ep_packet.specs.Readable.ReadMessage.{Icmpv4, Icmpv6, Raw, Tcp, Udp}
use Rattle.ep_packet.specs.declared.err.packet.slice_error.SliceError.{SliceError}
use Rattle.ep_packet.specs.declared.net.net_slice.NetSlice.{NetSlice}
use Rattle.ep_packet.specs.declared.net.net_slice.NetSlice.TheVariants as net
use Rattle.ep_packet.specs.declared.sliced_packet.SlicedPacket.{SlicedPacket}
use Rattle.ep_packet.specs.declared.transport.transport_slice.TransportSlice.{TransportSlice}
use Rattle.ep_packet.specs.declared.transport.transport_slice.TransportSlice.TheVariants as transport
use Rattle.packets.specs.Lengths.{is_cut}
use Rattle.packets.specs.declared.dissection.Dissection.{Dissection}
use Rattle.packets.specs.declared.dissection.Fragment.{Fragment}
use Rattle.packets.specs.declared.dissection.Fragment.TheVariants as fragment

-- the IP header states the length of its packet, whose bytes are all there if the packet isn't refused; a payload length of 0
-- states none: all that follows is the payload (RFC 8200, section 3; RFC 2675, section 2)
abbrev pub states_length : Option NetSlice → Bool
states_length None = false
states_length (Some (net.Ipv4 packet)) = true
states_length (Some (net.Ipv6 packet)) = not (payload_length_of packet.header == 0)
states_length (Some (net.Arp packet)) = false

abbrev pub layers_state_length : Result SlicedPacket SliceError → Bool
layers_state_length (Ok packet) = states_length packet.net
layers_state_length (Err e) = false

-- all bytes of its IP packet were captured: what is cut off, if anything is, comes after them
abbrev pub is_whole : (captured_len wire_len : ℕ) → Result SlicedPacket SliceError → Bool
is_whole captured_len wire_len layers = not (is_cut captured_len wire_len) || layers_state_length layers

-- ---- the segment

abbrev pub transport_segment : Option TransportSlice → Option (List ℕ)
transport_segment None = None
transport_segment (Some (transport.Udp datagram)) = None
transport_segment (Some (transport.Tcp segment)) = Some segment
transport_segment (Some (transport.Icmpv4 message)) = None
transport_segment (Some (transport.Icmpv6 message)) = None

abbrev pub layers_segment : Result SlicedPacket SliceError → Option (List ℕ)
layers_segment (Ok packet) = transport_segment packet.transport
layers_segment (Err e) = None

abbrev pub completed_segment : Result ReadMessage SliceError → Option (List ℕ)
completed_segment (Ok (Icmpv4 message)) = None
completed_segment (Ok (Tcp segment)) = Some segment
completed_segment (Ok (Udp datagram)) = None
completed_segment (Ok (Icmpv6 message)) = None
completed_segment (Ok (Raw bytes)) = None
completed_segment (Err e) = None

-- the segment of a packet, or of the message that it completes
abbrev pub packet_segment : Result SlicedPacket SliceError → Option Fragment → Option (List ℕ)
packet_segment layers None = layers_segment layers
packet_segment layers (Some (fragment.Waits started)) = layers_segment layers
packet_segment layers (Some (fragment.Completes started message)) =
    completed_segment (message_at message.ip_number.0 message.payload.items)
packet_segment layers (Some (fragment.Refused started error)) = layers_segment layers

-- the same, if its IP packet is whole
abbrev pub whole_segment : Dissection → Option (List ℕ)
whole_segment packet = if is_whole packet.captured_len packet.wire_len packet.layers
    then packet_segment packet.layers packet.fragment else None
