-- Which packets have a message of neighbor discovery (RFC 4861, section 4) or of multicast listener
-- discovery (RFC 2710, section 3; RFC 3810, section 5): by the type of their ICMPv6 message.
use Rattle.std.specs.Prelude.{ℕ, ◌==◌, ◌||◌, ◌&&◌, nat_le, Bool, false, Option, Some, None, Result, Ok, Err}
use Rattle.ep_base.specs.Bytes.{num}
use Rattle.ep_icmp.specs.Ndp.{is_ndp_type}
use Rattle.ep_packet.specs.Readable.{ReadMessage, message_at}
use Rattle.ep_packet.specs.Readable.ReadMessage.{Icmpv4, Icmpv6, Raw, Tcp, Udp}
use Rattle.ep_packet.specs.declared.err.packet.slice_error.SliceError.{SliceError}
use Rattle.ep_packet.specs.declared.lax_sliced_packet.LaxSlicedPacket.{LaxSlicedPacket}
use Rattle.ep_packet.specs.declared.sliced_packet.SlicedPacket.{SlicedPacket}
use Rattle.ep_packet.specs.declared.transport.transport_slice.TransportSlice.{TransportSlice}
use Rattle.ep_packet.specs.declared.transport.transport_slice.TransportSlice.TheVariants as transport
use Rattle.packets.specs.declared.dissection.Fragment.{Fragment}
use Rattle.packets.specs.declared.dissection.Fragment.TheVariants as fragment

-- the type of an ICMPv6 message, which is its first byte
abbrev pub transport_type : Option TransportSlice → Option ℕ
transport_type None = None
transport_type (Some (transport.Udp datagram)) = None
transport_type (Some (transport.Tcp segment)) = None
transport_type (Some (transport.Icmpv4 message)) = None
transport_type (Some (transport.Icmpv6 message)) = Some (num message 0 1)

-- the same of a reassembled message, if it can be read
abbrev pub completed_type : Result ReadMessage SliceError → Option ℕ
completed_type (Ok (Icmpv4 message)) = None
completed_type (Ok (Tcp segment)) = None
completed_type (Ok (Udp datagram)) = None
completed_type (Ok (Icmpv6 message)) = Some (num message 0 1)
completed_type (Ok (Raw bytes)) = None
completed_type (Err e) = None

abbrev pub lax_type : Option LaxSlicedPacket → Option ℕ
lax_type None = None
lax_type (Some packet) = transport_type packet.transport

abbrev pub packet_type : Result SlicedPacket SliceError → Option LaxSlicedPacket → Option ℕ
packet_type (Ok packet) lax_layers = transport_type packet.transport
packet_type (Err e) lax_layers = lax_type lax_layers

-- the type of the ICMPv6 message of a packet, or of the one that it completes; of a packet that is
-- refused that of the header that is there
abbrev pub icmpv6_type : Result SlicedPacket SliceError → Option LaxSlicedPacket → Option Fragment
    → Option ℕ
icmpv6_type layers lax_layers None = packet_type layers lax_layers
icmpv6_type layers lax_layers (Some (fragment.Waits started)) = packet_type layers lax_layers
icmpv6_type layers lax_layers (Some (fragment.Completes started message)) =
    completed_type (message_at message.ip_number.0 message.payload.items)
icmpv6_type layers lax_layers (Some (fragment.Refused started error)) = packet_type layers lax_layers

abbrev pub is_ndp : Option ℕ → Bool
is_ndp None = false
is_ndp (Some t) = is_ndp_type t

-- a query, a report or the end of listening, of either version
abbrev pub is_mld : Option ℕ → Bool
is_mld None = false
is_mld (Some t) = (nat_le 130 t && nat_le t 132) || (t == 143)
