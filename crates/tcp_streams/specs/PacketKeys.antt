-- The keys of packets, and what their flags do.
use Rattle.std.specs.Prelude.{◌≡◌, ◌≢◌, ℕ, List, Option, Some, None}
use Rattle.std.specs.Option.{option_map}
use Rattle.ep_packet.specs.Class.{Class, packet_parsed}
use Rattle.ep_packet.specs.Class.Class.{Whole, Cut, Other, Refused}
use Rattle.ep_packet.specs.Readable.{ReadMessage}
use Rattle.ep_packet.specs.Readable.ReadMessage.{Icmpv4, Icmpv6, Raw, Tcp, Udp}
use Rattle.ep_packet.specs.Tags.{vlan_ids_of}
use Rattle.ep_packet.specs.declared.addresses.Addresses.{Addresses}
use Rattle.ep_packet.specs.declared.addresses.Addresses.TheVariants as over
use Rattle.ep_packet.specs.declared.sliced_packet.SlicedPacket.{SlicedPacket}
use Rattle.ep_tcpudp.specs.Tcp.{ack_of, destination_port_of, fin_of, rst_of, source_port_of, syn_of}
use Rattle.tcp_streams.specs.declared.connection_state.Control.{Control}
use Rattle.tcp_streams.specs.declared.direction.Direction.{Direction}
use Rattle.tcp_streams.specs.declared.endpoint.Endpoint.{Endpoint}
use Rattle.tcp_streams.specs.declared.endpoint.Endpoint.TheVariants as endpoint
use Rattle.tcp_streams.specs.declared.flow_key.FlowKey.{FlowKey}
use Rattle.tcp_streams.specs.ConnectionStates.{control_in}
use Rattle.tcp_streams.specs.FlowKeys.{key_between, other_direction}

-- source and destination of a segment with these ports
abbrev pub endpoints_of : Addresses → (source_port destination_port : ℕ) → Endpoint × Endpoint
endpoints_of (over.V4 source destination) source_port destination_port =
    (endpoint.V4 source source_port, endpoint.V4 destination destination_port)
endpoints_of (over.V6 source destination) source_port destination_port =
    (endpoint.V6 source source_port, endpoint.V6 destination destination_port)

-- those of a message, if it is a TCP segment
abbrev pub endpoints_over : Addresses → ReadMessage → Option (Endpoint × Endpoint)
endpoints_over addresses (Icmpv4 message) = None
endpoints_over addresses (Tcp segment) =
    Some (endpoints_of addresses (source_port_of segment) (destination_port_of segment))
endpoints_over addresses (Udp message) = None
endpoints_over addresses (Icmpv6 message) = None
endpoints_over addresses (Raw message) = None

-- those of a packet: it has a whole TCP header, and is no fragment
abbrev pub endpoints_in : Class → Option (Endpoint × Endpoint)
endpoints_in (Whole addresses number bytes message) = endpoints_over addresses message
endpoints_in (Cut name offset more bytes) = None
endpoints_in Other = None
endpoints_in Refused = None

-- its key and its direction
abbrev pub key_with : {C : Type 0} → List ℕ → C → Option (Endpoint × Endpoint) → Option (FlowKey C × Direction)
key_with vlan_ids channel None = None
key_with vlan_ids channel (Some ends) = Some (key_between vlan_ids ends.0 ends.1 channel)

abbrev pub key_of : {C : Type 0} → SlicedPacket → C → Option (FlowKey C × Direction)
key_of packet channel =
    key_with (vlan_ids_of packet.link_exts.items) channel (endpoints_in (packet_parsed packet))

-- what the flags of a segment do
abbrev pub control_of : List ℕ → Control
control_of segment = control_in (syn_of segment) (ack_of segment) (fin_of segment) (rst_of segment)

-- two packets that go between the same endpoints, there and back, have one key and different
-- directions
abbrev pub PacketsBothWays : (C : Type 0) → Type 0
PacketsBothWays C = (there back : SlicedPacket) (a b : Endpoint) (channel : C) → a ≢ b
    → endpoints_in (packet_parsed there) ≡ Some (a, b) → endpoints_in (packet_parsed back) ≡ Some (b, a)
    → vlan_ids_of back.link_exts.items ≡ vlan_ids_of there.link_exts.items
    → key_of back channel ≡ option_map (λ own. (own.0, other_direction own.1)) (key_of there channel)
