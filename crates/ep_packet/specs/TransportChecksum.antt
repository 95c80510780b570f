-- Transport headers with the checksum that belongs to a payload and two addresses.
use Rattle.std.specs.Prelude.{ℕ, ◌-◌, List, length, Result, Ok, Err}
use Rattle.ep_base.specs.declared.err.value_too_big_error.ValueTooBigError.{ValueTooBigError}
use Rattle.ep_base.specs.declared.err.value_type.ValueType.TheVariants.{UdpPayloadLengthIpv4, UdpPayloadLengthIpv6}
use Rattle.ep_base.specs.declared.err.value_type.ValueType.TheVariants.{TcpPayloadLengthIpv4, TcpPayloadLengthIpv6}
use Rattle.ep_base.specs.declared.err.value_type.ValueType.TheVariants.{Icmpv6PayloadLength}
use Rattle.ep_icmp.specs.Icmpv4 as icmpv4
use Rattle.ep_icmp.specs.Icmpv6 as icmpv6
use Rattle.ep_packet.specs.declared.err.packet.transport_checksum_error.TransportChecksumError.{TransportChecksumError}
use Rattle.ep_packet.specs.declared.err.packet.transport_checksum_error.TransportChecksumError.TheVariants.{PayloadLen}
use Rattle.ep_packet.specs.declared.err.packet.transport_checksum_error.TransportChecksumError.TheVariants.{Icmpv6InIpv4}
use Rattle.ep_packet.specs.declared.transport.transport_header.TransportHeader.{TransportHeader}
use Rattle.ep_packet.specs.declared.transport.transport_header.TransportHeader.TheVariants.{Udp, Tcp, Icmpv4, Icmpv6}
use Rattle.ep_tcpudp.specs.Limit.{value_up_to}
use Rattle.ep_tcpudp.specs.Tcp.{header_len}
use Rattle.ep_tcpudp.specs.TcpChecksum as tcp
use Rattle.ep_tcpudp.specs.UdpChecksum as udp

-- a payload that is too long, as one of the faults over IPv4
abbrev pub or_payload_len : Result TransportHeader (ValueTooBigError ℕ)
    → Result TransportHeader TransportChecksumError
or_payload_len (Ok h) = Ok h
or_payload_len (Err e) = Err (PayloadLen e)

-- over IPv4: the header with its checksum, or the payload is too long for the 16 bits of a length,
-- or ICMPv6, which has no checksum there
abbrev pub with_checksum_v4 : (source destination : List ℕ) → TransportHeader → (payload : List ℕ)
    → Result TransportHeader TransportChecksumError
with_checksum_v4 source destination (Udp h) payload =
    or_payload_len (value_up_to UdpPayloadLengthIpv4 65527 (length payload)
    (Udp (record h { checksum = udp.checksum_v4 source destination h payload })))
with_checksum_v4 source destination (Tcp h) payload =
    or_payload_len (value_up_to TcpPayloadLengthIpv4 (65535 - header_len h) (length payload)
    (Tcp (record h { checksum = tcp.checksum_v4 source destination h payload })))
with_checksum_v4 source destination (Icmpv4 h) payload =
    Ok (Icmpv4 (icmpv4.icmpv4_with_checksum h.icmp_type payload))
with_checksum_v4 source destination (Icmpv6 h) payload = Err Icmpv6InIpv4

-- over IPv6: the header with its checksum, which of ICMPv4 covers no addresses, or the payload is
-- too long for the 32 bits of a length
abbrev pub with_checksum_v6 : (source destination : List ℕ) → TransportHeader → (payload : List ℕ)
    → Result TransportHeader (ValueTooBigError ℕ)
with_checksum_v6 source destination (Udp h) payload =
    value_up_to UdpPayloadLengthIpv6 4294967287 (length payload)
    (Udp (record h { checksum = udp.checksum_v6 source destination h payload }))
with_checksum_v6 source destination (Tcp h) payload =
    value_up_to TcpPayloadLengthIpv6 (4294967295 - header_len h) (length payload)
    (Tcp (record h { checksum = tcp.checksum_v6 source destination h payload }))
with_checksum_v6 source destination (Icmpv4 h) payload =
    Ok (Icmpv4 (icmpv4.icmpv4_with_checksum h.icmp_type payload))
with_checksum_v6 source destination (Icmpv6 h) payload =
    value_up_to Icmpv6PayloadLength 4294967287 (length payload)
    (Icmpv6 (icmpv6.icmpv6_with_checksum source destination h.icmp_type payload))
