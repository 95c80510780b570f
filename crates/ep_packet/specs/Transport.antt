-- The header of a transport message: of UDP (RFC 768), TCP (RFC 9293), ICMP over IPv4 (RFC 792) or
-- ICMP over IPv6 (RFC 4443).
use Rattle.std.specs.Prelude.{ℕ, List, Option, Some, None}
use Rattle.ep_icmp.specs.Icmpv4 as icmpv4
use Rattle.ep_icmp.specs.Icmpv6 as icmpv6
use Rattle.ep_icmp.specs.declared.transport.icmpv4_header.Icmpv4Header.{Icmpv4Header}
use Rattle.ep_icmp.specs.declared.transport.icmpv6_header.Icmpv6Header.{Icmpv6Header}
use Rattle.ep_packet.specs.declared.transport.transport_header.TransportHeader.{TransportHeader}
use Rattle.ep_packet.specs.declared.transport.transport_header.TransportHeader.TheVariants.{Udp, Tcp, Icmpv4, Icmpv6}
use Rattle.ep_tcpudp.specs.Tcp as tcp
use Rattle.ep_tcpudp.specs.Udp as udp
use Rattle.ep_tcpudp.specs.declared.transport.tcp_header.TcpHeader.{TcpHeader}
use Rattle.ep_tcpudp.specs.declared.transport.udp_header.UdpHeader.{UdpHeader}

-- the header of one protocol, where it is one
abbrev pub udp_in : TransportHeader → Option UdpHeader
udp_in (Udp h) = Some h
udp_in (Tcp h) = None
udp_in (Icmpv4 h) = None
udp_in (Icmpv6 h) = None

abbrev pub tcp_in : TransportHeader → Option TcpHeader
tcp_in (Udp h) = None
tcp_in (Tcp h) = Some h
tcp_in (Icmpv4 h) = None
tcp_in (Icmpv6 h) = None

abbrev pub icmpv4_in : TransportHeader → Option Icmpv4Header
icmpv4_in (Udp h) = None
icmpv4_in (Tcp h) = None
icmpv4_in (Icmpv4 h) = Some h
icmpv4_in (Icmpv6 h) = None

abbrev pub icmpv6_in : TransportHeader → Option Icmpv6Header
icmpv6_in (Udp h) = None
icmpv6_in (Tcp h) = None
icmpv6_in (Icmpv4 h) = None
icmpv6_in (Icmpv6 h) = Some h

-- the length of the header
abbrev pub transport_len : TransportHeader → ℕ
transport_len (Udp h) = 8
transport_len (Tcp h) = tcp.header_len h
transport_len (Icmpv4 h) = icmpv4.header_len h.icmp_type
transport_len (Icmpv6 h) = 8

-- its bytes
abbrev pub transport_encoding : TransportHeader → List ℕ
transport_encoding (Udp h) = udp.encoding h
transport_encoding (Tcp h) = tcp.encoding h
transport_encoding (Icmpv4 h) = icmpv4.encoding h
transport_encoding (Icmpv6 h) = icmpv6.encoding h
