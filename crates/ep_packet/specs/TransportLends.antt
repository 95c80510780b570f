-- The final value of a transport header, after a `&mut` to the header of its protocol was returned.
use Rattle.std.specs.Prelude.{Option}
use Rattle.std.specs.Borrow.{Fml, LendsIf, MutBor}
use Rattle.ep_icmp.specs.contracts.transport.icmpv4_header.Icmpv4Header.{the_row as icmpv4_row}
use Rattle.ep_icmp.specs.contracts.transport.icmpv6_header.Icmpv6Header.{the_row as icmpv6_row}
use Rattle.ep_icmp.specs.declared.transport.icmpv4_header.Icmpv4Header.{Icmpv4Header}
use Rattle.ep_icmp.specs.declared.transport.icmpv6_header.Icmpv6Header.{Icmpv6Header}
use Rattle.ep_packet.specs.contracts.transport.transport_header.TransportHeader.{the_row}
use Rattle.ep_packet.specs.declared.transport.transport_header.TransportHeader.{TransportHeader}
use Rattle.ep_packet.specs.declared.transport.transport_header.TransportHeader.TheVariants.{Udp, Tcp, Icmpv4, Icmpv6}
use Rattle.ep_tcpudp.specs.contracts.transport.tcp_header.TcpHeader.{the_row as tcp_row}
use Rattle.ep_tcpudp.specs.contracts.transport.udp_header.UdpHeader.{the_row as udp_row}
use Rattle.ep_tcpudp.specs.declared.transport.tcp_header.TcpHeader.{TcpHeader}
use Rattle.ep_tcpudp.specs.declared.transport.udp_header.UdpHeader.{UdpHeader}

-- once the borrow r ends, the transport header is the one that r shows last; without one it is as
-- before
abbrev pub lends_udp : MutBor TransportHeader → Option (MutBor UdpHeader) → Fml
lends_udp header r = LendsIf the_row udp_row header r (λ h. Udp h) header.now

abbrev pub lends_tcp : MutBor TransportHeader → Option (MutBor TcpHeader) → Fml
lends_tcp header r = LendsIf the_row tcp_row header r (λ h. Tcp h) header.now

abbrev pub lends_icmpv4 : MutBor TransportHeader → Option (MutBor Icmpv4Header) → Fml
lends_icmpv4 header r = LendsIf the_row icmpv4_row header r (λ h. Icmpv4 h) header.now

abbrev pub lends_icmpv6 : MutBor TransportHeader → Option (MutBor Icmpv6Header) → Fml
lends_icmpv6 header r = LendsIf the_row icmpv6_row header r (λ h. Icmpv6 h) header.now
