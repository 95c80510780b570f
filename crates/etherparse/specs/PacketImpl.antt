-- The headers that were chosen so far in a packet's builder.
use Rattle.std.specs.Prelude.{Option}
use Rattle.ep_link.specs.declared.link.link_header.LinkHeader.{LinkHeader}
use Rattle.ep_link.specs.declared.link.arp_packet.ArpPacket.{ArpPacket}
use Rattle.ep_packet.specs.declared.net.ip_headers.IpHeaders.{IpHeaders}
use Rattle.ep_packet.specs.declared.transport.transport_header.TransportHeader.{TransportHeader}
use Rattle.ep_tag.specs.declared.link.vlan_header.VlanHeader.{VlanHeader}

pub record PacketImpl : Type 0 where
  pub link_header : Option LinkHeader
  pub vlan_header : Option VlanHeader
  pub ip_headers : Option IpHeaders
  pub arp_packet : Option ArpPacket
  pub transport_header : Option TransportHeader
