-- What the state of a packet's builder means.
use Rattle.std.specs.Prelude.{[], None, Option, Some}
use Rattle.std.specs.Option.{option_map}
use Rattle.ep_ext.specs.Ipv4Exts.{ipv4_exts_of}
use Rattle.ep_ext.specs.Value.{value_of}
use Rattle.ep_packet.specs.declared.net.ip_headers.IpHeaders.{IpHeaders}
use Rattle.ep_packet.specs.declared.net.ip_headers.IpHeaders.TheVariants as ip
use Rattle.ep_packet.specs.declared.transport.transport_header.TransportHeader.{TransportHeader}
use Rattle.etherparse.specs.PacketImpl.{PacketImpl}
use Rattle.etherparse.specs.declared.packet_builder.chosen_ip.ChosenIp.{ChosenIp}
use Rattle.etherparse.specs.declared.packet_builder.chosen_ip.ChosenIp.TheVariants.{Alone, Given}
use Rattle.etherparse.specs.declared.packet_builder.chosen_ip.IpHeader.{IpHeader}
use Rattle.etherparse.specs.declared.packet_builder.chosen_ip.IpHeader.TheVariants.{Ipv4, Ipv6}
use Rattle.etherparse.specs.declared.packet_builder.prefix.Prefix.{Prefix}
use Rattle.etherparse.specs.declared.packet_builder.packet_state.PacketState.{PacketState}

-- an IP header with no extension headers
abbrev pub alone : IpHeader → IpHeaders
alone (Ipv4 h) = ip.Ipv4 h (ipv4_exts_of None)
alone (Ipv6 h) = ip.Ipv6 h (value_of [])

abbrev pub headers_of : ChosenIp → IpHeaders
headers_of (Alone h) = alone h
headers_of (Given h) = h

abbrev pub chosen : PacketState → PacketImpl
chosen s =
    record {
      link_header = s.prefix.link_header;
      vlan_header = s.prefix.vlan_header;
      ip_headers = option_map headers_of s.ip;
      arp_packet = s.arp_packet;
      transport_header = s.transport_header;
    }

-- a packet over these IP headers
abbrev pub packet_over : Prefix → Option TransportHeader → IpHeaders → PacketImpl
packet_over prefix transport headers =
    record {
      link_header = prefix.link_header;
      vlan_header = prefix.vlan_header;
      ip_headers = Some headers;
      arp_packet = None;
      transport_header = transport;
    }
