-- The headers that the steps of a packet's builder choose.
use Rattle.std.specs.Prelude.{ℕ, List, [], Option, Some, None}
use Rattle.ep_ext.specs.Ipv4Exts.{ipv4_exts_of}
use Rattle.ep_ext.specs.Value.{value_of}
use Rattle.ep_icmp.specs.declared.transport.icmp_echo_header.IcmpEchoHeader.{IcmpEchoHeader}
use Rattle.ep_icmp.specs.declared.transport.icmpv4_type.Icmpv4Type.{Icmpv4Type}
use Rattle.ep_icmp.specs.declared.transport.icmpv6_type.Icmpv6Type.{Icmpv6Type}
use Rattle.ep_ip.specs.Ipv4.{default_header}
use Rattle.ep_link.specs.declared.link.link_header.LinkHeader.{LinkHeader}
use Rattle.ep_link.specs.declared.link.link_header.LinkHeader.TheVariants as link
use Rattle.ep_link.specs.declared.link.linux_sll_protocol_type.LinuxSllProtocolType.TheVariants.{EtherType}
use Rattle.ep_packet.specs.declared.net.ip_headers.IpHeaders.{IpHeaders}
use Rattle.ep_packet.specs.declared.net.ip_headers.IpHeaders.TheVariants as ip
use Rattle.ep_packet.specs.declared.transport.transport_header.TransportHeader.{TransportHeader}
use Rattle.ep_packet.specs.declared.transport.transport_header.TransportHeader.TheVariants.{Udp, Tcp, Icmpv4, Icmpv6}
use Rattle.ep_tag.specs.Vlan as vlan
use Rattle.ep_tag.specs.declared.link.single_vlan_header.SingleVlanHeader.{SingleVlanHeader}
use Rattle.ep_tcpudp.specs.declared.transport.tcp_header.TcpHeader.{TcpHeader}
use Rattle.etherparse.specs.PacketImpl.{PacketImpl}

-- no header
abbrev pub no_headers : PacketImpl
no_headers =
    record {
      link_header = None;
      vlan_header = None;
      ip_headers = None;
      arp_packet = None;
      transport_header = None;
    }

-- an Ethernet II header between these addresses
abbrev pub ethernet_between : (source destination : List ℕ) → LinkHeader
ethernet_between source destination =
    link.Ethernet2
    (record { source = source; destination = destination; ether_type = record { 0 = 0 } })

-- the header of a cooked capture of a device of hardware type 1, Ethernet
abbrev pub cooked_link_header : (packet_type address_len : ℕ) → (address : List ℕ) → LinkHeader
cooked_link_header packet_type address_len address = link.LinuxSll (record {
  packet_type = packet_type;
  arp_hrd_type = record { 0 = 1 };
  sender_address_valid_length = address_len;
  sender_address = address;
  protocol_type = EtherType (record { 0 = 0 });
})

-- a tag of this identifier and priority 0
abbrev pub tag_of : ℕ → SingleVlanHeader
tag_of id = record vlan.default_header { vlan_id = id }

-- the default headers between these addresses, for so many hops, with no extension headers
abbrev pub ipv4_between : (source destination : List ℕ) → (hops : ℕ) → IpHeaders
ipv4_between source destination hops =
    ip.Ipv4 (record default_header
    { source = source; destination = destination; time_to_live = hops }) (ipv4_exts_of None)

abbrev pub ipv6_between : (source destination : List ℕ) → (hops : ℕ) → IpHeaders
ipv6_between source destination hops = ip.Ipv6 (record {
  traffic_class = 0;
  flow_label = 0;
  payload_length = 0;
  next_header = record { 0 = 255 };
  hop_limit = hops;
  source = source;
  destination = destination;
}) (value_of [])

-- transport headers whose length and checksum are still 0
abbrev pub udp_between : (source_port destination_port : ℕ) → TransportHeader
udp_between source_port destination_port =
    Udp (record {
      source_port = source_port;
      destination_port = destination_port;
      length = 0;
      checksum = 0;
    })

abbrev pub icmpv4_of : Icmpv4Type → TransportHeader
icmpv4_of kind = Icmpv4 (record { icmp_type = kind; checksum = 0 })

abbrev pub icmpv6_of : Icmpv6Type → TransportHeader
icmpv6_of kind = Icmpv6 (record { icmp_type = kind; checksum = 0 })

abbrev pub echo : (id seq : ℕ) → IcmpEchoHeader
echo id seq = record { id = id; seq = seq }

-- with another TCP header, where one was chosen
abbrev pub other_tcp : (TcpHeader → TcpHeader) → Option TransportHeader → Option TransportHeader
other_tcp change None = None
other_tcp change (Some (Udp h)) = Some (Udp h)
other_tcp change (Some (Tcp h)) = Some (Tcp (change h))
other_tcp change (Some (Icmpv4 h)) = Some (Icmpv4 h)
other_tcp change (Some (Icmpv6 h)) = Some (Icmpv6 h)

abbrev pub with_tcp : (TcpHeader → TcpHeader) → PacketImpl → PacketImpl
with_tcp change p = record p { transport_header = other_tcp change p.transport_header }
