-- An ARP packet between Ethernet and IPv4 addresses (RFC 826).
use Rattle.std.specs.Prelude.{ℕ, ◌==◌, not, List, [], ◌∷◌, length, Result}
use Rattle.ep_base.specs.Refusals.{unless_refused}
use Rattle.ep_link.specs.Arp.{ArpFields, encoding}
use Rattle.ep_link.specs.declared.err.arp.arp_eth_ipv4_from_error.ArpEthIpv4FromError.{ArpEthIpv4FromError}
use Rattle.ep_link.specs.declared.err.arp.arp_eth_ipv4_from_error.ArpEthIpv4FromError.TheVariants.{NonMatchingHwAddrSize, NonMatchingHwType, NonMatchingProtoAddrSize, NonMatchingProtocolType}
use Rattle.ep_link.specs.declared.link.arp_eth_ipv4_packet.ArpEthIpv4Packet.{ArpEthIpv4Packet}

-- hardware type 1 is Ethernet, with addresses of 6 bytes; ether type 0800 is IPv4, with addresses of 4
abbrev pub arp_fields : ArpEthIpv4Packet → ArpFields
arp_fields p = record {
  hw_addr_type = record { 0 = 1 };
  proto_addr_type = record { 0 = 0x0800 };
  operation = p.operation;
  sender_hw_addr = p.sender_mac;
  sender_protocol_addr = p.sender_ipv4;
  target_hw_addr = p.target_mac;
  target_protocol_addr = p.target_ipv4;
}

-- the operation and the addresses, whatever they are
abbrev pub arp_packet_of : ArpFields → ArpEthIpv4Packet
arp_packet_of a = record {
  operation = a.operation;
  sender_mac = a.sender_hw_addr;
  sender_ipv4 = a.sender_protocol_addr;
  target_mac = a.target_hw_addr;
  target_ipv4 = a.target_protocol_addr;
}

-- the packet, or the first that doesn't match: hardware type, protocol, and the lengths of the addresses
abbrev pub eth_ipv4_at : ArpFields → Result ArpEthIpv4Packet ArpEthIpv4FromError
eth_ipv4_at a = unless_refused (
    (not (a.hw_addr_type.0 == 1), NonMatchingHwType a.hw_addr_type)
    ∷ (not (a.proto_addr_type.0 == 0x0800), NonMatchingProtocolType a.proto_addr_type)
    ∷ (
      not (length a.sender_hw_addr == 6),
      NonMatchingHwAddrSize (length a.sender_hw_addr),
    )
    ∷ (
      not (length a.sender_protocol_addr == 4),
      NonMatchingProtoAddrSize (length a.sender_protocol_addr),
    )
    ∷ []) (arp_packet_of a)

-- the bytes of a packet
abbrev pub eth_ipv4_encoding : ArpEthIpv4Packet → List ℕ
eth_ipv4_encoding p = encoding (arp_fields p)
