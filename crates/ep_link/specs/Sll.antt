-- The header of a Linux cooked capture (libpcap's page on LINKTYPE_LINUX_SLL): its bytes, and each
-- field by its offset in them.
use Rattle.std.specs.Prelude.{◌≡◌, ℕ, ◌^◌, ◌<◌, ◌≤◌, ◌==◌, ◌||◌, nat_le, if◌then◌else◌, List, ◌++◌, length, slice_range}
use Rattle.std.specs.Int.{w16, to_be_bytes}
use Rattle.ep_base.specs.Bytes.{num}
use Rattle.ep_link.specs.declared.link.arp_hardware_id.ArpHardwareId.{ArpHardwareId}
use Rattle.ep_link.specs.declared.link.linux_sll_header.LinuxSllHeader.{LinuxSllHeader}
use Rattle.ep_link.specs.declared.link.linux_sll_protocol_type.LinuxSllProtocolType.{LinuxSllProtocolType}
use Rattle.ep_link.specs.declared.link.linux_sll_protocol_type.LinuxSllProtocolType.TheVariants as protocol
use Rattle.ep_base.specs.Prefixes.{IsReadAs}

abbrev pub sll_len : ℕ
sll_len = 16

-- the greatest packet type: sent by this machine
abbrev pub greatest_packet_type : ℕ
greatest_packet_type = 4

abbrev pub packet_type_of : List ℕ → ℕ
packet_type_of bytes = num bytes 0 2

-- the hardware type, as ARP numbers them (ARPHRD)
abbrev pub hardware_type_of : List ℕ → ArpHardwareId
hardware_type_of bytes = record { 0 = num bytes 2 2 }

-- how many bytes of the address are the sender's
abbrev pub address_len_of : List ℕ → ℕ
address_len_of bytes = num bytes 4 2

abbrev pub address_of : List ℕ → List ℕ
address_of bytes = slice_range bytes 6 14

-- an ether type, or below 0600 a number of Linux's own for what isn't Ethernet II
abbrev pub ether_protocol : ℕ → LinuxSllProtocolType
ether_protocol n = if nat_le 0x600 n then protocol.EtherType (record { 0 = n })
    else protocol.LinuxNonstandardEtherType n

-- what the protocol number says, by the hardware type: 824 is netlink, 778 generic routing
-- encapsulation; 803 (802.11 with radiotap) and 770 (frame relay) give it no meaning
abbrev pub protocol_of : ArpHardwareId → ℕ → LinuxSllProtocolType
protocol_of hardware n =
    if hardware.0 == 824 then protocol.NetlinkProtocolType n else (
    if hardware.0 == 778 then protocol.GenericRoutingEncapsulationProtocolType n else (
    if (hardware.0 == 803) || (hardware.0 == 770) then protocol.Ignored n else
    ether_protocol n))

-- the number of a protocol
abbrev pub protocol_number : LinuxSllProtocolType → ℕ
protocol_number (protocol.Ignored n) = n
protocol_number (protocol.NetlinkProtocolType n) = n
protocol_number (protocol.GenericRoutingEncapsulationProtocolType n) = n
protocol_number (protocol.EtherType t) = t.0
protocol_number (protocol.LinuxNonstandardEtherType n) = n

-- the same kind of protocol with another number; of the two kinds that share hardware types, the
-- one that the number belongs to
abbrev pub with_number : LinuxSllProtocolType → ℕ → LinuxSllProtocolType
with_number (protocol.Ignored m) n = protocol.Ignored n
with_number (protocol.NetlinkProtocolType m) n = protocol.NetlinkProtocolType n
with_number (protocol.GenericRoutingEncapsulationProtocolType m) n =
    protocol.GenericRoutingEncapsulationProtocolType n
with_number (protocol.EtherType t) n = ether_protocol n
with_number (protocol.LinuxNonstandardEtherType m) n = ether_protocol n

-- 16 bytes, and one of the five packet types
pub record IsSllHeader (bytes : List ℕ) : Type 0 where
  pub packet_type : packet_type_of bytes ≤ greatest_packet_type
  pub whole : length bytes ≡ sll_len

-- the fields that the first 16 bytes encode
abbrev pub sll_header_of : List ℕ → LinuxSllHeader
sll_header_of bytes = record {
  packet_type = packet_type_of bytes;
  arp_hrd_type = hardware_type_of bytes;
  sender_address_valid_length = address_len_of bytes;
  sender_address = address_of bytes;
  protocol_type = protocol_of (hardware_type_of bytes) (num bytes 14 2);
}

-- the bytes of a header
abbrev pub encoding : LinuxSllHeader → List ℕ
encoding h =
    to_be_bytes w16 h.packet_type ++ to_be_bytes w16 h.arp_hrd_type.0
    ++ to_be_bytes w16 h.sender_address_valid_length
    ++ h.sender_address ++ to_be_bytes w16 (protocol_number h.protocol_type)

-- the hardware type and the number name the protocol, so that it is read again
abbrev pub NamesProtocol : LinuxSllHeader → Type 0
NamesProtocol h = protocol_of h.arp_hrd_type (protocol_number h.protocol_type) ≡ h.protocol_type

-- the bytes are a header with these fields, which encode it again, and the rest
abbrev pub IsRead : List ℕ → LinuxSllHeader → List ℕ → Type 0
IsRead = IsReadAs IsSllHeader sll_header_of encoding (λ prefix. prefix)

-- the ranges of the fields
pub record Fits (h : LinuxSllHeader) : Type 0 where
  pub packet_type : h.packet_type ≤ greatest_packet_type
  pub hardware_type : h.arp_hrd_type.0 < 2 ^ 16
  pub address_len : h.sender_address_valid_length < 2 ^ 16
  pub address : length h.sender_address ≡ 8
  pub number : protocol_number h.protocol_type < 2 ^ 16
