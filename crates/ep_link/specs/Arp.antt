-- An ARP packet (RFC 826): its bytes, and each field by its offset in them.
use Rattle.std.specs.Prelude.{◌≡◌, ℕ, ◌+◌, ◌*◌, ◌^◌, ◌<◌, ◌≤◌, nat_lt, List, ◌∷◌, ◌++◌, length, take, drop, Result, []}
use Rattle.std.specs.Int.{w16, to_be_bytes}
use Rattle.ep_base.specs.Bytes.{num}
use Rattle.ep_base.specs.declared.err.layer.Layer.TheVariants as layer
use Rattle.ep_base.specs.declared.err.len_error.LenError.{LenError}
use Rattle.ep_base.specs.declared.len_source.LenSource.TheVariants.{ArpAddrLengths}
use Rattle.ep_base.specs.declared.link.ether_type.EtherType.{EtherType}
use Rattle.ep_link.specs.declared.link.arp_hardware_id.ArpHardwareId.{ArpHardwareId}
use Rattle.ep_link.specs.declared.link.arp_operation.ArpOperation.{ArpOperation}
use Rattle.ep_tag.specs.Ether.{ether_type_at}
use Rattle.ep_base.specs.LenError.{too_few_bytes}
use Rattle.ep_base.specs.Refusals.{unless_refused}

-- the fields of an ARP packet
pub record ArpFields : Type 0 where
  pub hw_addr_type : ArpHardwareId
  pub proto_addr_type : EtherType
  pub operation : ArpOperation
  pub sender_hw_addr : List ℕ
  pub sender_protocol_addr : List ℕ
  pub target_hw_addr : List ℕ
  pub target_protocol_addr : List ℕ

-- the lengths of a hardware and of a protocol address
abbrev pub hw_len_of : List ℕ → ℕ
hw_len_of bytes = num bytes 4 1

abbrev pub proto_len_of : List ℕ → ℕ
proto_len_of bytes = num bytes 5 1

-- the length of the packet, as the lengths of a hardware and of a protocol address say, which are bytes
-- 4 and 5
abbrev pub packet_len_of : List ℕ → ℕ
packet_len_of bytes = 8 + 2 * num bytes 4 1 + 2 * num bytes 5 1

-- as many bytes as the length fields say
pub record IsArpPacket (bytes : List ℕ) : Type 0 where
  pub least : 8 ≤ length bytes
  pub whole : length bytes ≡ packet_len_of bytes

abbrev pub hw_type_of : List ℕ → ArpHardwareId
hw_type_of bytes = record { 0 = num bytes 0 2 }

abbrev pub proto_type_of : List ℕ → EtherType
proto_type_of bytes = ether_type_at bytes 2

abbrev pub operation_of : List ℕ → ArpOperation
operation_of bytes = record { 0 = num bytes 6 2 }

-- the four addresses, one after the other
abbrev pub addresses_of : List ℕ → List ℕ
addresses_of bytes = drop 8 bytes

abbrev pub after_sender_hw : List ℕ → List ℕ
after_sender_hw bytes = drop (hw_len_of bytes) (addresses_of bytes)

abbrev pub after_sender : List ℕ → List ℕ
after_sender bytes = drop (proto_len_of bytes) (after_sender_hw bytes)

abbrev pub after_target_hw : List ℕ → List ℕ
after_target_hw bytes = drop (hw_len_of bytes) (after_sender bytes)

abbrev pub sender_hw_of : List ℕ → List ℕ
sender_hw_of bytes = take (hw_len_of bytes) (addresses_of bytes)

abbrev pub sender_proto_of : List ℕ → List ℕ
sender_proto_of bytes = take (proto_len_of bytes) (after_sender_hw bytes)

abbrev pub target_hw_of : List ℕ → List ℕ
target_hw_of bytes = take (hw_len_of bytes) (after_sender bytes)

abbrev pub target_proto_of : List ℕ → List ℕ
target_proto_of bytes = take (proto_len_of bytes) (after_target_hw bytes)

-- the fields that a packet's bytes encode
abbrev pub fields_of : List ℕ → ArpFields
fields_of bytes = record {
  hw_addr_type = hw_type_of bytes;
  proto_addr_type = proto_type_of bytes;
  operation = operation_of bytes;
  sender_hw_addr = sender_hw_of bytes;
  sender_protocol_addr = sender_proto_of bytes;
  target_hw_addr = target_hw_of bytes;
  target_protocol_addr = target_proto_of bytes;
}

-- the fields before the addresses
abbrev pub fixed_encoding : ArpFields → List ℕ
fixed_encoding a =
    to_be_bytes w16 a.hw_addr_type.0 ++ to_be_bytes w16 a.proto_addr_type.0
    ++ length a.sender_hw_addr ∷ length a.sender_protocol_addr ∷ to_be_bytes w16 a.operation.0

-- the bytes of a packet
abbrev pub encoding : ArpFields → List ℕ
encoding a = fixed_encoding a
    ++ (a.sender_hw_addr ++ (a.sender_protocol_addr
    ++ (a.target_hw_addr ++ a.target_protocol_addr)))

-- both addresses of a kind have one length, which fits a byte
pub record AreAddresses (sender target : List ℕ) : Type 0 where
  pub same : length sender ≡ length target
  pub small : length sender ≤ 255

-- the addresses pair up
pub record IsArp (a : ArpFields) : Type 0 where
  pub hw : AreAddresses a.sender_hw_addr a.target_hw_addr
  pub proto : AreAddresses a.sender_protocol_addr a.target_protocol_addr

-- the packet at the start of the bytes, or the first error: fewer than 8 bytes, then fewer than the
-- lengths of the addresses need
abbrev pub packet_at : List ℕ → Result (List ℕ) LenError
packet_at bytes = unless_refused (
    (nat_lt (length bytes) 8, too_few_bytes layer.Arp 8 (length bytes))
    ∷ (
      nat_lt (length bytes) (packet_len_of bytes),
      record (too_few_bytes layer.Arp (packet_len_of bytes) (length bytes)) { len_source = ArpAddrLengths },
    )
    ∷ []) (take (packet_len_of bytes) bytes)

-- the ranges of the numbers
pub record Fits (a : ArpFields) : Type 0 where
  pub hw_addr_type : a.hw_addr_type.0 < 2 ^ 16
  pub proto_addr_type : a.proto_addr_type.0 < 2 ^ 16
  pub operation : a.operation.0 < 2 ^ 16

-- the length of a packet with these fields
abbrev pub packet_len_in : ArpFields → ℕ
packet_len_in a = 8 + 2 * length a.sender_hw_addr + 2 * length a.sender_protocol_addr

-- the bytes start with a packet with these fields, which encode it again
pub record IsRead (bytes : List ℕ) (a : ArpFields) : Type 0 where
  pub prefix : List ℕ
  pub rest : List ℕ
  pub packet : IsArpPacket prefix
  pub offset : bytes ≡ prefix ++ rest
  pub fields : a ≡ fields_of prefix
  pub again : encoding a ≡ prefix
