-- What follows the header of a Linux cooked capture.
use Rattle.std.specs.Prelude.{ℕ, [], ◌∷◌, List, drop, Option, Some, None, Result}
use Rattle.std.specs.Option.{ok_or}
use Rattle.ep_base.specs.Bytes.{num}
use Rattle.ep_base.specs.declared.len_source.LenSource.TheVariants.{Slice}
use Rattle.ep_link.specs.declared.link.linux_sll_protocol_type.LinuxSllProtocolType.{LinuxSllProtocolType}
use Rattle.ep_link.specs.declared.link.linux_sll_protocol_type.LinuxSllProtocolType.TheVariants as protocol
use Rattle.ep_link.specs.Sll.{hardware_type_of, protocol_number, protocol_of, sll_len}
use Rattle.ep_tag.specs.Ether.{EtherPayload}

-- the protocol, and the bytes after the header
pub record SllPayload : Type 0 where
  pub protocol_type : LinuxSllProtocolType
  pub payload : List ℕ

abbrev pub payload_of : List ℕ → SllPayload
payload_of bytes =
    record {
      protocol_type = protocol_of (hardware_type_of bytes) (num bytes 14 2);
      payload = drop sll_len bytes;
    }

-- the index of a kind of protocol among the variants
abbrev pub kind_index : LinuxSllProtocolType → ℕ
kind_index (protocol.Ignored n) = 0
kind_index (protocol.NetlinkProtocolType n) = 1
kind_index (protocol.GenericRoutingEncapsulationProtocolType n) = 2
kind_index (protocol.EtherType t) = 3
kind_index (protocol.LinuxNonstandardEtherType n) = 4

-- kind and number of a protocol, which differ where protocols differ
abbrev pub protocol_ordered_as : LinuxSllProtocolType → List ℕ
protocol_ordered_as p = kind_index p ∷ protocol_number p ∷ []

-- all of a payload in one list, which differs where payloads differ
abbrev pub compared_as : SllPayload → List ℕ
compared_as p = kind_index p.protocol_type ∷ protocol_number p.protocol_type ∷ p.payload

abbrev pub ether_payload_of : LinuxSllProtocolType → List ℕ → Option EtherPayload
ether_payload_of (protocol.Ignored n) bytes = None
ether_payload_of (protocol.NetlinkProtocolType n) bytes = None
ether_payload_of (protocol.GenericRoutingEncapsulationProtocolType n) bytes = None
ether_payload_of (protocol.EtherType t) bytes =
    Some (record { ether_type = t; len_source = Slice; payload = bytes })
ether_payload_of (protocol.LinuxNonstandardEtherType n) bytes = None

-- the same bytes after an ether type, where the protocol is one
abbrev pub named_payload : SllPayload → Option EtherPayload
named_payload p = ether_payload_of p.protocol_type p.payload

-- the same, or `()`
abbrev pub as_ether_payload : SllPayload → Result EtherPayload (Unit {0})
as_ether_payload p = ok_or (named_payload p) tt
