-- The ARP packet that a plan describes, and the first field that describes none.
use Rattle.std.specs.Prelude.{ℕ, ◌==◌, ◌||◌, not, nat_lt, if◌then◌else◌, List, length, Option, Some, None}
use Rattle.std.specs.Option.{option_or}
use Rattle.etherparse.specs.Built.{built_arp}
use Rattle.etherparse.specs.PacketImpl.{PacketImpl}
use Rattle.etherparse.specs.link.Arp.{ArpFields}
use Rattle.etherparse_structs.specs.Part.{part_bytes}
use Rattle.etherparse_structs.specs.Plan.{prefix_in, wrong_link, wrong_tags}
use Rattle.etherparse_structs.specs.declared.net.EpArp.{EpArp}
use Rattle.etherparse_structs.specs.declared.part.EpPart.{EpPart}
use Rattle.etherparse_structs.specs.declared.plan.EpPlan.{EpPlan}
use Rattle.etherparse_structs.specs.declared.plan.PlanField.{PlanField}
use Rattle.etherparse_structs.specs.declared.plan.PlanField.TheVariants as field

-- the packet whose addresses are these parts of the bytes
unfoldable pub arp_in : EpArp → (bytes : List ℕ) → ArpFields
arp_in a bytes = record {
  hw_addr_type = record { 0 = a.hardware_type };
  proto_addr_type = record { 0 = a.protocol_type };
  operation = record { 0 = a.operation };
  sender_hw_addr = part_bytes bytes a.sender_hardware;
  sender_protocol_addr = part_bytes bytes a.sender_protocol;
  target_hw_addr = part_bytes bytes a.target_hardware;
  target_protocol_addr = part_bytes bytes a.target_protocol;
}

-- two addresses that aren't whole within the bytes, or that no packet has: they differ in length, or
-- it doesn't fit a byte (RFC 826)
abbrev pub wrong_pair : (bytes : List ℕ) → PlanField → (sender target : EpPart) → Option PlanField
wrong_pair bytes f sender target = if not (length (part_bytes bytes sender) == sender.len)
    || not (length (part_bytes bytes target) == target.len)
    || not (length (part_bytes bytes sender) == length (part_bytes bytes target))
    || nat_lt 255 (length (part_bytes bytes sender))
    then Some f else None

unfoldable pub wrong_arp : EpArp → (bytes : List ℕ) → Option PlanField
wrong_arp a bytes =
    option_or (wrong_pair bytes field.HardwareAddresses a.sender_hardware a.target_hardware)
    (wrong_pair bytes field.ProtocolAddresses a.sender_protocol a.target_protocol)

-- the headers with this packet
abbrev pub arp_headers_in : EpPlan → EpArp → (bytes : List ℕ) → PacketImpl
arp_headers_in p a bytes = record (prefix_in p) { arp_packet = Some (arp_in a bytes) }

-- the first field at fault; the packet comes after a link header
abbrev pub wrong_in_arp : EpPlan → EpArp → (bytes : List ℕ) → Option PlanField
wrong_in_arp p a bytes = if p.link == 0 then Some field.Link
    else option_or (wrong_link p) (option_or (wrong_tags p) (wrong_arp a bytes))

-- the bytes of the packet with these headers
abbrev pub arp_bytes_in : EpPlan → EpArp → (bytes : List ℕ) → List ℕ
arp_bytes_in p a bytes = built_arp (arp_headers_in p a bytes)
