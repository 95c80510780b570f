-- Which addresses make an ARP packet.
use Rattle.std.specs.Prelude.{Bool, ◌==◌, nat_lt, not, List, [], ◌∷◌, length, Result}
use Rattle.ep_base.specs.Refusals.{unless_refused}
use Rattle.ep_link.specs.declared.err.arp.arp_hw_addr_error.ArpHwAddrError.TheVariants as hw
use Rattle.ep_link.specs.declared.err.arp.arp_new_error.ArpNewError.{ArpNewError}
use Rattle.ep_link.specs.declared.err.arp.arp_new_error.ArpNewError.TheVariants.{HwAddr, ProtoAddr}
use Rattle.ep_link.specs.declared.err.arp.arp_proto_addr_error.ArpProtoAddrError.TheVariants as proto
use Rattle.ep_link.specs.Arp.{ArpFields}

-- protocol addresses whose lengths differ, or don't fit a byte
abbrev pub proto_refusals : ArpFields → List (Bool × ArpNewError)
proto_refusals a = (
  not (length a.sender_protocol_addr == length a.target_protocol_addr),
  ProtoAddr
      (proto.LenNonMatching (length a.sender_protocol_addr) (length a.target_protocol_addr)),
)
    ∷ (
      nat_lt 255 (length a.sender_protocol_addr),
      ProtoAddr (proto.LenTooBig (length a.sender_protocol_addr)),
    )
    ∷ []

-- the fields, if all addresses pair up, or the first fault: that of hardware addresses, then that
-- of protocol addresses
abbrev pub new_at : ArpFields → Result ArpFields ArpNewError
new_at a = unless_refused ((
  not (length a.sender_hw_addr == length a.target_hw_addr),
  HwAddr (hw.LenNonMatching (length a.sender_hw_addr) (length a.target_hw_addr)),
)
    ∷ (nat_lt 255 (length a.sender_hw_addr), HwAddr (hw.LenTooBig (length a.sender_hw_addr)))
    ∷ proto_refusals a) a
