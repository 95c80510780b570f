-- The bytes of an ARP packet against its fields.
use Rattle.std.proofs.Common.{◌≡◌, ℕ, ◌+◌, ◌*◌, List, ◌++◌, length, drop, arith}
use Rattle.std.proofs.lemmas.List.{length-append, length-drop, length-take-le, take-append-drop, take_all, take_at}
use Rattle.std.proofs.lemmas.List.{drop_at}
use Rattle.ep_base.specs.Bytes.{IsBytes}
use Rattle.ep_base.proofs.Cells.{drop-cells}
use Rattle.ep_link.specs.Arp.{ArpFields, IsArp, IsArpPacket, Fits, addresses_of, after_sender, after_sender_hw}
use Rattle.ep_link.specs.Arp.{after_target_hw, fields_of, hw_len_of, proto_len_of, sender_hw_of, sender_proto_of}
use Rattle.ep_link.specs.Arp.{encoding, target_hw_of, target_proto_of}
use Rattle.ep_base.proofs.Numbers.{high_of, low_of, two_again}

-- how many bytes of the addresses are left after each
pub record Lens (bytes : List ℕ) : Type 0 where
  pub all : length (addresses_of bytes) ≡ 2 * hw_len_of bytes + 2 * proto_len_of bytes
  pub sender_hw : length (after_sender_hw bytes) ≡ hw_len_of bytes + 2 * proto_len_of bytes
  pub sender : length (after_sender bytes) ≡ hw_len_of bytes + proto_len_of bytes
  pub target_hw : length (after_target_hw bytes) ≡ proto_len_of bytes

pub lens_of : (bytes : List ℕ) → IsArpPacket bytes → Lens bytes
lens_of bytes is =
    let h = hw_len_of bytes in
    let p = proto_len_of bytes in
    let all : length (drop 8 bytes) ≡ 2 * h + 2 * p =
    omega (arith, length-drop 8 bytes, is.whole) in
    let sender_hw : length (after_sender_hw bytes) ≡ h + 2 * p =
    omega (arith, length-drop h (addresses_of bytes), all) in
    let sender : length (after_sender bytes) ≡ h + p =
    omega (arith, length-drop p (after_sender_hw bytes), sender_hw) in
    let target_hw : length (after_target_hw bytes) ≡ p =
    omega (arith, length-drop h (after_sender bytes), sender) in
    record { all = all; sender_hw = sender_hw; sender = sender; target_hw = target_hw }

-- the four addresses are all that follows the first eight bytes
addresses_are : (bytes : List ℕ) → IsArpPacket bytes
    → sender_hw_of bytes ++ (sender_proto_of bytes ++ (target_hw_of bytes ++ target_proto_of bytes))
    ≡ drop 8 bytes
addresses_are bytes is = grind (arith, take_all, lens_of, take-append-drop)

-- the fields that are read from a packet encode its bytes
pub encoding-fields_of : (bytes : List ℕ) → IsArpPacket bytes → IsBytes bytes
    → encoding (fields_of bytes) ≡ bytes
encoding-fields_of bytes is fits =
    grind (arith, lens_of, length-take-le, addresses_are, high_of, low_of, drop-cells)

-- the bytes that fields encode are a packet
pub IsArpPacket-encoding : (a : ArpFields) → IsArp a → IsArpPacket (encoding a)
IsArpPacket-encoding a is =
    let one = length-append a.target_hw_addr a.target_protocol_addr in
    let two = length-append a.sender_protocol_addr (a.target_hw_addr ++ a.target_protocol_addr) in
    let three = length-append a.sender_hw_addr
    (a.sender_protocol_addr ++ (a.target_hw_addr ++ a.target_protocol_addr)) in
    let hw = is.hw.same in
    let proto = is.proto.same in
    record { least = omega (arith, three); whole = omega (arith, one, two, three, hw, proto) }

-- the fields are read again
pub fields_of-encoding : (a : ArpFields) → Fits a → IsArp a → fields_of (encoding a) ≡ a
fields_of-encoding a fits is = grind (arith, two_again, take_at, drop_at, take_all)
