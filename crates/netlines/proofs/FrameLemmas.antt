-- The bytes of a message are among those of its frame.
use Rattle.std.proofs.Common.{◌≡◌, ℕ, ◌≤◌, Bool, cond, List, length, Option, Some, None, IfSome, subst, arith}
use Rattle.std.proofs.Common.{length-append}
use Rattle.etherparse.specs.ip.Ipv4 as v4
use Rattle.etherparse.specs.ipslice.Ipv6Packet.{extensions_in}
use Rattle.etherparse.specs.ipslice.Packet.{FragmentFields, IpPayload, ipv4_fragment_fields, ipv4_payload}
use Rattle.etherparse.specs.ipslice.Packet.{ipv6_fragment_fields}
use Rattle.etherparse.specs.link.Ethernet.{ethernet_len}
use Rattle.etherparse.specs.packet.Class.{Class, ipv4_addresses, ipv6_addresses, net_class, packet_parsed}
use Rattle.etherparse.specs.packet.Class.{fragmented_class}
use Rattle.etherparse.specs.packet.Class.Class.{Whole, Cut, Other, Refused}
use Rattle.etherparse.specs.packet.Parts.{ArePartsOf, IsAt, IsNetAt}
use Rattle.etherparse.specs.packet.Readable.{ReadMessage}
use Rattle.etherparse.specs.packet.Tags.{vlan_ids_of}
use Rattle.etherparse.specs.packet.declared.addresses.Addresses.{Addresses}
use Rattle.etherparse.specs.packet.declared.net.net_slice.NetSlice.{NetSlice}
use Rattle.etherparse.specs.packet.declared.net.net_slice.NetSlice.TheVariants as net
use Rattle.etherparse.specs.packet.declared.sliced_packet.SlicedPacket.{SlicedPacket}
use Rattle.etherparse.specs.packet.declared.transport.transport_slice.TransportSlice.{TransportSlice}

-- how many bytes an uncut message has
abbrev message_len : Class → ℕ
message_len (Whole addresses number bytes message) = length bytes
message_len (Cut name offset more bytes) = 0
message_len Other = 0
message_len Refused = 0

at_fits : (bytes fragment : List ℕ) (position : ℕ) → IsAt bytes position fragment → length fragment ≤ length bytes
at_fits bytes fragment position at = grind (arith, length-append)

choice_fits : (b : Bool) (fragment whole : Class) (n : ℕ) → message_len fragment ≤ n → message_len whole ≤ n
    → message_len (cond b fragment whole) ≤ n
choice_fits b fragment whole n left right = grind arith

fragment_fits : (ids : List ℕ) (addresses : Addresses) (p : IpPayload)
    (fields : Option FragmentFields) (n : ℕ)
    → message_len (fragmented_class ids addresses p fields) ≤ n
fragment_fits ids addresses p fields n = grind arith

net_fits : (frame ids : List ℕ) (position : ℕ) (o : Option NetSlice) (message : Option TransportSlice)
    → IfSome o (IsNetAt frame position) → message_len (net_class ids o message) ≤ length frame
net_fits frame ids position None message at = omega arith
net_fits frame ids position (Some (net.Ipv4 packet)) message at =
    choice_fits (ipv4_payload packet).fragmented _ _ (length frame)
    (fragment_fits ids (ipv4_addresses packet) (ipv4_payload packet)
    (Some (ipv4_fragment_fields packet.header)) (length frame))
    (at_fits frame packet.payload _ at.2)
net_fits frame ids position (Some (net.Ipv6 packet)) message at =
    choice_fits packet.payload.fragmented _ _ (length frame)
    (fragment_fits ids (ipv6_addresses packet) packet.payload
    (ipv6_fragment_fields (extensions_in packet)) (length frame))
    (at_fits frame packet.payload.payload _ at.2)
net_fits frame ids position (Some (net.Arp packet)) message at = omega arith

pub whole_fits : (frame : List ℕ) (packet : SlicedPacket) → ArePartsOf frame ethernet_len packet
    → (addresses : Addresses) (number : ℕ) (bytes : List ℕ) (message : ReadMessage)
    → packet_parsed packet ≡ Whole addresses number bytes message → length bytes ≤ length frame
whole_fits frame packet parts addresses number bytes message is =
    subst (λ (c : Class). message_len c ≤ length frame) is
    (net_fits frame (vlan_ids_of packet.link_exts.items) _ packet.net
    packet.transport parts.layers.net)
