-- The payload after the headers of a packet, as far as it is there.
use Rattle.std.specs.Prelude.{ℕ, Bool, List, []}
use Rattle.ep_ipslice.specs.Compared.{lax_value}
use Rattle.ep_ipslice.specs.Packet.{IpPayload}
use Rattle.ep_link.specs.SllPayload.{SllPayload}
use Rattle.ep_packet.specs.declared.lax_payload_slice.LaxPayloadSlice.{LaxPayloadSlice}
use Rattle.ep_packet.specs.declared.lax_payload_slice.LaxPayloadSlice.TheVariants as slice
use Rattle.ep_tag.specs.Ether.{LaxEtherPayload}

-- no bytes; bytes that an ether type names, or the protocol of a cooked capture; bytes that MACsec
-- modified; the payload of an IP packet; and that of a message of each protocol that is read. Each of
-- them but the first and third says whether bytes are missing.
pub data LaxPayload : Type 0 where
  Empty : LaxPayload
  Ether : LaxEtherPayload → LaxPayload
  LinuxSll : SllPayload → LaxPayload
  MacsecModified : List ℕ → Bool → LaxPayload
  Ip : Bool × IpPayload → LaxPayload
  Udp : List ℕ → Bool → LaxPayload
  Tcp : List ℕ → Bool → LaxPayload
  Icmpv4 : List ℕ → Bool → LaxPayload
  Icmpv6 : List ℕ → Bool → LaxPayload

-- the value of a borrowed payload
abbrev pub lax_payload_parsed : LaxPayloadSlice → LaxPayload
lax_payload_parsed slice.Empty = Empty
lax_payload_parsed (slice.Ether p) = Ether p
lax_payload_parsed (slice.LinuxSll p) = LinuxSll p
lax_payload_parsed (slice.MacsecModified bytes incomplete) = MacsecModified bytes.now incomplete
lax_payload_parsed (slice.Ip p) = Ip (lax_value p)
lax_payload_parsed (slice.Udp bytes incomplete) = Udp bytes.now incomplete
lax_payload_parsed (slice.Tcp bytes incomplete) = Tcp bytes.now incomplete
lax_payload_parsed (slice.Icmpv4 bytes incomplete) = Icmpv4 bytes.now incomplete
lax_payload_parsed (slice.Icmpv6 bytes incomplete) = Icmpv6 bytes.now incomplete

abbrev pub lax_bytes_of : LaxPayload → List ℕ
lax_bytes_of Empty = []
lax_bytes_of (Ether p) = p.payload
lax_bytes_of (LinuxSll p) = p.payload
lax_bytes_of (MacsecModified bytes incomplete) = bytes
lax_bytes_of (Ip p) = p.1.payload
lax_bytes_of (Udp bytes incomplete) = bytes
lax_bytes_of (Tcp bytes incomplete) = bytes
lax_bytes_of (Icmpv4 bytes incomplete) = bytes
lax_bytes_of (Icmpv6 bytes incomplete) = bytes
