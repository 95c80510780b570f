-- The payload after the headers of a packet.
use Rattle.std.specs.Prelude.{ℕ, List, [], ◌∷◌, ◌++◌, pos}
use Rattle.std.specs.Hash as fed
use Rattle.ep_ipslice.specs.Compared.{hashed_as as ip_hashed_as, ordered_as as ip_ordered_as}
use Rattle.ep_ipslice.specs.Packet.{IpPayload}
use Rattle.ep_packet.specs.declared.payload_slice.PayloadSlice.{PayloadSlice}
use Rattle.ep_packet.specs.declared.payload_slice.PayloadSlice.TheVariants as slice
use Rattle.ep_tag.specs.Ether.{EtherPayload}
use Rattle.ep_tag.specs.EtherOrder.{hashed_as as ether_hashed_as, ordered_as as ether_ordered_as}

-- no bytes; bytes that an ether type names; bytes that MACsec modified; the payload of an IP
-- packet; and that of a message of each protocol that is read
pub data Payload : Type 0 where
  Empty : Payload
  Ether : EtherPayload → Payload
  MacsecMod : List ℕ → Payload
  Ip : IpPayload → Payload
  Udp : List ℕ → Payload
  Tcp : List ℕ → Payload
  Icmpv4 : List ℕ → Payload
  Icmpv6 : List ℕ → Payload

-- the value of a borrowed payload
abbrev pub payload_parsed : PayloadSlice → Payload
payload_parsed slice.Empty = Empty
payload_parsed (slice.Ether p) = Ether p
payload_parsed (slice.MacsecMod bytes) = MacsecMod bytes.now
payload_parsed (slice.Ip p) = Ip p
payload_parsed (slice.Udp bytes) = Udp bytes.now
payload_parsed (slice.Tcp bytes) = Tcp bytes.now
payload_parsed (slice.Icmpv4 bytes) = Icmpv4 bytes.now
payload_parsed (slice.Icmpv6 bytes) = Icmpv6 bytes.now

abbrev pub bytes_of : Payload → List ℕ
bytes_of Empty = []
bytes_of (Ether p) = p.payload
bytes_of (MacsecMod bytes) = bytes
bytes_of (Ip p) = p.payload
bytes_of (Udp bytes) = bytes
bytes_of (Tcp bytes) = bytes
bytes_of (Icmpv4 bytes) = bytes
bytes_of (Icmpv6 bytes) = bytes

-- the index of the variant, and then all of the payload, so that different payloads differ
abbrev pub ordered_as : Payload → List ℕ
ordered_as Empty = 0 ∷ []
ordered_as (Ether p) = 1 ∷ ether_ordered_as p
ordered_as (MacsecMod bytes) = 2 ∷ bytes
ordered_as (Ip p) = 3 ∷ ip_ordered_as p
ordered_as (Udp bytes) = 4 ∷ bytes
ordered_as (Tcp bytes) = 5 ∷ bytes
ordered_as (Icmpv4 bytes) = 6 ∷ bytes
ordered_as (Icmpv6 bytes) = 7 ∷ bytes

-- the index of the variant, and bytes with their number
abbrev pub bytes_hashed_as : ℕ → List ℕ → fed.HashWrites
bytes_hashed_as position bytes = fed.isize (pos position) ++ fed.slice fed.u8 bytes

-- what a hasher is fed: the index of the variant, and then all of the payload
abbrev pub hashed_as : Payload → fed.HashWrites
hashed_as Empty = fed.isize (pos 0)
hashed_as (Ether p) = fed.isize (pos 1) ++ ether_hashed_as p
hashed_as (MacsecMod bytes) = bytes_hashed_as 2 bytes
hashed_as (Ip p) = fed.isize (pos 3) ++ ip_hashed_as p
hashed_as (Udp bytes) = bytes_hashed_as 4 bytes
hashed_as (Tcp bytes) = bytes_hashed_as 5 bytes
hashed_as (Icmpv4 bytes) = bytes_hashed_as 6 bytes
hashed_as (Icmpv6 bytes) = bytes_hashed_as 7 bytes
