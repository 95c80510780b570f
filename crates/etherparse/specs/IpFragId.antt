-- The names of datagrams (RFC 791, section 3.2; over IPv6 RFC 8200, section 4.5, leaves the number
-- out), and which fragment of one a packet is.
use Rattle.std.specs.Prelude.{ℕ, Bool, ◌&&◌, ◌==◌, ◌∷◌, nat_eq, Option, Some, None}
use Rattle.std.specs.Cmp.Lexicographic.{pointwise}
use Rattle.std.specs.Hash as fed
use Rattle.ep_base.specs.declared.len_source.LenSource.{LenSource}
use Rattle.ep_base.specs.declared.len_source.LenSource.TheVariants.{Ipv4HeaderTotalLen, Ipv6HeaderPayloadLen}
use Rattle.ep_packet.specs.Class.{Class, FragmentName}
use Rattle.ep_packet.specs.Class.Class.{Whole, Cut, Other, Refused}
use Rattle.ep_packet.specs.contracts.addresses.AddressesPartialEq.TheImpl as addresses
use Rattle.ep_packet.specs.declared.addresses.Addresses.{Addresses}
use Rattle.ep_packet.specs.declared.addresses.Addresses.TheVariants.{V4, V6}
use Rattle.etherparse.specs.declared.defrag.ip_frag_id.IpFragId.{IpFragId}
use Rattle.etherparse.specs.declared.defrag.ip_frag_version_spec_id.IpFragVersionSpecId.{IpFragVersionSpecId}
use Rattle.etherparse.specs.declared.defrag.ip_frag_version_spec_id.IpFragVersionSpecId.TheVariants.{Ipv4, Ipv6}
use Rattle.etherparse.specs.declared.defrag.overlap_rule.OverlapRule.{OverlapRule}
use Rattle.etherparse.specs.declared.defrag.overlap_rule.OverlapRule.TheVariants.{Overwrites, Refuses}
use Rattle.etherparse.specs.Fragments.{Fragment, fragment}

abbrev pub spec_id : Addresses → ℕ → IpFragVersionSpecId
spec_id (V4 source destination) identification = Ipv4 source destination identification
spec_id (V6 source destination) identification = Ipv6 source destination identification

-- a name, and the identifier of a channel by which the caller distinguishes datagrams besides
abbrev pub id_named : {C : Type 0} → FragmentName → C → IpFragId C
id_named name channel = record {
  vlan_ids = record { items = name.vlan_ids };
  ip = spec_id name.addresses name.identification;
  payload_ip_number = record { 0 = name.number };
  channel_id = channel;
}

-- the same tags, version, addresses, identification and number
abbrev pub same_name : FragmentName → FragmentName → Bool
same_name a b = pointwise nat_eq a.vlan_ids b.vlan_ids
    && (addresses.ghosts.eq a.addresses b.addresses
    && ((a.identification == b.identification) && (a.number == b.number)))

-- what a hasher is given of an id: both addresses, each in one write, and the identification
abbrev pub hashed_as : IpFragVersionSpecId → fed.HashWrites
hashed_as (Ipv4 source destination identification) = source ∷ destination ∷ fed.u16 identification
hashed_as (Ipv6 source destination identification) = source ∷ destination ∷ fed.u32 identification

-- what the lengths of packets of a version come from
abbrev pub len_source_of : IpFragVersionSpecId → LenSource
len_source_of (Ipv4 source destination identification) = Ipv4HeaderTotalLen
len_source_of (Ipv6 source destination identification) = Ipv6HeaderPayloadLen

-- how the fragments of packets of a version overlap (RFC 791, section 3.2; RFC 8200, section 4.5)
abbrev pub overlap_rule_of : IpFragVersionSpecId → OverlapRule
overlap_rule_of (Ipv4 source destination identification) = Overwrites
overlap_rule_of (Ipv6 source destination identification) = Refuses

-- the same by the addresses of the packets
abbrev pub rule_over : Addresses → OverlapRule
rule_over (V4 source destination) = Overwrites
rule_over (V6 source destination) = Refuses

-- the fragment that a packet of this class is, and the name of its datagram
abbrev pub fragment_in : Class → Option (FragmentName × Fragment)
fragment_in (Whole addresses number bytes message) = None
fragment_in (Cut name offset more bytes) = Some (name, fragment offset more bytes)
fragment_in Other = None
fragment_in Refused = None
