-- Letters: the name and the headers of the packets in which a message is sent.
use Rattle.std.specs.Prelude.{◌≡◌, ℕ, ◌^◌, ◌<◌, ◌≤◌, length, All}
use Rattle.etherparse.specs.declared.defrag.ip_frag_version_spec_id.IpFragVersionSpecId.{IpFragVersionSpecId}
use Rattle.etherparse.specs.declared.defrag.ip_frag_version_spec_id.IpFragVersionSpecId.TheVariants.{Ipv4, Ipv6}
use Rattle.etherparse.specs.packet.Class.{Class, FragmentName}
use Rattle.etherparse.specs.packet.Class.Class.{Cut}
use Rattle.netlines.specs.Posted.{PostedFragment}
use Rattle.netlines.specs.Sealed.{AddressesFit, addresses_of}
use Rattle.netlines.specs.declared.letter.Letter.{Letter}

abbrev pub identification_of : IpFragVersionSpecId → ℕ
identification_of (Ipv4 source destination identification) = identification
identification_of (Ipv6 source destination identification) = identification

-- the name under which the fragments of a letter's message are reassembled
abbrev pub name_of : Letter → FragmentName
name_of letter = record {
  vlan_ids = letter.vlans.items;
  addresses = addresses_of letter.version_id;
  identification = identification_of letter.version_id;
  number = letter.number.0;
}

-- what the frame of a fragment is read as
abbrev pub fragment_class : Letter → PostedFragment → Class
fragment_class letter posted_fragment = Cut (name_of letter) posted_fragment.offset posted_fragment.more posted_fragment.text

-- an identification that fits the field that its IP version has for it
abbrev pub IdentificationFits : IpFragVersionSpecId → Type 0
IdentificationFits (Ipv4 source destination identification) = identification < 2 ^ 16
IdentificationFits (Ipv6 source destination identification) = identification < 2 ^ 32

-- a letter as its type holds it: Ethernet addresses of 6 bytes, at most two identifiers of VLANs,
-- of 12 bits each, and the addresses and the identification of an IP version
pub record LetterFits (letter : Letter) : Type 0 where
  pub source : length letter.ethernet_source ≡ 6
  pub destination : length letter.ethernet_destination ≡ 6
  pub ids : All (λ id. id ≤ 4095) letter.vlans.items
  pub few : length letter.vlans.items ≤ 2
  pub addresses : AddressesFit (addresses_of letter.version_id)
  pub identification : IdentificationFits letter.version_id
