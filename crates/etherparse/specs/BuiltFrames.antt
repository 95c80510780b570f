-- What an Ethernet II frame, a packet of a cooked capture or a packet alone is read as whose IP
-- packet was built: with the message that was its payload, or as a fragment (RFC 791; RFC 8200,
-- section 4.5).
use Rattle.std.specs.Prelude.{◌≡◌, ◌≢◌, ℕ, ◌≤◌, false, List, [], ◌∷◌, length, Option, Some, None, ⊤}
use Rattle.std.specs.Option.{option_map}
use Rattle.ep_ext.specs.Auth.{IsAuth, auth_encoding}
use Rattle.ep_ext.specs.Chain.{Row}
use Rattle.ep_ext.specs.Follow.{has_slot}
use Rattle.ep_ext.specs.Fragment.{fragment_header_of, fragment_encoding}
use Rattle.ep_ext.specs.Link.{all_slots, first_named, pieces_in, with_links}
use Rattle.ep_ext.specs.Slot.{slot_of}
use Rattle.ep_ext.specs.declared.net.ip_auth_header.IpAuthHeader.{IpAuthHeader}
use Rattle.ep_ext.specs.declared.net.ipv6_fragment_header.Ipv6FragmentHeader.{Ipv6FragmentHeader}
use Rattle.ep_ip.specs.Ipv4 as ipv4
use Rattle.ep_ip.specs.Ipv6 as ipv6
use Rattle.ep_ipslice.specs.Packet.{FragmentFields}
use Rattle.ep_link.specs.Ethernet as ethernet
use Rattle.ep_link.specs.Sll.{greatest_packet_type}
use Rattle.ep_link.specs.declared.link.ethernet2_header.Ethernet2Header.{Ethernet2Header}
use Rattle.ep_link.specs.declared.link.link_header.LinkHeader.TheVariants.{Ethernet2}
use Rattle.ep_packet.specs.Class.{Class}
use Rattle.ep_packet.specs.Class.Class.{Cut}
use Rattle.ep_packet.specs.declared.addresses.Addresses.{Addresses}
use Rattle.ep_packet.specs.declared.addresses.Addresses.TheVariants.{V4, V6}
use Rattle.ep_packet.specs.declared.net.ip_headers.IpHeaders.{IpHeaders}
use Rattle.ep_packet.specs.declared.net.ip_headers.IpHeaders.TheVariants.{Ipv4, Ipv6}
use Rattle.ep_tag.specs.Vlan as vlan
use Rattle.ep_tag.specs.declared.link.vlan_header.VlanHeader.{VlanHeader}
use Rattle.ep_tag.specs.declared.link.vlan_header.VlanHeader.TheVariants as tag
use Rattle.etherparse.specs.Built.{build_refusal}
use Rattle.etherparse.specs.BuiltSteps.{cooked_link_header}
use Rattle.etherparse.specs.PacketImpl.{PacketImpl}

-- the headers of an IP packet in an Ethernet II frame
abbrev pub ethernet_packet : Ethernet2Header → Option VlanHeader → IpHeaders → PacketImpl
ethernet_packet link vlan ip = record {
  link_header = Some (Ethernet2 link);
  vlan_header = vlan;
  ip_headers = Some ip;
  arp_packet = None;
  transport_header = None;
}

-- the identifiers of the tags, the outer one first
abbrev pub ids_in : Option VlanHeader → List ℕ
ids_in None = []
ids_in (Some (tag.Single t)) = t.vlan_id ∷ []
ids_in (Some (tag.Double t)) = t.outer.vlan_id ∷ t.inner.vlan_id ∷ []

abbrev pub addresses_in : IpHeaders → Addresses
addresses_in (Ipv4 h e) = V4 h.source h.destination
addresses_in (Ipv6 h e) = V6 h.source h.destination

-- what the headers state of the datagram of which the payload is a fragment
abbrev pub ipv6_fields : Ipv6FragmentHeader → FragmentFields
ipv6_fields h =
    record {
      identification = h.identification;
      offset = h.fragment_offset;
      more = h.more_fragments;
    }

abbrev pub fields_in : IpHeaders → Option FragmentFields
fields_in (Ipv4 h e) =
    Some (record
    { identification = h.identification; offset = h.fragment_offset; more = h.more_fragments })
fields_in (Ipv6 h e) = option_map ipv6_fields e.fragment

-- the fragment that a frame with these headers is
abbrev pub fragment_with : Option VlanHeader → IpHeaders → (number : ℕ) → (payload : List ℕ)
    → FragmentFields → Class
fragment_with vlan ip number payload fields = Cut (record {
  vlan_ids = ids_in vlan;
  addresses = addresses_in ip;
  identification = fields.identification;
  number = number;
}) fields.offset fields.more payload

-- the number of what follows names no extension header of the version
abbrev pub NamesNone : IpHeaders → (number : ℕ) → Type 0
NamesNone (Ipv4 h e) number = number ≢ 51
NamesNone (Ipv6 h e) number = has_slot number ≡ false

-- the fields are in their ranges
abbrev pub TagsFit : Option VlanHeader → Type 0
TagsFit None = ⊤
TagsFit (Some (tag.Single t)) = vlan.Fits t
TagsFit (Some (tag.Double t)) = vlan.Fits t.outer × vlan.Fits t.inner

abbrev pub AuthFits : Option IpAuthHeader → Type 0
AuthFits None = ⊤
AuthFits (Some h) = IsAuth (auth_encoding h)

abbrev pub FragmentFits : Option Ipv6FragmentHeader → Type 0
FragmentFits None = ⊤
FragmentFits (Some h) = fragment_header_of (fragment_encoding h) ≡ h

-- and extension headers are whole, so that linked they lead to what follows
abbrev pub IpFits : IpHeaders → (number : ℕ) → Type 0
IpFits (Ipv4 h e) number = ipv4.Fits h × AuthFits e.auth
IpFits (Ipv6 h e) number =
    ipv6.Fits h × FragmentFits e.fragment
    × Row slot_of [] (first_named e all_slots number)
    (pieces_in (with_links e number) all_slots) number

-- a frame that a builder writes, with headers as their types hold them
pub record Frames (link : Ethernet2Header) (vlan : Option VlanHeader) (ip : IpHeaders)
    (number len : ℕ) : Type 0 where
  pub link_fits : ethernet.Fits link
  pub tags_fit : TagsFit vlan
  pub ip_fits : IpFits ip number
  pub names_none : NamesNone ip number
  pub written : build_refusal (ethernet_packet link vlan ip) len ≡ None

-- the headers of an IP packet with no link header
abbrev pub without_link : IpHeaders → PacketImpl
without_link ip =
    record {
      link_header = None;
      vlan_header = None;
      ip_headers = Some ip;
      arp_packet = None;
      transport_header = None;
    }

-- a packet that a builder writes, with headers as their types hold them
pub record Packets (ip : IpHeaders) (number len : ℕ) : Type 0 where
  pub ip_fits : IpFits ip number
  pub names_none : NamesNone ip number
  pub written : build_refusal (without_link ip) len ≡ None

-- the headers of one after the header of a cooked capture
abbrev pub after_cooked : (packet_type address_len : ℕ) → (address : List ℕ) → Option VlanHeader
    → IpHeaders → PacketImpl
after_cooked packet_type address_len address vlan ip = record {
  link_header = Some (cooked_link_header packet_type address_len address);
  vlan_header = vlan;
  ip_headers = Some ip;
  arp_packet = None;
  transport_header = None;
}

-- the same of one after such a header and tags
pub record CookedPackets (packet_type : ℕ) (address : List ℕ) (vlan : Option VlanHeader)
    (ip : IpHeaders) (number len : ℕ) : Type 0 where
  pub packet_type_fits : packet_type ≤ greatest_packet_type
  pub address_len : length address ≡ 8
  pub tags_fit : TagsFit vlan
  pub packet : Packets ip number len
