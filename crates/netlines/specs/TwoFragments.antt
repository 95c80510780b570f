-- A UDP message in two fragments (RFC 768; RFC 791, sections 3.1 and 3.2), with which laws show
-- that the conditions of other laws can be met.
use Rattle.std.specs.Prelude.{ℕ, true, false, List, [], ◌∷◌, ◌++◌, codes}
use Rattle.etherparse.specs.declared.defrag.ip_frag_version_spec_id.IpFragVersionSpecId.TheVariants.{Ipv4}
use Rattle.etherparse.specs.Fragments.{Fragment, fragment}
use Rattle.etherparse.specs.packet.Class.{FragmentName}
use Rattle.etherparse.specs.packet.declared.addresses.Addresses.TheVariants.{V4}
use Rattle.netlines.specs.declared.letter.Letter.{Letter}

-- from 10.0.0.1 to 10.0.0.2, with the identification 7 and no VLAN tag
abbrev pub udp_letter : Letter
udp_letter = record {
  ethernet_source = 2 ∷ 0 ∷ 0 ∷ 0 ∷ 0 ∷ 1 ∷ [];
  ethernet_destination = 2 ∷ 0 ∷ 0 ∷ 0 ∷ 0 ∷ 2 ∷ [];
  vlans = record { items = [] };
  version_id = Ipv4 (10 ∷ 0 ∷ 0 ∷ 1 ∷ []) (10 ∷ 0 ∷ 0 ∷ 2 ∷ []) 7;
  number = record { 0 = 17 };
}

abbrev pub udp_name : FragmentName
udp_name = record {
  vlan_ids = [];
  addresses = V4 (10 ∷ 0 ∷ 0 ∷ 1 ∷ []) (10 ∷ 0 ∷ 0 ∷ 2 ∷ []);
  identification = 7;
  number = 17;
}

-- the header: from port 1 to port 2, 16 bytes long, with its checksum
abbrev pub udp_header : List ℕ
udp_header = 0 ∷ 1 ∷ 0 ∷ 2 ∷ 0 ∷ 16 ∷ 0xdb ∷ 0xb4 ∷ []

abbrev pub udp_payload : List ℕ
udp_payload = 1 ∷ 2 ∷ 3 ∷ 4 ∷ 5 ∷ 6 ∷ 7 ∷ 8 ∷ []

abbrev pub udp_message : List ℕ
udp_message = udp_header ++ udp_payload

-- the message cut between its header and its payload
abbrev pub first_fragment : Fragment
first_fragment = fragment 0 true udp_header

abbrev pub second_fragment : Fragment
second_fragment = fragment 1 false udp_payload

-- the second one with another last byte
abbrev pub changed_fragment : Fragment
changed_fragment = fragment 1 false (1 ∷ 2 ∷ 3 ∷ 4 ∷ 5 ∷ 6 ∷ 7 ∷ 9 ∷ [])

-- both Ethernet addresses and the ether type of IPv4; the IPv4 headers differ in the word of flags
-- and offset, 2000 and 0001, and in the checksum
abbrev pub ethernet_header : List ℕ
ethernet_header = 2 ∷ 0 ∷ 0 ∷ 0 ∷ 0 ∷ 2 ∷ 2 ∷ 0 ∷ 0 ∷ 0 ∷ 0 ∷ 1 ∷ 8 ∷ 0 ∷ []

abbrev pub first_frame : List ℕ
first_frame = ethernet_header ++ (0x45 ∷ 0 ∷ 0 ∷ 28 ∷ 0 ∷ 7 ∷ 0x20 ∷ 0 ∷ 64 ∷ 17 ∷ 0x46 ∷ 0xc8 ∷ 10
    ∷ 0 ∷ 0 ∷ 1 ∷ 10 ∷ 0 ∷ 0 ∷ 2 ∷ udp_header)

abbrev pub second_frame : List ℕ
second_frame = ethernet_header ++ (0x45 ∷ 0 ∷ 0 ∷ 28 ∷ 0 ∷ 7 ∷ 0 ∷ 1 ∷ 64 ∷ 17 ∷ 0x66 ∷ 0xc7 ∷ 10
    ∷ 0 ∷ 0 ∷ 1 ∷ 10 ∷ 0 ∷ 0 ∷ 2 ∷ udp_payload)

-- the lines with these frames on channel 0
abbrev pub first_line : List ℕ
first_line =
    codes "frame 0 02000000000202000000000108004500001c00072000401146c80a0000010a000002000100020010dbb4"

abbrev pub second_line : List ℕ
second_line =
    codes "frame 0 02000000000202000000000108004500001c00070001401166c70a0000010a0000020102030405060708"
