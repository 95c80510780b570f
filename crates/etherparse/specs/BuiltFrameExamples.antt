-- Headers of frames that are built at literals: those of the fragments in `Examples` of packets.
use Rattle.std.specs.Prelude.{[], ◌∷◌, Option, None, Some, true, false}
use Rattle.ep_ext.specs.Ipv4Exts.{ipv4_exts_of}
use Rattle.ep_ext.specs.Value.{value_of}
use Rattle.ep_ip.specs.Ipv4.{default_header}
use Rattle.ep_link.specs.declared.link.ethernet2_header.Ethernet2Header.{Ethernet2Header}
use Rattle.ep_packet.specs.Examples.{ipv6_destination, ipv6_source}
use Rattle.ep_packet.specs.declared.net.ip_headers.IpHeaders.{IpHeaders}
use Rattle.ep_packet.specs.declared.net.ip_headers.IpHeaders.TheVariants.{Ipv4, Ipv6}
use Rattle.ep_tag.specs.declared.link.vlan_header.VlanHeader.{VlanHeader}
use Rattle.ep_tag.specs.declared.link.vlan_header.VlanHeader.TheVariants.{Double}
use Rattle.etherparse.specs.BuiltSteps.{tag_of}

abbrev pub link_at_literals : Ethernet2Header
link_at_literals = record {
  source = 2 ∷ 0 ∷ 0 ∷ 0 ∷ 0 ∷ 1 ∷ [];
  destination = 2 ∷ 0 ∷ 0 ∷ 0 ∷ 0 ∷ 2 ∷ [];
  ether_type = record { 0 = 0 };
}

-- of priority 1 and 0
abbrev pub two_tags : Option VlanHeader
two_tags = Some (Double (record { outer = record (tag_of 5) { pcp = 1 }; inner = tag_of 9 }))

-- from byte 24 on, and more follow
abbrev pub ipv4_part : IpHeaders
ipv4_part = Ipv4 (record default_header {
  identification = 0x102;
  dont_fragment = false;
  more_fragments = true;
  fragment_offset = 3;
  time_to_live = 64;
  source = 10 ∷ 0 ∷ 0 ∷ 1 ∷ [];
  destination = 10 ∷ 0 ∷ 0 ∷ 2 ∷ [];
}) (ipv4_exts_of None)

-- from byte 8 on, and more follow
abbrev pub ipv6_part : IpHeaders
ipv6_part = Ipv6 (record {
  traffic_class = 0;
  flow_label = 0;
  payload_length = 0;
  next_header = record { 0 = 255 };
  hop_limit = 64;
  source = ipv6_source;
  destination = ipv6_destination;
}) (record (value_of []) {
  fragment = Some (record {
    next_header = record { 0 = 255 };
    fragment_offset = 1;
    more_fragments = true;
    identification = 0x1020304;
  });
})
