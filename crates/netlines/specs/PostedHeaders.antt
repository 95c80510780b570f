-- The headers from which a packet's builder makes a posted frame.
use Rattle.std.specs.Prelude.{ℕ, Bool, true, false, List, [], ◌∷◌, Option, Some, None}
use Rattle.etherparse.specs.BuiltSteps.{ethernet_between, no_headers, tag_of}
use Rattle.etherparse.specs.declared.defrag.ip_frag_version_spec_id.IpFragVersionSpecId.{IpFragVersionSpecId}
use Rattle.etherparse.specs.declared.defrag.ip_frag_version_spec_id.IpFragVersionSpecId.TheVariants.{Ipv4, Ipv6}
use Rattle.etherparse.specs.PacketImpl.{PacketImpl}
use Rattle.etherparse.specs.ext.Ipv4Exts.{ipv4_exts_of}
use Rattle.etherparse.specs.ext.declared.net.ipv6_fragment_header.Ipv6FragmentHeader.{Ipv6FragmentHeader}
use Rattle.etherparse.specs.ip.Ipv4.{default_header}
use Rattle.etherparse.specs.packet.declared.net.ip_headers.IpHeaders.{IpHeaders}
use Rattle.etherparse.specs.packet.declared.net.ip_headers.IpHeaders.TheVariants as ip
use Rattle.etherparse.specs.tag.declared.link.vlan_header.VlanHeader.{VlanHeader}
use Rattle.etherparse.specs.tag.declared.link.vlan_header.VlanHeader.TheVariants.{Single, Double}
use Rattle.netlines.specs.declared.letter.Letter.{Letter}

-- the fragment header of a message that is cut
abbrev pub posted_fragment_header : (cut : Bool) → (offset : ℕ) → (more : Bool) → (identification : ℕ)
    → Option Ipv6FragmentHeader
posted_fragment_header false offset more identification = None
posted_fragment_header true offset more identification =
    Some (record {
      next_header = record { 0 = 0 };
      fragment_offset = offset;
      more_fragments = more;
      identification = identification;
    })

-- the IP headers of a fragment, whose lengths, numbers and checksum the builder sets
abbrev pub ip_headers_of : IpFragVersionSpecId → (cut : Bool) → (offset : ℕ)
    → (more : Bool) → IpHeaders
ip_headers_of (Ipv4 source destination identification) cut offset more =
    ip.Ipv4 (record default_header {
      identification = identification;
      dont_fragment = false;
      more_fragments = more;
      fragment_offset = offset;
      time_to_live = 64;
      source = source;
      destination = destination;
    }) (ipv4_exts_of None)
ip_headers_of (Ipv6 source destination identification) cut offset more = ip.Ipv6 (record {
  traffic_class = 0;
  flow_label = 0;
  payload_length = 0;
  next_header = record { 0 = 0 };
  hop_limit = 64;
  source = source;
  destination = destination;
}) (record {
  hop_by_hop_options = None;
  destination_options = None;
  routing = None;
  fragment = posted_fragment_header cut offset more identification;
  auth = None;
})

-- the tags with these identifiers
abbrev pub tags_of : List ℕ → Option VlanHeader
tags_of [] = None
tags_of (id ∷ []) = Some (Single (tag_of id))
tags_of (outer ∷ inner ∷ others) =
    Some (Double (record { outer = tag_of outer; inner = tag_of inner }))

-- all headers of a frame
abbrev pub headers_of : Letter → IpHeaders → PacketImpl
headers_of letter ip = record no_headers {
  link_header = Some (ethernet_between letter.ethernet_source letter.ethernet_destination);
  vlan_header = tags_of letter.vlans.items;
  ip_headers = Some ip;
}
