-- A link header and the tags after it, as fields and numbers.
use Rattle.std.specs.Prelude.{ℕ, ◌+◌, false, List, [], ◌∷◌, replicate, Option, Some, None, unwrap_or}
use Rattle.std.specs.List.{slice_get}
use Rattle.std.specs.Option.{option_map}
use Rattle.etherparse.specs.base.Bytes.{num}
use Rattle.etherparse.specs.link.Ethernet as ethernet
use Rattle.etherparse.specs.link.Frame.{EthernetFrame}
use Rattle.etherparse.specs.link.Sll as sll
use Rattle.etherparse.specs.link.declared.link.link_slice.LinkSlice.{LinkSlice}
use Rattle.etherparse.specs.link.declared.link.link_slice.LinkSlice.TheVariants as link
use Rattle.etherparse.specs.packet.LaxWhole.{whole_tag}
use Rattle.etherparse.specs.tag.LinkExt.{lax_tag_len}
use Rattle.etherparse.specs.tag.Macsec as macsec
use Rattle.etherparse.specs.tag.Vlan as vlan
use Rattle.etherparse.specs.tag.declared.link.lax_link_ext_slice.LaxLinkExtSlice.{LaxLinkExtSlice}
use Rattle.etherparse.specs.tag.declared.link.lax_link_ext_slice.LaxLinkExtSlice.TheVariants as tag
use Rattle.etherparse.specs.tag.declared.link.link_ext_slice.LinkExtSlice.{LinkExtSlice}
use Rattle.etherparse_structs.specs.Part.{no_part, part_at}
use Rattle.etherparse_structs.specs.declared.link.EpLink.{EpLink}
use Rattle.etherparse_structs.specs.declared.link.EpTag.{EpTag}

abbrev pub no_link : EpLink
no_link = record {
  kind = 0;
  protocol = 0;
  destination = replicate 6 0;
  source = replicate 6 0;
  packet_type = 0;
  hardware_type = 0;
  address_len = 0;
  address = replicate 8 0;
}

abbrev pub ethernet_struct : EthernetFrame → EpLink
ethernet_struct frame = record no_link {
  kind = 1;
  protocol = (ethernet.next_type_of frame.bytes).0;
  destination = ethernet.destination_of frame.bytes;
  source = ethernet.source_of frame.bytes;
}

abbrev pub sll_struct : List ℕ → EpLink
sll_struct bytes = record no_link {
  kind = 2;
  protocol = sll.protocol_number (sll.protocol_of (sll.hardware_type_of bytes) (num bytes 14 2));
  packet_type = sll.packet_type_of bytes;
  hardware_type = (sll.hardware_type_of bytes).0;
  address_len = sll.address_len_of bytes;
  address = sll.address_of bytes;
}

-- Ethernet II, a Linux cooked capture, or no link header
abbrev pub link_struct : Option LinkSlice → EpLink
link_struct None = no_link
link_struct (Some (link.Ethernet2 frame)) = ethernet_struct frame
link_struct (Some (link.LinuxSll bytes)) = sll_struct bytes
link_struct (Some (link.EtherPayload p)) = no_link
link_struct (Some (link.LinuxSllPayload p)) = no_link

abbrev pub no_tag : EpTag
no_tag = record {
  header = no_part;
  kind = 0;
  ether_type = 0;
  vlan_id = 0;
  priority = 0;
  drop_eligible = false;
  end_station = false;
  single_copy_broadcast = false;
  encrypted = false;
  changed = false;
  has_channel = false;
  association = 0;
  short_len = 0;
  packet_number = 0;
  channel = 0;
}

abbrev pub vlan_struct : ℕ → List ℕ → EpTag
vlan_struct place bytes = record no_tag {
  header = record { offset = place; len = vlan.vlan_len };
  kind = 1;
  ether_type = (vlan.next_type_of bytes).0;
  vlan_id = vlan.vlan_id_of bytes;
  priority = vlan.pcp_of bytes;
  drop_eligible = vlan.drop_eligible_of bytes;
}

abbrev pub macsec_struct : ℕ → List ℕ → EpTag
macsec_struct place header = record no_tag {
  header = part_at place header;
  kind = 2;
  ether_type = unwrap_or (option_map (λ t. t.0) (macsec.next_type_of header)) 0;
  end_station = macsec.endstation_id_of header;
  single_copy_broadcast = macsec.scb_of header;
  encrypted = macsec.is_encrypted header;
  changed = macsec.is_changed header;
  has_channel = macsec.has_sci header;
  association = macsec.an_of header;
  short_len = macsec.short_len_of header;
  packet_number = macsec.packet_nr_of header;
  channel = unwrap_or (macsec.sci_of header) 0;
}

-- a tag at this offset, if there is one
abbrev pub tag_struct : ℕ → Option LaxLinkExtSlice → EpTag
tag_struct place None = no_tag
tag_struct place (Some (tag.Vlan bytes)) = vlan_struct place bytes
tag_struct place (Some (tag.Macsec m)) = macsec_struct place m.header

abbrev pub len_of : Option LaxLinkExtSlice → ℕ
len_of None = 0
len_of (Some t) = lax_tag_len t

-- the tag of an index, if there is one, of which nothing is missing
abbrev pub whole_tag_in : List LinkExtSlice → ℕ → Option LaxLinkExtSlice
whole_tag_in tags index = option_map whole_tag (slice_get tags index)

-- the tags of the indices 0 to 2, one after the other, from an offset on
abbrev pub tags_struct : ℕ → (ℕ → Option LaxLinkExtSlice) → List EpTag
tags_struct place found =
    tag_struct place (found 0)
    ∷ tag_struct (place + len_of (found 0)) (found 1)
    ∷ tag_struct (place + len_of (found 0) + len_of (found 1)) (found 2)
    ∷ []

-- where they end
abbrev pub tags_end : ℕ → (ℕ → Option LaxLinkExtSlice) → ℕ
tags_end place found = place + len_of (found 0) + len_of (found 1) + len_of (found 2)
