-- What is there of packets that aren't refused: all of them.
use Rattle.std.proofs.Common.{◌≡◌, ◌∙◌, refl, sym, ap, arith, List, [], ◌∷◌, map, Option, Some, None, Result, Ok, Err, ℕ}
use Rattle.std.specs.List.{list_any}
use Rattle.std.specs.Option.{option_map}
use Rattle.captures.specs.declared.link.header.Header.{Header}
use Rattle.captures.specs.declared.link.kind.Link.{Link}
use Rattle.ep_base.specs.declared.link.ether_type.EtherType.{EtherType}
use Rattle.ep_packet.specs.LaxSliced.{lax_sliced_ether_type, lax_sliced_ethernet}
use Rattle.ep_packet.specs.LaxView.{lax_vlan_ids_of}
use Rattle.ep_packet.specs.LaxWhole.{whole_net, whole_packet, whole_tag}
use Rattle.ep_packet.specs.Sliced.{sliced_ether_type, sliced_ethernet}
use Rattle.ep_packet.specs.Tags.{vlan_ids_of}
use Rattle.ep_packet.specs.declared.err.packet.slice_error.SliceError.{SliceError}
use Rattle.ep_packet.specs.declared.lax_sliced_packet.LaxSlicedPacket.{LaxSlicedPacket}
use Rattle.ep_packet.specs.declared.net.net_slice.NetSlice.{NetSlice}
use Rattle.ep_packet.specs.declared.net.net_slice.NetSlice.TheVariants as net
use Rattle.ep_packet.specs.declared.sliced_packet.SlicedPacket.{SlicedPacket}
use Rattle.ep_tag.specs.Vlan.{vlan_id_of}
use Rattle.ep_tag.specs.declared.link.link_ext_slice.LinkExtSlice.{LinkExtSlice}
use Rattle.ep_tag.specs.declared.link.link_ext_slice.LinkExtSlice.TheVariants as tag
use Rattle.packets.specs.Conditions.{has_vlan_id, ipv4_numbers, ipv6_numbers, is_within, lax_has_vlan_id, lax_ipv4_numbers}
use Rattle.packets.specs.Conditions.{lax_ipv6_numbers, lax_net_ipv4_numbers, lax_net_ipv6_numbers, net_ipv4_numbers}
use Rattle.packets.specs.Conditions.{net_ipv6_numbers}
use Rattle.packets.specs.LaxLayers.{if_read, lax_layers_of}
use Rattle.packets.specs.Layers.{fault_after_header, layers_of}
use Rattle.packets.specs.MessageHeaders.{header_in, lax_net_header, lax_packet_header, net_header, packet_header}
use Rattle.packets.specs.Outlines.{headers_of, is_lax_macsec, is_lax_vlan, is_macsec, is_vlan, lax_headers_of}
use Rattle.packets.specs.Outlines.{lax_net_of, net_of}

any_vlan : (tags : List LinkExtSlice)
    → list_any is_lax_vlan (map whole_tag tags) ≡ list_any is_vlan tags
any_vlan [] = refl
any_vlan (tag.Vlan bytes ∷ tags) = refl
any_vlan (tag.Macsec macsec ∷ tags) = any_vlan tags

any_macsec : (tags : List LinkExtSlice)
    → list_any is_lax_macsec (map whole_tag tags) ≡ list_any is_macsec tags
any_macsec [] = refl
any_macsec (tag.Vlan bytes ∷ tags) = any_macsec tags
any_macsec (tag.Macsec macsec ∷ tags) = refl

net_whole : (packet : Option NetSlice) → lax_net_of (option_map whole_net packet) ≡ net_of packet
net_whole None = refl
net_whole (Some (net.Ipv4 packet)) = refl
net_whole (Some (net.Ipv6 packet)) = refl
net_whole (Some (net.Arp packet)) = refl

headers_whole : (link : Link) (packet : SlicedPacket) (lax_layers : Option LaxSlicedPacket)
    → headers_of link (Ok packet) lax_layers ≡ lax_headers_of link (Some (whole_packet packet))
headers_whole link packet lax_layers =
    rw (any_vlan packet.link_exts.items, any_macsec packet.link_exts.items, net_whole packet.net)

ipv4_whole : (packet : Option NetSlice) → lax_net_ipv4_numbers (option_map whole_net packet) ≡ net_ipv4_numbers packet
ipv4_whole None = refl
ipv4_whole (Some (net.Ipv4 packet)) = refl
ipv4_whole (Some (net.Ipv6 packet)) = refl
ipv4_whole (Some (net.Arp packet)) = refl

ipv6_whole : (packet : Option NetSlice) → lax_net_ipv6_numbers (option_map whole_net packet) ≡ net_ipv6_numbers packet
ipv6_whole None = refl
ipv6_whole (Some (net.Ipv4 packet)) = refl
ipv6_whole (Some (net.Ipv6 packet)) = refl
ipv6_whole (Some (net.Arp packet)) = refl

message_whole : (packet : Option NetSlice) → lax_net_header (option_map whole_net packet) ≡ net_header packet
message_whole None = refl
message_whole (Some (net.Ipv4 packet)) = refl
message_whole (Some (net.Ipv6 packet)) = refl
message_whole (Some (net.Arp packet)) = refl

vlan_ids_whole : (tags : List LinkExtSlice) → lax_vlan_ids_of (map whole_tag tags) ≡ vlan_ids_of tags
vlan_ids_whole [] = refl
vlan_ids_whole (tag.Vlan bytes ∷ tags) = ap (λ (ids : List ℕ). vlan_id_of bytes ∷ ids) (vlan_ids_whole tags)
vlan_ids_whole (tag.Macsec macsec ∷ tags) = vlan_ids_whole tags

-- a packet that was read is there as a whole
abbrev AreWhole : Result SlicedPacket SliceError → Option LaxSlicedPacket → Type 0
AreWhole layers lax_layers = (packet : SlicedPacket) → layers ≡ Ok packet → lax_layers ≡ Some (whole_packet packet)

by_headers : (link : Link) (layers : Result SlicedPacket SliceError) (lax_layers : Option LaxSlicedPacket)
    → AreWhole layers lax_layers → headers_of link layers lax_layers ≡ lax_headers_of link lax_layers
by_headers link (Err e) lax_layers are_whole = refl
by_headers link (Ok packet) lax_layers are_whole =
    headers_whole link packet lax_layers ∙ ap (lax_headers_of link) (sym (are_whole packet refl))

by_ipv4 : (layers : Result SlicedPacket SliceError) (lax_layers : Option LaxSlicedPacket)
    → AreWhole layers lax_layers → ipv4_numbers layers lax_layers ≡ lax_ipv4_numbers lax_layers
by_ipv4 (Err e) lax_layers are_whole = refl
by_ipv4 (Ok packet) lax_layers are_whole =
    sym (ipv4_whole packet.net) ∙ ap lax_ipv4_numbers (sym (are_whole packet refl))

by_ipv6 : (layers : Result SlicedPacket SliceError) (lax_layers : Option LaxSlicedPacket)
    → AreWhole layers lax_layers → ipv6_numbers layers lax_layers ≡ lax_ipv6_numbers lax_layers
by_ipv6 (Err e) lax_layers are_whole = refl
by_ipv6 (Ok packet) lax_layers are_whole =
    sym (ipv6_whole packet.net) ∙ ap lax_ipv6_numbers (sym (are_whole packet refl))

by_message : (layers : Result SlicedPacket SliceError) (lax_layers : Option LaxSlicedPacket)
    → AreWhole layers lax_layers → packet_header layers lax_layers ≡ lax_packet_header lax_layers
by_message (Err e) lax_layers are_whole = refl
by_message (Ok packet) lax_layers are_whole =
    ap (header_in packet.transport) (sym (message_whole packet.net))
    ∙ ap lax_packet_header (sym (are_whole packet refl))

by_vlans : (layers : Result SlicedPacket SliceError) (lax_layers : Option LaxSlicedPacket) (first last : ℕ)
    → AreWhole layers lax_layers → has_vlan_id layers lax_layers first last ≡ lax_has_vlan_id lax_layers first last
by_vlans (Err e) lax_layers first last are_whole = refl
by_vlans (Ok packet) lax_layers first last are_whole =
    ap (λ (ids : List ℕ). list_any (λ id. is_within first last id) ids) (sym (vlan_ids_whole packet.link_exts.items))
    ∙ ap (λ (t : Option LaxSlicedPacket). lax_has_vlan_id t first last) (sym (are_whole packet refl))

module _ (own : (bytes : List ℕ) (packet : SlicedPacket) → sliced_ethernet bytes ≡ Ok packet
    → lax_sliced_ethernet bytes ≡ Ok (whole_packet packet))
    (after : (t : EtherType) (bytes : List ℕ) (packet : SlicedPacket)
    → sliced_ether_type t bytes ≡ Ok packet → lax_sliced_ether_type t bytes ≡ whole_packet packet) where
  before_header : (layers : Result SlicedPacket SliceError) (packet : SlicedPacket)
      → fault_after_header layers ≡ Ok packet → layers ≡ Ok packet
  before_header (Ok layers) packet same = same
  before_header (Err e) packet same = grind arith

  are_whole : (header : Option Header) (bytes : List ℕ)
      → AreWhole (layers_of header bytes) (lax_layers_of header bytes)
  are_whole None bytes packet same = ap if_read (own bytes packet same)
  are_whole (Some header) bytes packet same =
      ap (λ (l : LaxSlicedPacket). Some l)
      (after (record { 0 = header.ether_type }) bytes packet (before_header _ packet same))

  pub layers_are_whole : (header : Option Header) (bytes : List ℕ) (packet : SlicedPacket)
      → layers_of header bytes ≡ Ok packet → lax_layers_of header bytes ≡ Some (whole_packet packet)
  layers_are_whole = are_whole

  pub headers_are_lax : (link : Link) (header : Option Header) (bytes : List ℕ)
      → headers_of link (layers_of header bytes) (lax_layers_of header bytes)
      ≡ lax_headers_of link (lax_layers_of header bytes)
  headers_are_lax link header bytes = by_headers link _ _ (are_whole header bytes)

  pub ipv4_is_lax : (header : Option Header) (bytes : List ℕ)
      → ipv4_numbers (layers_of header bytes) (lax_layers_of header bytes) ≡ lax_ipv4_numbers (lax_layers_of header bytes)
  ipv4_is_lax header bytes = by_ipv4 _ _ (are_whole header bytes)

  pub ipv6_is_lax : (header : Option Header) (bytes : List ℕ)
      → ipv6_numbers (layers_of header bytes) (lax_layers_of header bytes) ≡ lax_ipv6_numbers (lax_layers_of header bytes)
  ipv6_is_lax header bytes = by_ipv6 _ _ (are_whole header bytes)

  pub message_is_lax : (header : Option Header) (bytes : List ℕ)
      → packet_header (layers_of header bytes) (lax_layers_of header bytes)
      ≡ lax_packet_header (lax_layers_of header bytes)
  message_is_lax header bytes = by_message _ _ (are_whole header bytes)

  pub vlans_are_lax : (header : Option Header) (bytes : List ℕ) (first last : ℕ)
      → has_vlan_id (layers_of header bytes) (lax_layers_of header bytes) first last
      ≡ lax_has_vlan_id (lax_layers_of header bytes) first last
  vlans_are_lax header bytes first last = by_vlans _ _ first last (are_whole header bytes)
