-- A whole packet as one that is there as far as it goes: the same layers, of which nothing is missing.
use Rattle.std.specs.Prelude.{map, None}
use Rattle.std.specs.Option.{option_map}
use Rattle.ep_ipslice.specs.LaxPackets.{whole_ipv4, whole_ipv6}
use Rattle.ep_packet.specs.declared.lax_sliced_packet.LaxSlicedPacket.{LaxSlicedPacket}
use Rattle.ep_packet.specs.declared.net.lax_net_slice.LaxNetSlice.{LaxNetSlice}
use Rattle.ep_packet.specs.declared.net.lax_net_slice.LaxNetSlice.TheVariants as lax_net
use Rattle.ep_packet.specs.declared.net.net_slice.NetSlice.{NetSlice}
use Rattle.ep_packet.specs.declared.net.net_slice.NetSlice.TheVariants as net
use Rattle.ep_packet.specs.declared.sliced_packet.SlicedPacket.{SlicedPacket}
use Rattle.ep_tag.specs.MacsecLax.{complete}
use Rattle.ep_tag.specs.declared.link.lax_link_ext_slice.LaxLinkExtSlice.{LaxLinkExtSlice}
use Rattle.ep_tag.specs.declared.link.lax_link_ext_slice.LaxLinkExtSlice.TheVariants as lax_tag
use Rattle.ep_tag.specs.declared.link.link_ext_slice.LinkExtSlice.{LinkExtSlice}
use Rattle.ep_tag.specs.declared.link.link_ext_slice.LinkExtSlice.TheVariants as tag

abbrev pub whole_tag : LinkExtSlice → LaxLinkExtSlice
whole_tag (tag.Vlan bytes) = lax_tag.Vlan bytes
whole_tag (tag.Macsec macsec) = lax_tag.Macsec (complete macsec)

abbrev pub whole_net : NetSlice → LaxNetSlice
whole_net (net.Ipv4 packet) = lax_net.Ipv4 (whole_ipv4 packet)
whole_net (net.Ipv6 packet) = lax_net.Ipv6 (whole_ipv6 packet)
whole_net (net.Arp packet) = lax_net.Arp packet

abbrev pub whole_packet : SlicedPacket → LaxSlicedPacket
whole_packet packet = record {
  link = packet.link;
  link_exts = record { items = map whole_tag packet.link_exts.items };
  net = option_map whole_net packet.net;
  transport = packet.transport;
  stop_err = None;
}
