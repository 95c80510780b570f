-- Packets of which the first bytes are there, and all headers among them.
use Rattle.std.specs.Prelude.{ℕ, ◌+◌, ◌-◌, List, [], ◌∷◌, Option, Some, None, take}
use Rattle.std.specs.Option.{option_map}
use Rattle.ep_ipslice.specs.CutPackets.{cut_ipv4, cut_ipv6}
use Rattle.ep_link.specs.Ethernet.{ethernet_len}
use Rattle.ep_link.specs.Frame.{without_fcs}
use Rattle.ep_link.specs.Sll.{sll_len}
use Rattle.ep_link.specs.declared.link.link_slice.LinkSlice.{LinkSlice}
use Rattle.ep_link.specs.declared.link.link_slice.LinkSlice.TheVariants as link
use Rattle.ep_packet.specs.LaxCut.{message_header_len}
use Rattle.ep_packet.specs.Parts.{headers_len, tags_len}
use Rattle.ep_packet.specs.Readable.{ReadMessage}
use Rattle.ep_packet.specs.Readable as read
use Rattle.ep_packet.specs.declared.lax_sliced_packet.LaxSlicedPacket.{LaxSlicedPacket}
use Rattle.ep_packet.specs.declared.net.lax_net_slice.LaxNetSlice.{LaxNetSlice}
use Rattle.ep_packet.specs.declared.net.lax_net_slice.LaxNetSlice.TheVariants as lax_net
use Rattle.ep_packet.specs.declared.net.net_slice.NetSlice.{NetSlice}
use Rattle.ep_packet.specs.declared.net.net_slice.NetSlice.TheVariants as net
use Rattle.ep_packet.specs.declared.sliced_packet.SlicedPacket.{SlicedPacket}
use Rattle.ep_packet.specs.declared.transport.transport_slice.TransportSlice.{TransportSlice}
use Rattle.ep_packet.specs.declared.transport.transport_slice.TransportSlice.TheVariants.{Icmpv4, Icmpv6, Tcp, Udp}
use Rattle.ep_tag.specs.CutTags.{cut_tag}
use Rattle.ep_tag.specs.LinkExt.{tag_len}
use Rattle.ep_tag.specs.declared.link.lax_link_ext_slice.LaxLinkExtSlice.{LaxLinkExtSlice}
use Rattle.ep_tag.specs.declared.link.link_ext_slice.LinkExtSlice.{LinkExtSlice}

-- how many bytes the link header has; there is none before an ether type's payload
abbrev pub link_len : Option LinkSlice → ℕ
link_len None = 0
link_len (Some (link.Ethernet2 frame)) = ethernet_len
link_len (Some (link.LinuxSll bytes)) = sll_len
link_len (Some (link.EtherPayload p)) = 0
link_len (Some (link.LinuxSllPayload p)) = 0

-- a message of the transport layer as it was read
abbrev pub message_of : TransportSlice → ReadMessage
message_of (Icmpv4 m) = read.Icmpv4 m
message_of (Tcp m) = read.Tcp m
message_of (Udp m) = read.Udp m
message_of (Icmpv6 m) = read.Icmpv6 m

abbrev pub transport_len : Option TransportSlice → ℕ
transport_len None = 0
transport_len (Some m) = message_header_len (message_of m)

-- how many bytes follow the link header up to the end of the last header that is read; of ARP that is the
-- whole packet
abbrev pub len_after_link : SlicedPacket → ℕ
len_after_link packet = tags_len packet.link_exts.items
    + (headers_len packet.net + transport_len packet.transport)

-- all headers
abbrev pub all_headers_len : SlicedPacket → ℕ
all_headers_len packet = link_len packet.link + len_after_link packet

-- the first n bytes of each layer and of what follows it
abbrev pub cut_link : ℕ → LinkSlice → LinkSlice
cut_link n (link.Ethernet2 frame) = link.Ethernet2 (without_fcs (take n frame.bytes))
cut_link n (link.LinuxSll bytes) = link.LinuxSll (take n bytes)
cut_link n (link.EtherPayload p) = link.EtherPayload (record p { payload = take n p.payload })
cut_link n (link.LinuxSllPayload p) = link.LinuxSllPayload (record p { payload = take n p.payload })

abbrev pub cut_tags : ℕ → List LinkExtSlice → List LaxLinkExtSlice
cut_tags n [] = []
cut_tags n (t ∷ tags) = cut_tag n t ∷ cut_tags (n - tag_len t) tags

abbrev pub cut_net : ℕ → NetSlice → LaxNetSlice
cut_net n (net.Ipv4 packet) = lax_net.Ipv4 (cut_ipv4 n packet)
cut_net n (net.Ipv6 packet) = lax_net.Ipv6 (cut_ipv6 n packet)
cut_net n (net.Arp packet) = lax_net.Arp packet

abbrev pub cut_transport : ℕ → TransportSlice → TransportSlice
cut_transport n (Icmpv4 m) = Icmpv4 (take n m)
cut_transport n (Tcp m) = Tcp (take n m)
cut_transport n (Udp m) = Udp (take n m)
cut_transport n (Icmpv6 m) = Icmpv6 (take n m)

-- a packet of which n bytes after this link header are there
abbrev pub cut_after : ℕ → Option LinkSlice → SlicedPacket → LaxSlicedPacket
cut_after n header packet = record {
  link = header;
  link_exts = record { items = cut_tags n packet.link_exts.items };
  net = option_map (cut_net (n - tags_len packet.link_exts.items)) packet.net;
  transport = option_map
      (cut_transport (n - tags_len packet.link_exts.items - headers_len packet.net)) packet.transport;
  stop_err = None;
}

-- the first n bytes of a packet
abbrev pub cut_packet : ℕ → SlicedPacket → LaxSlicedPacket
cut_packet n packet = cut_after (n - link_len packet.link) (option_map (cut_link n) packet.link) packet
