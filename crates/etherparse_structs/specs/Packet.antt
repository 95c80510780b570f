-- The struct of a packet: the parts that it was sliced into, as fields and numbers.
use Rattle.std.specs.Prelude.{ℕ, [], ◌∷◌, List, length, Option, Some, None, Result, Ok, Err}
use Rattle.std.specs.Option.{option_map}
use Rattle.etherparse.specs.link.declared.link.link_slice.LinkSlice.{LinkSlice}
use Rattle.etherparse.specs.packet.LaxWhole.{whole_net}
use Rattle.etherparse.specs.packet.PacketView.{ether_payload_in}
use Rattle.etherparse.specs.packet.declared.err.packet.slice_error.SliceError.{SliceError}
use Rattle.etherparse.specs.packet.declared.sliced_packet.SlicedPacket.{SlicedPacket}
use Rattle.etherparse.specs.packet.declared.transport.transport_slice.TransportSlice.{TransportSlice}
use Rattle.etherparse.specs.tag.Ether.{EtherPayload}
use Rattle.etherparse_structs.specs.Link.{link_struct, no_tag, tags_end, tags_struct, whole_tag_in}
use Rattle.etherparse_structs.specs.Net.{net_fields}
use Rattle.etherparse_structs.specs.Part.{no_part, part_at}
use Rattle.etherparse_structs.specs.Refusal.{no_refusal, refusal_of}
use Rattle.etherparse_structs.specs.Transport.{icmp_struct_in, tcp_struct_in, transport_number, udp_struct_in}
use Rattle.etherparse_structs.specs.declared.link.EpTag.{EpTag}
use Rattle.etherparse_structs.specs.declared.net.NetFields.{NetFields}
use Rattle.etherparse_structs.specs.declared.packet.EpPacket.{EpPacket}
use Rattle.etherparse_structs.specs.declared.part.EpPart.{EpPart}

-- each layer by its own struct
abbrev pub layers_struct : Option LinkSlice → (tag_count : ℕ) → List EpTag → EpPart → NetFields
    → Option TransportSlice → EpPacket
layers_struct header tag_count tags ether_payload net message = record {
  refusal = no_refusal;
  link = link_struct header;
  tag_count = tag_count;
  tags = tags;
  ether_payload = ether_payload;
  net = net.number;
  transport = transport_number message;
  ipv4 = net.ipv4;
  ipv6 = net.ipv6;
  arp = net.arp;
  udp = udp_struct_in net.message_offset message;
  tcp = tcp_struct_in net.message_offset message;
  icmp = icmp_struct_in net.message_offset message;
}

-- no layer
abbrev pub no_layers : EpPacket
no_layers = layers_struct None 0 (no_tag ∷ no_tag ∷ no_tag ∷ []) no_part (net_fields 0 None) None

-- a refused packet: nothing but the refusal
abbrev pub refused : SliceError → EpPacket
refused e = record no_layers { refusal = refusal_of e }

abbrev pub ether_part : ℕ → Option EtherPayload → EpPart
ether_part place None = no_part
ether_part place (Some p) = part_at place p.payload

-- the offset of the packet of the network layer: after a link header of this length and the tags
abbrev pub net_offset : ℕ → SlicedPacket → ℕ
net_offset link_len packet = tags_end link_len (whole_tag_in packet.link_exts.items)

-- the layers of a packet after a link header of this length
abbrev pub packet_struct : ℕ → SlicedPacket → EpPacket
packet_struct link_len packet =
    layers_struct packet.link (length packet.link_exts.items)
    (tags_struct link_len (whole_tag_in packet.link_exts.items))
    (ether_part (net_offset link_len packet) (ether_payload_in packet))
    (net_fields (net_offset link_len packet) (option_map whole_net packet.net)) packet.transport

-- the struct of a packet, or of its refusal
abbrev pub reported : ℕ → Result SlicedPacket SliceError → EpPacket
reported link_len (Ok packet) = packet_struct link_len packet
reported link_len (Err e) = refused e
