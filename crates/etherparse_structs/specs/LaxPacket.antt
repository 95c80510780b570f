-- The struct of a packet as far as it is there: its parts, what stopped the reading, and whether bytes of
-- the payload are missing.
use Rattle.std.specs.Prelude.{ℕ, Bool, false, List, length, Option, Some, None, Result, Ok, Err}
use Rattle.std.specs.List.{slice_get}
use Rattle.std.specs.Option.{option_map}
use Rattle.etherparse.specs.base.declared.err.layer.Layer.{Layer}
use Rattle.etherparse.specs.base.declared.err.len_error.LenError.{LenError}
use Rattle.etherparse.specs.base.declared.err.slice_error.SliceError.{SliceError as HeaderSliceError}
use Rattle.etherparse.specs.base.declared.err.slice_error.SliceError.TheVariants.{Content, Len}
use Rattle.etherparse.specs.base.declared.len_source.LenSource.TheVariants.{Slice}
use Rattle.etherparse.specs.ipslice.Packet.{IpPayload}
use Rattle.etherparse.specs.ipslice.declared.err.ip.header_error.HeaderError.{HeaderError as IpHeaderError}
use Rattle.etherparse.specs.packet.LaxNetSlice.{lax_ip_payload_of}
use Rattle.etherparse.specs.packet.LaxView.{bound_after, lax_ether_payload_in}
use Rattle.etherparse.specs.packet.declared.err.packet.slice_error.SliceError.{SliceError}
use Rattle.etherparse.specs.packet.declared.err.packet.slice_error.SliceError.TheVariants as error
use Rattle.etherparse.specs.packet.declared.lax_sliced_packet.LaxSlicedPacket.{LaxSlicedPacket}
use Rattle.etherparse.specs.tag.Ether.{present_ether}
use Rattle.etherparse.specs.tag.declared.link.lax_link_ext_slice.LaxLinkExtSlice.{LaxLinkExtSlice}
use Rattle.etherparse_structs.specs.Link.{tags_end, tags_struct}
use Rattle.etherparse_structs.specs.Net.{net_fields}
use Rattle.etherparse_structs.specs.Packet.{ether_part, layers_struct, refused}
use Rattle.etherparse_structs.specs.Refusal.{layer_number, no_refusal, refusal_of}
use Rattle.etherparse_structs.specs.declared.lax_packet.EpLaxPacket.{EpLaxPacket}
use Rattle.etherparse_structs.specs.declared.packet.EpPacket.{EpPacket}
use Rattle.etherparse_structs.specs.declared.refusal.EpRefusal.{EpRefusal}

-- the offset of the packet of the network layer: after a link header of this length and the tags
abbrev pub lax_net_offset : ℕ → LaxSlicedPacket → ℕ
lax_net_offset link_len packet = tags_end link_len (slice_get packet.link_exts.items)

-- the layers that are there, after a link header of this length
abbrev pub lax_layers_struct : ℕ → LaxSlicedPacket → EpPacket
lax_layers_struct link_len packet =
    layers_struct packet.link (length packet.link_exts.items)
    (tags_struct link_len (slice_get packet.link_exts.items))
    (ether_part (lax_net_offset link_len packet)
    (option_map present_ether (lax_ether_payload_in packet)))
    (net_fields (lax_net_offset link_len packet) packet.net) packet.transport

-- what stopped the reading, and the number of the layer that was being read
abbrev pub stop_refusal : Option (SliceError × Layer) → EpRefusal
stop_refusal None = no_refusal
stop_refusal (Some stop) = refusal_of stop.0

abbrev pub stop_layer_of : Option (SliceError × Layer) → ℕ
stop_layer_of None = 0
stop_layer_of (Some stop) = layer_number stop.1

-- whether bytes are missing of the payload of an IP packet, or else of what follows the tags
abbrev pub incomplete_of : Option (Bool × IpPayload) → List LaxLinkExtSlice → Bool
incomplete_of (Some p) tags = p.0
incomplete_of None tags = (bound_after (false, Slice) tags).0

abbrev pub is_incomplete : LaxSlicedPacket → Bool
is_incomplete packet = incomplete_of (lax_ip_payload_of packet.net) packet.link_exts.items

-- a packet as far as it is there
abbrev pub lax_packet_struct : ℕ → LaxSlicedPacket → EpLaxPacket
lax_packet_struct link_len packet = record {
  packet = lax_layers_struct link_len packet;
  stop = stop_refusal packet.stop_err;
  stop_layer = stop_layer_of packet.stop_err;
  incomplete = is_incomplete packet;
}

-- one without a first header: nothing but the refusal
abbrev pub lax_refused : SliceError → EpLaxPacket
lax_refused e = record { packet = refused e; stop = no_refusal; stop_layer = 0; incomplete = false }

-- the struct of a packet, or of the refusal that this makes of the error
abbrev pub lax_reported : {E : Type 0} → ℕ → (E → SliceError) → Result LaxSlicedPacket E → EpLaxPacket
lax_reported link_len refusal (Ok packet) = lax_packet_struct link_len packet
lax_reported link_len refusal (Err e) = lax_refused (refusal e)

-- the errors of the first header as those of all layers: of Ethernet II, and of IP
abbrev pub of_len : LenError → SliceError
of_len e = error.Len e

abbrev pub of_ip_header : HeaderSliceError IpHeaderError → SliceError
of_ip_header (Len e) = error.Len e
of_ip_header (Content e) = error.Ip e
