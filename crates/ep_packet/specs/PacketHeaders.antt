-- The headers of a frame, or of a packet in one, and the payload after them.
use Rattle.std.specs.Prelude.{ℕ, List, [], ◌∷◌, length, Option, Some, None, Result, Ok, Err, map}
use Rattle.ep_base.specs.declared.err.layer.Layer.TheVariants.{Ethernet2Header}
use Rattle.ep_base.specs.declared.err.len_error.LenError.{LenError}
use Rattle.ep_base.specs.declared.len_source.LenSource.TheVariants.{Slice}
use Rattle.ep_base.specs.declared.link.ether_type.EtherType.{EtherType}
use Rattle.ep_link.specs.Ethernet.{ethernet_len, ethernet_header_of, payload_of}
use Rattle.ep_link.specs.declared.link.link_header.LinkHeader.{LinkHeader}
use Rattle.ep_link.specs.declared.link.link_header.LinkHeader.TheVariants.{Ethernet2}
use Rattle.ep_packet.specs.HeaderLayers.{HeaderLayers, ip_layers, layers_of, payload_alone}
use Rattle.ep_packet.specs.IpHeadersAt.{ip_headers_at}
use Rattle.ep_packet.specs.PacketView.{last_of, source_after}
use Rattle.ep_packet.specs.Payload.{Payload, Empty, MacsecMod, payload_parsed}
use Rattle.ep_packet.specs.SliceFault.{later}
use Rattle.ep_packet.specs.Tags.{Tagged, most_tags, tags_in}
use Rattle.ep_packet.specs.declared.err.packet.slice_error.SliceError.{SliceError}
use Rattle.ep_packet.specs.declared.err.packet.slice_error.SliceError.TheVariants.{Len}
use Rattle.ep_packet.specs.declared.net.net_headers.NetHeaders.{NetHeaders}
use Rattle.ep_packet.specs.declared.packet_headers.PacketHeaders.{PacketHeaders}
use Rattle.ep_packet.specs.declared.transport.transport_header.TransportHeader.{TransportHeader}
use Rattle.ep_tag.specs.Ether.{EtherPayload}
use Rattle.ep_tag.specs.Prefix.{whole_at}
use Rattle.ep_tag.specs.LinkExt.{fields_of}
use Rattle.ep_tag.specs.MacsecPayload.{MacsecPayload, Modified, Unmodified}
use Rattle.ep_tag.specs.declared.link.link_ext_header.LinkExtHeader.{LinkExtHeader}
use Rattle.ep_tag.specs.declared.link.link_ext_header.LinkExtHeader.TheVariants as header
use Rattle.ep_tag.specs.declared.link.link_ext_slice.LinkExtSlice.{LinkExtSlice}
use Rattle.ep_tag.specs.declared.link.link_ext_slice.LinkExtSlice.TheVariants.{Vlan, Macsec}
use Rattle.ep_tag.specs.declared.link.single_vlan_header.SingleVlanHeader.{SingleVlanHeader}
use Rattle.ep_tag.specs.declared.link.vlan_header.VlanHeader.{VlanHeader}
use Rattle.ep_tag.specs.declared.link.vlan_header.VlanHeader.TheVariants.{Single, Double}

pub record Headers : Type 0 where
  pub link : Option LinkHeader
  pub link_exts : List LinkExtHeader
  pub net : Option NetHeaders
  pub transport : Option TransportHeader
  pub payload : Payload

-- the value of headers with a borrowed payload
abbrev pub headers_parsed : PacketHeaders → Headers
headers_parsed h = record {
  link = h.link;
  link_exts = h.link_exts.items;
  net = h.net;
  transport = h.transport;
  payload = payload_parsed h.payload;
}

abbrev pub result_parsed : Result PacketHeaders SliceError → Result Headers SliceError
result_parsed (Ok h) = Ok (headers_parsed h)
result_parsed (Err e) = Err e

-- the modified payload of a MACsec header
abbrev pub modified_payload : MacsecPayload → Payload
modified_payload (Unmodified p) = Empty
modified_payload (Modified bytes) = MacsecMod bytes

abbrev pub modified_after : Option LinkExtSlice → Payload
modified_after None = Empty
modified_after (Some (Vlan bytes)) = Empty
modified_after (Some (Macsec m)) = modified_payload m.payload

-- the layers after tags. The tags' short lengths bound what the last ether type names; if there is
-- no such ether type, the payload is the modified one of the last MACsec header.
abbrev pub layers_after : List LinkExtSlice → Option EtherPayload → Result HeaderLayers SliceError
layers_after tags None = Ok (payload_alone (modified_after (last_of tags)))
layers_after tags (Some p) = layers_of (record p { len_source = source_after tags })

-- all headers together
abbrev pub headers_of : Option LinkHeader → List LinkExtSlice → HeaderLayers → Headers
headers_of link tags layers = record {
  link = link;
  link_exts = map fields_of tags;
  net = layers.net;
  transport = layers.transport;
  payload = layers.payload;
}

abbrev pub headers_with : Option LinkHeader → List LinkExtSlice → Result HeaderLayers SliceError
    → Result Headers SliceError
headers_with link tags (Ok layers) = Ok (headers_of link tags layers)
headers_with link tags (Err e) = Err e

abbrev pub headers_tagged : Option LinkHeader → Result Tagged SliceError → Result Headers SliceError
headers_tagged link (Ok t) = headers_with link t.tags (later t.len (layers_after t.tags t.last))
headers_tagged link (Err e) = Err e

-- the headers of what an ether type names, after this link header
abbrev pub headers_after : Option LinkHeader → EtherPayload → Result Headers SliceError
headers_after link p = headers_tagged link (tags_in most_tags p)

abbrev pub in_frame : Result (List ℕ) LenError → Result Headers SliceError
in_frame (Ok frame) = later ethernet_len
    (headers_after (Some (Ethernet2 (ethernet_header_of frame))) (payload_of frame))
in_frame (Err e) = Err (Len e)

-- those of an Ethernet II frame, or the first fault with its offset in the frame
abbrev pub ethernet_headers : List ℕ → Result Headers SliceError
ethernet_headers frame = in_frame (whole_at Ethernet2Header ethernet_len frame)

-- those of the bytes after an ether type
abbrev pub ether_type_headers : EtherType → List ℕ → Result Headers SliceError
ether_type_headers t bytes = headers_after None
    (record { ether_type = t; len_source = Slice; payload = bytes })

-- those of an IP packet of either version
abbrev pub ip_packet_headers : List ℕ → Result Headers SliceError
ip_packet_headers bytes = headers_with None [] (ip_layers (length bytes) (ip_headers_at bytes))

-- the VLAN tags, the outer one first
abbrev pub vlan_headers : List LinkExtHeader → List SingleVlanHeader
vlan_headers [] = []
vlan_headers (header.Vlan h ∷ tags) = h ∷ vlan_headers tags
vlan_headers (header.Macsec h ∷ tags) = vlan_headers tags

-- the first two of them
abbrev pub vlan_header_of : List SingleVlanHeader → Option VlanHeader
vlan_header_of [] = None
vlan_header_of (tag ∷ []) = Some (Single tag)
vlan_header_of (outer ∷ inner ∷ tags) = Some (Double (record { outer = outer; inner = inner }))

-- their identifiers
abbrev pub ids_in : List LinkExtHeader → List ℕ
ids_in tags = map (λ (h : SingleVlanHeader). h.vlan_id) (vlan_headers tags)
