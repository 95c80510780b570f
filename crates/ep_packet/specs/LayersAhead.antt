-- Where a packet is refused: the layers that are whole ahead of its first fault, at which reading as far as
-- the bytes are there stops, too, unless the fault is a length that it passes over.
use Rattle.std.specs.Prelude.{◌≡◌, ◌<◌, ◌≤◌, ◌||◌, ℕ, Bool, true, false, if◌then◌else◌, ⊤, List, [], ◌++◌, length, map}
use Rattle.std.specs.Prelude.{Option, Some, None, IfSome, Result, Ok, Err, IfOk, IsOkAnd}
use Rattle.ep_base.specs.LenError.{too_few_bytes}
use Rattle.ep_base.specs.declared.err.layer.Layer.{Layer}
use Rattle.ep_base.specs.declared.err.layer.Layer.TheVariants as layer
use Rattle.ep_base.specs.declared.err.len_error.LenError.{LenError}
use Rattle.ep_base.specs.declared.err.slice_error.SliceError.{SliceError as HeaderSliceError}
use Rattle.ep_base.specs.declared.len_source.LenSource.{LenSource}
use Rattle.ep_base.specs.declared.len_source.LenSource.TheVariants as source
use Rattle.ep_base.specs.declared.link.ether_type.EtherType.{EtherType}
use Rattle.ep_ext.specs.Ipv4Exts.{auth_after}
use Rattle.ep_ext.specs.declared.err.ip_auth.header_error.HeaderError.{HeaderError as AuthFault}
use Rattle.ep_ip.specs.Ipv4.{protocol_of, total_len_of, version_of}
use Rattle.ep_ip.specs.Ipv4Fault as v4
use Rattle.ep_ip.specs.Ipv6Fault as v6
use Rattle.ep_ip.specs.declared.err.ipv4.header_error.HeaderError.{HeaderError as Ipv4HeaderFault}
use Rattle.ep_ip.specs.declared.err.ipv6.header_error.HeaderError.{HeaderError as Ipv6HeaderFault}
use Rattle.ep_ipslice.specs.IpSlice as ip_fault
use Rattle.ep_ipslice.specs.Ipv4Packet.{body_of, ipv4_packet_at, of_auth_fault}
use Rattle.ep_ipslice.specs.Ipv6Exts.{view_order}
use Rattle.ep_ipslice.specs.Ipv6Fault.{IsRowFault}
use Rattle.ep_ipslice.specs.Ipv6Packet.{ipv6_packet_at, ipv6_packet_of}
use Rattle.ep_ipslice.specs.LaxPackets.{LaxIpv4Packet, LaxIpv6Packet}
use Rattle.ep_ipslice.specs.Packet.{Ipv4Packet, Ipv6Packet, ipv4_payload}
use Rattle.ep_ipslice.specs.declared.err.ip.header_error.HeaderError.{HeaderError as IpHeaderFault}
use Rattle.ep_ipslice.specs.declared.err.ipv6.slice_error.SliceError.{SliceError as Ipv6Fault}
use Rattle.ep_link.specs.Arp as arp
use Rattle.ep_link.specs.Ethernet.{ethernet_len, payload_of}
use Rattle.ep_link.specs.Frame.{without_fcs}
use Rattle.ep_link.specs.Sll.{sll_len}
use Rattle.ep_link.specs.SllPayload as sll
use Rattle.ep_link.specs.declared.err.linux_sll.header_error.HeaderError.{HeaderError as SllFault}
use Rattle.ep_link.specs.declared.link.link_slice.LinkSlice.{LinkSlice}
use Rattle.ep_link.specs.declared.link.link_slice.LinkSlice.TheVariants as link
use Rattle.ep_packet.specs.FrameFault as frame_fault
use Rattle.ep_packet.specs.FrameFault.{IsCookedFault, IsFaultAfter, IsFrameFault, IsIpPacketFault, IsLayersFault}
use Rattle.ep_packet.specs.FrameFault.{IsPayloadFault, IsTagFault}
use Rattle.ep_packet.specs.IsTagged.{AreTags, IsTagged}
use Rattle.ep_packet.specs.LaxSliced.{message_layer, of_ipv4_header, of_ipv6_header}
use Rattle.ep_packet.specs.LaxTags.{Stop, stop_by}
use Rattle.ep_packet.specs.LaxWhole.{whole_net, whole_packet, whole_tag}
use Rattle.ep_packet.specs.NetSlice.{of_ip as net_of}
use Rattle.ep_packet.specs.Parts.{headers_len, tags_len}
use Rattle.ep_packet.specs.SliceFault.{of_ipv4, of_ipv6, offset_by}
use Rattle.ep_packet.specs.Sliced.{arp_type, ipv4_type, ipv6_type}
use Rattle.ep_packet.specs.Tags.{most_tags}
use Rattle.ep_packet.specs.declared.err.packet.slice_error.SliceError.{SliceError}
use Rattle.ep_packet.specs.declared.err.packet.slice_error.SliceError.TheVariants.{Len}
use Rattle.ep_packet.specs.declared.lax_sliced_packet.LaxSlicedPacket.{LaxSlicedPacket}
use Rattle.ep_packet.specs.declared.net.lax_net_slice.LaxNetSlice.{LaxNetSlice}
use Rattle.ep_packet.specs.declared.net.lax_net_slice.LaxNetSlice.TheVariants as lax_net
use Rattle.ep_packet.specs.declared.net.net_slice.NetSlice.{NetSlice}
use Rattle.ep_packet.specs.declared.net.net_slice.NetSlice.TheVariants as net
use Rattle.ep_tag.specs.Ether.{EtherPayload}
use Rattle.ep_tag.specs.Vlan.{is_vlan_type}
use Rattle.ep_tag.specs.declared.link.lax_link_ext_slice.LaxLinkExtSlice.{LaxLinkExtSlice}
use Rattle.ep_tag.specs.declared.link.link_ext_slice.LinkExtSlice.{LinkExtSlice}
use Rattle.ep_tcpudp.specs.UdpFault.{udp_at}

-- packets and datagrams whose payload a length field counts
abbrev pub counts_payload : Layer → Bool
counts_payload layer.MacsecPacket = true
counts_payload layer.Ipv4Packet = true
counts_payload layer.Ipv6Packet = true
counts_payload layer.UdpPayload = true
counts_payload other = false

abbrev pub is_udp_length : LenSource → Bool
is_udp_length source.UdpHeaderLen = true
is_udp_length other = false

-- such a length counts more bytes than are there, or one of IPv4 or UDP fewer than its own header: reading
-- as far as the bytes are there goes on after such a fault
abbrev pub is_passed_over : SliceError → Bool
is_passed_over (Len e) = counts_payload e.layer || is_udp_length e.len_source
is_passed_over other = false

-- what stopped, if anything did, isn't passed over
abbrev pub NoLengthStopped : Option Stop → Type 0
NoLengthStopped stop = IfSome stop (λ s. is_passed_over s.0 ≡ false)

-- the layer of the tag that an ether type names
abbrev pub tag_layer : EtherType → Layer
tag_layer t = if is_vlan_type t then layer.VlanHeader else layer.MacsecHeader

-- an IPv4 packet is there with all bytes that its total length counts, and the authentication header that
-- its header names has this fault
pub record IsAuthFault (bytes header : List ℕ) (fault : HeaderSliceError AuthFault) : Type 0 where
  pub read : v4.header_at bytes ≡ Ok header
  pub counted : length header ≤ total_len_of header
  pub there : total_len_of header ≤ length bytes
  pub auth : auth_after (protocol_of header) (body_of header bytes) ≡ Err fault

-- what is whole of an IPv4 packet ahead of a fault after its header that isn't passed over, and this fault
-- with its layer: the packet without its authentication header, or all of it, where the fault is in its
-- message
pub data IsIpv4Ahead (bytes : List ℕ) (ahead : Ipv4Packet) (stop : Stop) : Type 0 where
  InAuth : (header : List ℕ) (fault : HeaderSliceError AuthFault) → IsAuthFault bytes header fault
      → ahead ≡ record { header = header; auth = None; payload = body_of header bytes }
      → stop ≡ (of_ipv4 (of_auth_fault (length header) fault), layer.IpAuthHeader)
      → IsIpv4Ahead bytes ahead stop
  InMessage : (fault : SliceError) → ipv4_packet_at bytes ≡ Ok ahead
      → IsPayloadFault udp_at (headers_len (Some (net.Ipv4 ahead))) (ipv4_payload ahead) fault
      → stop ≡ (fault, message_layer (ipv4_payload ahead).ip_number.0) → IsIpv4Ahead bytes ahead stop

-- the same of an IPv6 packet: with the extension headers ahead of one that has a fault, or all of it
pub data IsIpv6Ahead (bytes : List ℕ) (ahead : Ipv6Packet) (stop : Stop) : Type 0 where
  InExtensions : (header : List ℕ) (fault : Ipv6Fault) → v6.header_at bytes ≡ Ok header
      → (row : IsRowFault view_order bytes header fault)
      → ahead ≡ ipv6_packet_of bytes header row.pieces → stop ≡ (of_ipv6 fault, row.fault.1)
      → IsIpv6Ahead bytes ahead stop
  InMessage : (fault : SliceError) → ipv6_packet_at bytes ≡ Ok ahead
      → IsPayloadFault udp_at (headers_len (Some (net.Ipv6 ahead))) ahead.payload fault
      → stop ≡ (fault, message_layer ahead.payload.ip_number.0) → IsIpv6Ahead bytes ahead stop

-- what is whole of what an ether type names ahead of a first fault that isn't passed over: nothing, where
-- the fault is in the header of IP or in ARP
pub data IsNetAhead (t : EtherType) (bytes : List ℕ) (ahead : Option NetSlice) (stop : Stop) : Type 0 where
  InIpv4Header : (fault : HeaderSliceError Ipv4HeaderFault) → t.0 ≡ ipv4_type
      → v4.header_at bytes ≡ Err fault → ahead ≡ None
      → stop ≡ (of_ipv4_header fault, layer.Ipv4Header) → IsNetAhead t bytes ahead stop
  InIpv4 : (packet : Ipv4Packet) → t.0 ≡ ipv4_type → IsIpv4Ahead bytes packet stop
      → ahead ≡ Some (net.Ipv4 packet) → IsNetAhead t bytes ahead stop
  InIpv6Header : (fault : HeaderSliceError Ipv6HeaderFault) → t.0 ≡ ipv6_type
      → v6.header_at bytes ≡ Err fault → ahead ≡ None
      → stop ≡ (of_ipv6_header fault, layer.Ipv6Header) → IsNetAhead t bytes ahead stop
  InIpv6 : (packet : Ipv6Packet) → t.0 ≡ ipv6_type → IsIpv6Ahead bytes packet stop
      → ahead ≡ Some (net.Ipv6 packet) → IsNetAhead t bytes ahead stop
  InArp : (fault : LenError) → t.0 ≡ arp_type → arp.packet_at bytes ≡ Err fault → ahead ≡ None
      → stop ≡ (Len fault, layer.Arp) → IsNetAhead t bytes ahead stop

-- the layers of what an ether type names ahead of a first fault that isn't passed over: the tags ahead of
-- one that has a fault, or all tags and what is whole of what the last of them names
pub data AreAhead (p : EtherPayload) (tags : List LinkExtSlice) (ahead : Option NetSlice)
    (stop : Stop) : Type 0 where
  InTag : (q : EtherPayload) (fault : SliceError) → length tags < most_tags → AreTags p tags (Some q)
      → IsTagFault q fault → ahead ≡ None
      → stop ≡ (offset_by (tags_len tags) fault, tag_layer q.ether_type) → AreAhead p tags ahead stop
  InLayers : (q : EtherPayload) (fault : Stop) → IsTagged most_tags p tags (Some q)
      → IsNetAhead q.ether_type q.payload ahead fault → stop ≡ stop_by (tags_len tags) fault
      → AreAhead p tags ahead stop

-- link header, tags and packet of the network layer, of which nothing is missing, and what stopped after
-- them
abbrev pub stopped_packet : Option LinkSlice → List LinkExtSlice → Option NetSlice → Stop → LaxSlicedPacket
stopped_packet header tags ahead stop = record (whole_packet (record {
  link = header;
  link_exts = record { items = tags };
  net = ahead;
  transport = None;
})) { stop_err = Some stop }

-- after this link header of so many bytes, the packet has exactly the layers ahead of its first fault, and
-- what stopped is this fault, with its layer
pub record StopsAfter (header : LinkSlice) (n : ℕ) (p : EtherPayload) (e : SliceError)
    (packet : LaxSlicedPacket) : Type 0 where
  pub tags : List LinkExtSlice
  pub ahead : Option NetSlice
  pub stop : Stop
  pub layers : AreAhead p tags ahead stop
  pub fault : e ≡ offset_by n stop.0
  pub stopped : packet ≡ stopped_packet (Some header) tags ahead (e, stop.1)

-- the same after the header of a Linux cooked capture, whose protocol is an ether type
pub record StopsCooked (bytes : List ℕ) (e : SliceError) (packet : LaxSlicedPacket) : Type 0 where
  pub p : EtherPayload
  pub named : sll.named_payload (sll.payload_of bytes) ≡ Some p
  pub stops : StopsAfter (link.LinuxSll bytes) sll_len p e packet

-- what is whole of an IP packet, of the version in its first byte, ahead of a fault after its header that
-- isn't passed over
pub data IsIpAhead (bytes : List ℕ) (ahead : NetSlice) (stop : Stop) : Type 0 where
  InIpv4 : (packet : Ipv4Packet) → version_of bytes ≡ 4 → IsIpv4Ahead bytes packet stop
      → ahead ≡ net.Ipv4 packet → IsIpAhead bytes ahead stop
  InIpv6 : (packet : Ipv6Packet) → version_of bytes ≡ 6 → IsIpv6Ahead bytes packet stop
      → ahead ≡ net.Ipv6 packet → IsIpAhead bytes ahead stop

-- an IP packet has exactly what is whole ahead of its first fault, and this fault stopped it
pub record StopsIp (bytes : List ℕ) (e : SliceError) (packet : LaxSlicedPacket) : Type 0 where
  pub ahead : NetSlice
  pub stop : Stop
  pub layers : IsIpAhead bytes ahead stop
  pub fault : e ≡ stop.0
  pub stopped : packet ≡ stopped_packet None [] (Some ahead) stop

-- the packet of this IPv4 header is there, as far as it goes
abbrev pub HasIpv4 : List ℕ → Option LaxNetSlice → Type 0
HasIpv4 header found =
    (packet : LaxIpv4Packet) × (packet.header ≡ header) × (found ≡ Some (lax_net.Ipv4 packet))

-- the same of IPv6
abbrev pub HasIpv6 : List ℕ → Option LaxNetSlice → Type 0
HasIpv6 header found =
    (packet : LaxIpv6Packet) × (packet.header ≡ header) × (found ≡ Some (lax_net.Ipv6 packet))

-- whether the fault is passed over or not: where it is in the message of a whole packet of the network
-- layer, this packet is there; and where it is in an IP packet whose header has no fault, this header is
abbrev pub HasNetAhead : (t : EtherType) (bytes : List ℕ) (e : SliceError) → IsLayersFault t bytes e
    → Option LaxNetSlice → Type 0
HasNetAhead t bytes e (frame_fault.InNet (frame_fault.OfIpv4 f named read error)) found =
    IfOk (v4.header_at bytes) (λ header. HasIpv4 header found)
HasNetAhead t bytes e (frame_fault.InNet (frame_fault.OfIpv6 f named is error)) found =
    IfOk (v6.header_at bytes) (λ header. HasIpv6 header found)
HasNetAhead t bytes e (frame_fault.InNet (frame_fault.OfArp f named read error)) found = ⊤
HasNetAhead t bytes e (frame_fault.InIpv4 packet named read f) found =
    found ≡ Some (whole_net (net.Ipv4 packet))
HasNetAhead t bytes e (frame_fault.InIpv6 packet named read f) found =
    found ≡ Some (whole_net (net.Ipv6 packet))

-- and so are the whole tags ahead of it, before others if it is in a tag
abbrev pub HasLayersAhead : (p : EtherPayload) (e : SliceError) → IsFaultAfter IsLayersFault p e
    → LaxSlicedPacket → Type 0
HasLayersAhead p e (frame_fault.InTag tags q f few are is error) packet =
    (more : List LaxLinkExtSlice) × (packet.link_exts.items ≡ map whole_tag tags ++ more)
HasLayersAhead p e (frame_fault.InLayers tags q f tagged is error) packet =
    (packet.link_exts.items ≡ map whole_tag tags)
    × HasNetAhead q.ether_type q.payload f is packet.net

-- the same with the link header, without which nothing is there
abbrev pub HasFrameAhead : (frame : List ℕ) (e : SliceError) → IsFrameFault frame e
    → Result LaxSlicedPacket LenError → Type 0
HasFrameAhead frame e (frame_fault.InHeader short error) r =
    r ≡ Err (too_few_bytes layer.Ethernet2Header ethernet_len (length frame))
HasFrameAhead frame e (frame_fault.Following f size after error) r = IsOkAnd r (λ packet.
    (packet.link ≡ Some (link.Ethernet2 (without_fcs frame)))
    × HasLayersAhead (payload_of frame) f after packet)

abbrev pub HasCookedAhead : (bytes : List ℕ) (e : SliceError) → IsCookedFault bytes e
    → Result LaxSlicedPacket (HeaderSliceError SllFault) → Type 0
HasCookedAhead bytes e (frame_fault.InHeader f read error) r = r ≡ Err f
HasCookedAhead bytes e (frame_fault.Following p f read named after error) r = IsOkAnd r (λ packet.
    (packet.link ≡ Some (link.LinuxSll bytes)) × HasLayersAhead p f after packet)

abbrev pub HasIpAhead : (bytes : List ℕ) (e : SliceError) → IsIpPacketFault bytes e
    → Result LaxSlicedPacket (HeaderSliceError IpHeaderFault) → Type 0
HasIpAhead bytes e (frame_fault.InPacket f (ip_fault.NoBytes none is) error) r = ⊤
HasIpAhead bytes e (frame_fault.InPacket f (ip_fault.OtherVersion some not4 not6 is) error) r = ⊤
HasIpAhead bytes e (frame_fault.InPacket f (ip_fault.OfIpv4 x version read is) error) r =
    IfOk (v4.header_at bytes) (λ header. IsOkAnd r (λ found. HasIpv4 header found.net))
HasIpAhead bytes e (frame_fault.InPacket f (ip_fault.OfIpv6 x version at is) error) r =
    IfOk (v6.header_at bytes) (λ header. IsOkAnd r (λ found. HasIpv6 header found.net))
HasIpAhead bytes e (frame_fault.InMessage packet read f) r =
    IsOkAnd r (λ found. found.net ≡ Some (whole_net (net_of packet)))
