-- Why a frame is refused: the first fault in the order of its layers. It has the layer, how many
-- bytes that layer needs and how many are there, by which length field, and the offset in the
-- frame.
use Rattle.std.specs.Prelude.{◌≡◌, ◌<◌, ◌≤◌, ◌+◌, ◌-◌, ℕ, true, false, List, length, Some, Result, Ok, Err}
use Rattle.ep_base.specs.LenError.{too_few_bytes}
use Rattle.ep_base.specs.declared.err.layer.Layer.TheVariants.{Ethernet2Header, VlanHeader}
use Rattle.ep_base.specs.declared.err.len_error.LenError.{LenError}
use Rattle.ep_base.specs.declared.err.slice_error.SliceError.{SliceError as HeaderSliceError}
use Rattle.ep_base.specs.declared.link.ether_type.EtherType.{EtherType}
use Rattle.ep_ext.specs.Slot.{Order, slot_of}
use Rattle.ep_icmp.specs.Icmpv4Fault as icmpv4_fault
use Rattle.ep_icmp.specs.Icmpv6Fault as icmpv6_fault
use Rattle.ep_ipslice.specs.IpSlice.{IsIpFault, ip_packet_at, payload_of as ip_payload_of}
use Rattle.ep_ipslice.specs.Ipv4Packet.{ipv4_packet_at}
use Rattle.ep_ipslice.specs.Ipv6Exts.{view_order}
use Rattle.ep_ipslice.specs.Ipv6Fault.{IsFaultIn}
use Rattle.ep_ipslice.specs.Ipv6Packet.{ipv6_packet_at}
use Rattle.ep_ipslice.specs.Packet.{IpPayload, Ipv4Packet, Ipv6Packet, ipv4_payload}
use Rattle.ep_ipslice.specs.declared.err.ip.headers_slice_error.HeadersSliceError.{HeadersSliceError}
use Rattle.ep_ipslice.specs.declared.err.ip.slice_error.SliceError.{SliceError as IpFault}
use Rattle.ep_ipslice.specs.declared.err.ipv4.slice_error.SliceError.{SliceError as Ipv4Fault}
use Rattle.ep_ipslice.specs.declared.err.ipv6.slice_error.SliceError.{SliceError as Ipv6Fault}
use Rattle.ep_ipslice.specs.declared.net.ip_slice.IpSlice.{IpSlice}
use Rattle.ep_link.specs.Arp as arp
use Rattle.ep_link.specs.Ethernet.{ethernet_len, payload_of}
use Rattle.ep_link.specs.Sll.{sll_len}
use Rattle.ep_link.specs.SllFault as sll_fault
use Rattle.ep_link.specs.SllPayload as sll
use Rattle.ep_link.specs.declared.err.linux_sll.header_error.HeaderError.{HeaderError as SllFault}
use Rattle.ep_packet.specs.HeaderLayers.{of_headers, packet_len}
use Rattle.ep_packet.specs.IpHeadersAt.{ip_headers_at, ipv4_headers_at, ipv6_headers_at}
use Rattle.ep_packet.specs.IsTagged.{AreTags, IsTagged}
use Rattle.ep_packet.specs.NetSlice.{of_ip as net_of}
use Rattle.ep_packet.specs.Parts.{headers_len, tags_len}
use Rattle.ep_packet.specs.ReadIpHeaders.{IsIpHeadersFault}
use Rattle.ep_packet.specs.Readable as number
use Rattle.ep_packet.specs.SliceFault.{of_ip, of_ipv4, of_ipv6, of_linux_sll, of_macsec, offset_by, within}
use Rattle.ep_packet.specs.Sliced.{arp_type, ether_payload, ipv4_type, ipv6_type}
use Rattle.ep_packet.specs.Tags.{is_macsec_type, most_tags}
use Rattle.ep_packet.specs.declared.err.packet.slice_error.SliceError.{SliceError}
use Rattle.ep_packet.specs.declared.err.packet.slice_error.SliceError.TheVariants.{Len}
use Rattle.ep_packet.specs.declared.net.ip_headers.IpHeaders.{IpHeaders}
use Rattle.ep_packet.specs.declared.net.net_slice.NetSlice.TheVariants as net
use Rattle.ep_tag.specs.Ether.{EtherPayload}
use Rattle.ep_tag.specs.MacsecPayload.{macsec_at}
use Rattle.ep_tag.specs.Vlan.{is_vlan_type, vlan_len}
use Rattle.ep_tag.specs.declared.err.macsec.header_error.HeaderError.{HeaderError as MacsecFault}
use Rattle.ep_tag.specs.declared.link.link_ext_slice.LinkExtSlice.{LinkExtSlice}
use Rattle.ep_tcpudp.specs.TcpFault.{segment_at}
use Rattle.ep_tcpudp.specs.UdpFault as udp_fault
use Rattle.ep_tcpudp.specs.declared.err.tcp.header_error.HeaderError.{HeaderError as TcpFault}

-- the ether type names a tag, and the tag at the start of the payload isn't whole or breaks its
-- format
pub data IsTagFault (p : EtherPayload) (e : SliceError) : Type 0 where
  OfVlan : is_vlan_type p.ether_type ≡ true → length p.payload < vlan_len
      → e ≡ Len (too_few_bytes VlanHeader vlan_len (length p.payload)) → IsTagFault p e
  OfMacsec : (fault : HeaderSliceError MacsecFault) → is_vlan_type p.ether_type ≡ false
      → is_macsec_type p.ether_type ≡ true → macsec_at p.payload ≡ Err fault
      → e ≡ of_macsec fault → IsTagFault p e

-- the fault of an IP payload in which a message (of a view) or its header (as a value) is read:
-- these differ for UDP alone, since the header doesn't need the bytes that its length field counts
pub data IsMessageFault (udp_at : List ℕ → Result (List ℕ) LenError) (n : ℕ) (bytes : List ℕ)
    (e : SliceError) : Type 0 where
  OfIcmpv4 : (fault : LenError) → n ≡ number.icmpv4 → icmpv4_fault.message_at bytes ≡ Err fault
      → e ≡ Len fault → IsMessageFault udp_at n bytes e
  OfTcp : (fault : HeaderSliceError TcpFault) → n ≡ number.tcp → segment_at bytes ≡ Err fault
      → e ≡ number.tcp_fault fault → IsMessageFault udp_at n bytes e
  OfUdp : (fault : LenError) → n ≡ number.udp → udp_at bytes ≡ Err fault → e ≡ Len fault
      → IsMessageFault udp_at n bytes e
  OfIcmpv6 : (fault : LenError) → n ≡ number.icmpv6 → icmpv6_fault.message_at bytes ≡ Err fault
      → e ≡ Len fault → IsMessageFault udp_at n bytes e

-- an IP payload after so many bytes of headers is no fragment, and its message has a fault, which
-- the payload's length bounds
pub record IsPayloadFault (udp_at : List ℕ → Result (List ℕ) LenError) (headers_len : ℕ)
    (p : IpPayload) (e : SliceError) : Type 0 where
  pub fault : SliceError
  pub uncut : p.fragmented ≡ false
  pub message : IsMessageFault udp_at p.ip_number.0 p.payload fault
  pub error : e ≡ offset_by headers_len (within p.len_source fault)

-- the packet of the network layer that an ether type names isn't whole or breaks its format, where
-- extension headers of IPv6 are in this order
pub data IsNetFault (order : Order) (t : EtherType) (bytes : List ℕ) (e : SliceError) : Type 0 where
  OfIpv4 : (fault : Ipv4Fault) → t.0 ≡ ipv4_type → ipv4_packet_at bytes ≡ Err fault
      → e ≡ of_ipv4 fault → IsNetFault order t bytes e
  OfIpv6 : (fault : Ipv6Fault) → t.0 ≡ ipv6_type → IsFaultIn order bytes fault
      → e ≡ of_ipv6 fault → IsNetFault order t bytes e
  OfArp : (fault : LenError) → t.0 ≡ arp_type → arp.packet_at bytes ≡ Err fault → e ≡ Len fault
      → IsNetFault order t bytes e

-- a fault of the packet that an ether type names, or of the message in it, as views are read
pub data IsLayersFault (t : EtherType) (bytes : List ℕ) (e : SliceError) : Type 0 where
  InNet : IsNetFault view_order t bytes e → IsLayersFault t bytes e
  InIpv4 : (packet : Ipv4Packet) → t.0 ≡ ipv4_type → ipv4_packet_at bytes ≡ Ok packet
      → IsPayloadFault udp_fault.udp_at (headers_len (Some (net.Ipv4 packet)))
      (ipv4_payload packet) e → IsLayersFault t bytes e
  InIpv6 : (packet : Ipv6Packet) → t.0 ≡ ipv6_type → ipv6_packet_at bytes ≡ Ok packet
      → IsPayloadFault udp_fault.udp_at (headers_len (Some (net.Ipv6 packet))) packet.payload e
      → IsLayersFault t bytes e

-- how many bytes of headers are before the payload of an IP packet that starts these bytes
abbrev pub values_len : IpHeaders → List ℕ → IpPayload → ℕ
values_len headers bytes p = packet_len headers (length bytes) - length p.payload

-- the same, as headers are read as values
pub data IsHeaderLayersFault (t : EtherType) (bytes : List ℕ) (e : SliceError) : Type 0 where
  InNet : IsNetFault slot_of t bytes e → IsHeaderLayersFault t bytes e
  InIpv4 : (headers : IpHeaders) (p : IpPayload) → t.0 ≡ ipv4_type
      → ipv4_headers_at bytes ≡ Ok (headers, p)
      → IsPayloadFault udp_fault.header_at (values_len headers bytes p) p e
      → IsHeaderLayersFault t bytes e
  InIpv6 : (headers : IpHeaders) (p : IpPayload) → t.0 ≡ ipv6_type
      → ipv6_headers_at bytes ≡ Ok (headers, p)
      → IsPayloadFault udp_fault.header_at (values_len headers bytes p) p e
      → IsHeaderLayersFault t bytes e

-- the first fault of what an ether type names: of a tag after whole ones, or of the layers after
-- all tags
pub data IsFaultAfter (IsLayers : EtherType → List ℕ → SliceError → Type 0) (p : EtherPayload)
    (e : SliceError) : Type 0 where
  InTag : (tags : List LinkExtSlice) (q : EtherPayload) (fault : SliceError)
      → length tags < most_tags → AreTags p tags (Some q) → IsTagFault q fault
      → e ≡ offset_by (tags_len tags) fault → IsFaultAfter IsLayers p e
  InLayers : (tags : List LinkExtSlice) (q : EtherPayload) (fault : SliceError)
      → IsTagged most_tags p tags (Some q) → IsLayers q.ether_type q.payload fault
      → e ≡ offset_by (tags_len tags) fault → IsFaultAfter IsLayers p e

-- the first fault of an Ethernet II frame: of its header, or of what follows it
pub data IsFrameFaultIn (IsLayers : EtherType → List ℕ → SliceError → Type 0) (frame : List ℕ)
    (e : SliceError) : Type 0 where
  InHeader : length frame < ethernet_len
      → e ≡ Len (too_few_bytes Ethernet2Header ethernet_len (length frame))
      → IsFrameFaultIn IsLayers frame e
  Following : (fault : SliceError) → ethernet_len ≤ length frame
      → IsFaultAfter IsLayers (payload_of frame) fault → e ≡ offset_by ethernet_len fault
      → IsFrameFaultIn IsLayers frame e

-- as views and as values are read
abbrev pub IsFrameFault : List ℕ → SliceError → Type 0
IsFrameFault = IsFrameFaultIn IsLayersFault

abbrev pub IsFrameHeadersFault : List ℕ → SliceError → Type 0
IsFrameHeadersFault = IsFrameFaultIn IsHeaderLayersFault

-- the first fault of a packet of a Linux cooked capture
pub data IsCookedFault (packet : List ℕ) (e : SliceError) : Type 0 where
  InHeader : (fault : HeaderSliceError SllFault) → sll_fault.whole_at packet ≡ Err fault
      → e ≡ of_linux_sll fault → IsCookedFault packet e
  Following : (p : EtherPayload) (fault : SliceError) → sll_fault.whole_at packet ≡ Ok packet
      → sll.named_payload (sll.payload_of packet) ≡ Some p → IsFaultAfter IsLayersFault p fault
      → e ≡ offset_by sll_len fault → IsCookedFault packet e

-- the first fault of bytes after an ether type, as views and as values are read
abbrev pub IsEtherTypeFault : EtherType → List ℕ → SliceError → Type 0
IsEtherTypeFault t bytes = IsFaultAfter IsLayersFault (ether_payload t bytes)

abbrev pub IsEtherTypeHeadersFault : EtherType → List ℕ → SliceError → Type 0
IsEtherTypeHeadersFault t bytes = IsFaultAfter IsHeaderLayersFault (ether_payload t bytes)

-- the first fault of an IP packet of either version and of the message in it
pub data IsIpPacketFault (bytes : List ℕ) (e : SliceError) : Type 0 where
  InPacket : (fault : IpFault) → IsIpFault bytes fault → e ≡ of_ip fault → IsIpPacketFault bytes e
  InMessage : (packet : IpSlice) → ip_packet_at bytes ≡ Ok packet
      → IsPayloadFault udp_fault.udp_at (headers_len (Some (net_of packet)))
      (ip_payload_of packet) e → IsIpPacketFault bytes e

-- the same, as headers are read as values
pub data IsIpPacketHeadersFault (bytes : List ℕ) (e : SliceError) : Type 0 where
  InPacket : (fault : HeadersSliceError) → IsIpHeadersFault bytes fault → e ≡ of_headers fault
      → IsIpPacketHeadersFault bytes e
  InMessage : (headers : IpHeaders) (p : IpPayload) → ip_headers_at bytes ≡ Ok (headers, p)
      → IsPayloadFault udp_fault.header_at (values_len headers bytes p) p e
      → IsIpPacketHeadersFault bytes e
