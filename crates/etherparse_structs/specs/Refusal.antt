-- Why a packet is refused, as numbers.
use Rattle.std.specs.Prelude.{ℕ}
use Rattle.etherparse.specs.base.declared.err.layer.Layer.{Layer}
use Rattle.etherparse.specs.base.declared.err.layer.Layer.TheVariants as layer
use Rattle.etherparse.specs.base.declared.err.len_error.LenError.{LenError}
use Rattle.etherparse.specs.base.declared.len_source.LenSource.{LenSource}
use Rattle.etherparse.specs.base.declared.len_source.LenSource.TheVariants as source
use Rattle.etherparse.specs.ext.declared.err.ipv6_exts.header_error.HeaderError.TheVariants as ipv6_exts
use Rattle.etherparse.specs.ip.declared.err.ipv4.header_error.HeaderError.TheVariants as ipv4
use Rattle.etherparse.specs.ip.declared.err.ipv6.header_error.HeaderError.TheVariants as ipv6
use Rattle.etherparse.specs.ipslice.declared.err.ip.header_error.HeaderError.TheVariants as ip
use Rattle.etherparse.specs.link.declared.err.linux_sll.header_error.HeaderError.TheVariants as sll
use Rattle.etherparse.specs.packet.declared.err.packet.slice_error.SliceError.{SliceError}
use Rattle.etherparse.specs.packet.declared.err.packet.slice_error.SliceError.TheVariants as error
use Rattle.etherparse.specs.tag.declared.err.macsec.header_error.HeaderError.TheVariants as macsec
use Rattle.etherparse.specs.tcpudp.declared.err.tcp.header_error.HeaderError.TheVariants as tcp
use Rattle.etherparse_structs.specs.declared.refusal.EpRefusal.{EpRefusal}

-- the layers, in the order in which they are declared
abbrev pub layer_number : Layer → ℕ
layer_number layer.LinuxSllHeader = 1
layer_number layer.Ethernet2Header = 2
layer_number layer.EtherPayload = 3
layer_number layer.VlanHeader = 4
layer_number layer.MacsecHeader = 5
layer_number layer.MacsecPacket = 6
layer_number layer.IpHeader = 7
layer_number layer.Ipv4Header = 8
layer_number layer.Ipv4Packet = 9
layer_number layer.IpAuthHeader = 10
layer_number layer.Ipv6Header = 11
layer_number layer.Ipv6Packet = 12
layer_number layer.Ipv6ExtHeader = 13
layer_number layer.Ipv6HopByHopHeader = 14
layer_number layer.Ipv6DestOptionsHeader = 15
layer_number layer.Ipv6RouteHeader = 16
layer_number layer.Ipv6FragHeader = 17
layer_number layer.UdpHeader = 18
layer_number layer.UdpPayload = 19
layer_number layer.TcpHeader = 20
layer_number layer.Icmpv4 = 21
layer_number layer.Icmpv4Timestamp = 22
layer_number layer.Icmpv4TimestampReply = 23
layer_number layer.Icmpv6 = 24
layer_number layer.Arp = 25

-- where the number of bytes comes from
abbrev pub source_number : LenSource → ℕ
source_number source.Slice = 1
source_number source.MacsecShortLength = 2
source_number source.Ipv4HeaderTotalLen = 3
source_number source.Ipv6HeaderPayloadLen = 4
source_number source.UdpHeaderLen = 5
source_number source.TcpHeaderLen = 6
source_number source.ArpAddrLengths = 7

-- too few bytes for a layer
abbrev pub len_refusal : LenError → EpRefusal
len_refusal e = record {
  kind = 1;
  layer = layer_number e.layer;
  needed = e.required_len;
  there = e.len;
  place = e.layer_start_offset;
  source = source_number e.len_source;
  value = 0;
}

-- a header of this layer that breaks its format by the value of a field
abbrev pub content_refusal : (kind layer value : ℕ) → EpRefusal
content_refusal kind layer value = record {
  kind = kind;
  layer = layer;
  needed = 0;
  there = 0;
  place = 0;
  source = 0;
  value = value;
}

abbrev pub no_refusal : EpRefusal
no_refusal = content_refusal 0 0 0

-- each error of a packet
abbrev pub refusal_of : SliceError → EpRefusal
refusal_of (error.Len e) = len_refusal e
refusal_of (error.LinuxSll (sll.UnsupportedPacketTypeField packet_type)) =
    content_refusal 2 1 packet_type
refusal_of (error.LinuxSll (sll.UnsupportedArpHardwareId hardware)) =
    content_refusal 3 1 hardware.0
refusal_of (error.Macsec macsec.UnexpectedVersion) = content_refusal 4 5 1
refusal_of (error.Macsec macsec.InvalidUnmodifiedShortLen) = content_refusal 5 5 1
refusal_of (error.Ip (ip.UnsupportedIpVersion version)) = content_refusal 6 7 version
refusal_of (error.Ip (ip.Ipv4HeaderLengthSmallerThanHeader ihl)) = content_refusal 8 8 ihl
refusal_of (error.Ipv4 (ipv4.UnexpectedVersion version)) = content_refusal 7 8 version
refusal_of (error.Ipv4 (ipv4.HeaderLengthSmallerThanHeader ihl)) = content_refusal 8 8 ihl
refusal_of (error.Ipv6 (ipv6.UnexpectedVersion version)) = content_refusal 9 11 version
refusal_of (error.Ipv4Exts e) = content_refusal 10 10 0
refusal_of (error.Ipv6Exts ipv6_exts.HopByHopNotAtStart) = content_refusal 11 14 0
refusal_of (error.Ipv6Exts (ipv6_exts.IpAuth e)) = content_refusal 10 10 0
refusal_of (error.Tcp (tcp.DataOffsetTooSmall data_offset)) = content_refusal 12 20 data_offset
