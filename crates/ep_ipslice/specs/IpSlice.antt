-- An IP packet of either version (RFC 791, section 3.1; RFC 8200, section 3).
use Rattle.std.specs.Prelude.{◌≡◌, ◌≢◌, ◌<◌, ◌==◌, ℕ, Bool, if◌then◌else◌, List, length, Option, Some, None, Result, Ok}
use Rattle.std.specs.Prelude.{Err}
use Rattle.std.specs.Net.Addr.{ipv4_octets, ipv6_segments, segments_of}
use Rattle.std.specs.declared.net.ip_addr.IpAddr.{IpAddr}
use Rattle.std.specs.declared.net.ip_addr.IpAddr.TheVariants.{V4, V6}
use Rattle.ep_base.specs.LenError.{too_few_bytes}
use Rattle.ep_base.specs.declared.err.layer.Layer.TheVariants as layer
use Rattle.ep_base.specs.declared.err.len_error.LenError.{LenError}
use Rattle.ep_ip.specs.Ipv4 as v4
use Rattle.ep_ip.specs.Ipv6 as v6
use Rattle.ep_ip.specs.declared.err.ipv4.header_error.HeaderError.TheVariants as v4_header
use Rattle.ep_ip.specs.declared.err.ipv6.header_error.HeaderError.TheVariants as v6_header
use Rattle.ep_ipslice.specs.Ipv4Packet.{ipv4_packet_at}
use Rattle.ep_ext.specs.Slot.{Order}
use Rattle.ep_ipslice.specs.Ipv6Exts.{view_order}
use Rattle.ep_ipslice.specs.Ipv6Fault.{IsFaultIn}
use Rattle.ep_ipslice.specs.Ipv6Packet.{ipv6_packet_at}
use Rattle.ep_ipslice.specs.Packet.{IpPayload, Ipv4Packet, Ipv6Packet, IsIpv4Packet, IsIpv6Packet, IsWholeIpv4}
use Rattle.ep_ipslice.specs.Packet.{IsWholeIpv6, ipv4_payload}
use Rattle.ep_ipslice.specs.declared.err.ip.header_error.HeaderError.TheVariants.{UnsupportedIpVersion}
use Rattle.ep_ipslice.specs.declared.err.ip.header_error.HeaderError.TheVariants.{Ipv4HeaderLengthSmallerThanHeader}
use Rattle.ep_ipslice.specs.declared.err.ip.headers_error.HeadersError.TheVariants as headers
use Rattle.ep_ipslice.specs.declared.err.ip.slice_error.SliceError.{SliceError}
use Rattle.ep_ipslice.specs.declared.err.ip.slice_error.SliceError.TheVariants.{Len, IpHeaders}
use Rattle.ep_ipslice.specs.declared.err.ipv4.slice_error.SliceError.{SliceError as Ipv4Fault}
use Rattle.ep_ipslice.specs.declared.err.ipv4.slice_error.SliceError.TheVariants as v4_fault
use Rattle.ep_ipslice.specs.declared.err.ipv6.slice_error.SliceError.{SliceError as Ipv6Fault}
use Rattle.ep_ipslice.specs.declared.err.ipv6.slice_error.SliceError.TheVariants as v6_fault
use Rattle.ep_ipslice.specs.declared.net.ip_slice.IpSlice.{IpSlice}
use Rattle.ep_ipslice.specs.declared.net.ip_slice.IpSlice.TheVariants.{Ipv4, Ipv6}

-- the bytes begin with this packet
abbrev pub IsIpPacket : List ℕ → IpSlice → Type 0
IsIpPacket bytes (Ipv4 packet) = IsIpv4Packet bytes packet
IsIpPacket bytes (Ipv6 packet) = IsIpv6Packet bytes packet

-- a packet by itself
abbrev pub IsWhole : IpSlice → Type 0
IsWhole (Ipv4 packet) = IsWholeIpv4 packet
IsWhole (Ipv6 packet) = IsWholeIpv6 packet

abbrev pub ipv4_of : IpSlice → Option Ipv4Packet
ipv4_of (Ipv4 packet) = Some packet
ipv4_of (Ipv6 packet) = None

abbrev pub ipv6_of : IpSlice → Option Ipv6Packet
ipv6_of (Ipv4 packet) = None
ipv6_of (Ipv6 packet) = Some packet

abbrev pub payload_of : IpSlice → IpPayload
payload_of (Ipv4 packet) = ipv4_payload packet
payload_of (Ipv6 packet) = packet.payload

abbrev pub fragmented_of : IpSlice → Bool
fragmented_of packet = (payload_of packet).fragmented

-- the bytes of the addresses
abbrev pub source_of : IpSlice → List ℕ
source_of (Ipv4 packet) = v4.source_of packet.header
source_of (Ipv6 packet) = v6.source_of packet.header

abbrev pub destination_of : IpSlice → List ℕ
destination_of (Ipv4 packet) = v4.destination_of packet.header
destination_of (Ipv6 packet) = v6.destination_of packet.header

-- the address of these bytes
abbrev pub IsAddress : List ℕ → IpAddr → Type 0
IsAddress bytes (V4 address) = ipv4_octets address ≡ bytes
IsAddress bytes (V6 address) = ipv6_segments address ≡ segments_of bytes

-- no bytes
abbrev pub no_version : LenError
no_version = too_few_bytes layer.IpHeader 1 0

abbrev pub ipv4_fault : Ipv4Fault → SliceError
ipv4_fault (v4_fault.Len e) = Len e
ipv4_fault (v4_fault.Header (v4_header.UnexpectedVersion version)) =
    IpHeaders (headers.Ip (UnsupportedIpVersion version))
ipv4_fault (v4_fault.Header (v4_header.HeaderLengthSmallerThanHeader ihl)) =
    IpHeaders (headers.Ip (Ipv4HeaderLengthSmallerThanHeader ihl))
ipv4_fault (v4_fault.Exts e) = IpHeaders (headers.Ipv4Ext e)

abbrev pub ipv6_fault : Ipv6Fault → SliceError
ipv6_fault (v6_fault.Len e) = Len e
ipv6_fault (v6_fault.Header (v6_header.UnexpectedVersion version)) =
    IpHeaders (headers.Ip (UnsupportedIpVersion version))
ipv6_fault (v6_fault.Exts e) = IpHeaders (headers.Ipv6Ext e)

-- the first fault of the bytes, where extension headers of IPv6 come in this order: no bytes are
-- there, the version is neither 4 nor 6, or the first fault of that version's packet
pub data IsIpFaultIn (order : Order) (bytes : List ℕ) (e : SliceError) : Type 0 where
  NoBytes : length bytes ≡ 0 → e ≡ Len no_version → IsIpFaultIn order bytes e
  OtherVersion : 0 < length bytes → v4.version_of bytes ≢ 4 → v4.version_of bytes ≢ 6
      → e ≡ IpHeaders (headers.Ip (UnsupportedIpVersion (v4.version_of bytes)))
      → IsIpFaultIn order bytes e
  OfIpv4 : (fault : Ipv4Fault) → v4.version_of bytes ≡ 4 → ipv4_packet_at bytes ≡ Err fault
      → e ≡ ipv4_fault fault → IsIpFaultIn order bytes e
  OfIpv6 : (fault : Ipv6Fault) → v4.version_of bytes ≡ 6 → IsFaultIn order bytes fault
      → e ≡ ipv6_fault fault → IsIpFaultIn order bytes e

-- the first fault of the bytes as views read them
abbrev pub IsIpFault : List ℕ → SliceError → Type 0
IsIpFault bytes e = IsIpFaultIn view_order bytes e

abbrev pub with_ipv4 : Result Ipv4Packet Ipv4Fault → Result IpSlice SliceError
with_ipv4 (Ok packet) = Ok (Ipv4 packet)
with_ipv4 (Err e) = Err (ipv4_fault e)

abbrev pub with_ipv6 : Result Ipv6Packet Ipv6Fault → Result IpSlice SliceError
with_ipv6 (Ok packet) = Ok (Ipv6 packet)
with_ipv6 (Err e) = Err (ipv6_fault e)

-- the packet at the start of the bytes, of the version in their first byte, or the first fault
abbrev pub ip_packet_at : List ℕ → Result IpSlice SliceError
ip_packet_at bytes =
    if length bytes == 0 then Err (Len no_version)
    else (if v4.version_of bytes == 4 then with_ipv4 (ipv4_packet_at bytes)
    else (if v4.version_of bytes == 6 then with_ipv6 (ipv6_packet_at bytes)
    else Err (IpHeaders (headers.Ip (UnsupportedIpVersion (v4.version_of bytes))))))
