-- An IP packet of either version, as far as it is there (RFC 791, section 3.1; RFC 8200, section 3).
use Rattle.std.specs.Prelude.{ℕ, ◌==◌, Bool, if◌then◌else◌, List, length, Option, Some, None, Result, Ok, Err}
use Rattle.std.specs.Option.{option_map}
use Rattle.ep_base.specs.declared.err.layer.Layer.{Layer}
use Rattle.ep_base.specs.declared.err.layer.Layer.TheVariants.{IpAuthHeader}
use Rattle.ep_base.specs.declared.err.slice_error.SliceError.{SliceError}
use Rattle.ep_base.specs.declared.err.slice_error.SliceError.TheVariants.{Len, Content}
use Rattle.ep_ip.specs.Ipv4 as v4
use Rattle.ep_ip.specs.Ipv6 as v6
use Rattle.ep_ip.specs.declared.err.ipv4.header_error.HeaderError.{HeaderError as Ipv4HeaderFault}
use Rattle.ep_ip.specs.declared.err.ipv4.header_error.HeaderError.TheVariants as v4_header
use Rattle.ep_ip.specs.declared.err.ipv6.header_error.HeaderError.{HeaderError as Ipv6HeaderFault}
use Rattle.ep_ip.specs.declared.err.ipv6.header_error.HeaderError.TheVariants as v6_header
use Rattle.ep_ext.specs.Chain.{Fault}
use Rattle.ep_ext.specs.declared.err.ip_auth.header_error.HeaderError.{HeaderError as AuthFault}
use Rattle.ep_ext.specs.declared.err.ip_exts.header_error.HeaderError.{HeaderError as ExtsFault}
use Rattle.ep_ext.specs.declared.err.ip_exts.header_error.HeaderError.TheVariants.{Ipv4Ext, Ipv6Ext}
use Rattle.ep_ipslice.specs.IpSlice.{no_version}
use Rattle.ep_ipslice.specs.LaxPackets.{LaxIpv4Packet, LaxIpv6Packet, StoppedIpv4, StoppedIpv6, lax_ipv4_packet_at}
use Rattle.ep_ipslice.specs.LaxPackets.{lax_ipv6_packet_at, whole_ipv4, whole_ipv6}
use Rattle.ep_ipslice.specs.Packet.{IpPayload}
use Rattle.ep_ipslice.specs.declared.err.ip.header_error.HeaderError.{HeaderError}
use Rattle.ep_ipslice.specs.declared.err.ip.header_error.HeaderError.TheVariants.{UnsupportedIpVersion}
use Rattle.ep_ipslice.specs.declared.err.ip.header_error.HeaderError.TheVariants.{Ipv4HeaderLengthSmallerThanHeader}
use Rattle.ep_ipslice.specs.declared.net.ip_slice.IpSlice.{IpSlice}
use Rattle.ep_ipslice.specs.declared.net.ip_slice.IpSlice.TheVariants as strict
use Rattle.ep_ipslice.specs.declared.net.lax_ip_slice.LaxIpSlice.{LaxIpSlice}
use Rattle.ep_ipslice.specs.declared.net.lax_ip_slice.LaxIpSlice.TheVariants.{Ipv4, Ipv6}

-- an error of too few bytes stays as it is, and one in the content is mapped
abbrev pub map_content : {C D : Type 0} → (C → D) → SliceError C → SliceError D
map_content f (Len e) = Len e
map_content f (Content e) = Content (f e)

abbrev pub ipv4_header_fault : Ipv4HeaderFault → HeaderError
ipv4_header_fault (v4_header.UnexpectedVersion version) = UnsupportedIpVersion version
ipv4_header_fault (v4_header.HeaderLengthSmallerThanHeader ihl) =
    Ipv4HeaderLengthSmallerThanHeader ihl

abbrev pub ipv6_header_fault : Ipv6HeaderFault → HeaderError
ipv6_header_fault (v6_header.UnexpectedVersion version) = UnsupportedIpVersion version

-- a fault of extension headers of either version, with the layer in which it is
abbrev pub ExtsStop : Type 0
ExtsStop = SliceError ExtsFault × Layer

abbrev pub auth_stop : SliceError AuthFault → ExtsStop
auth_stop e = (map_content Ipv4Ext e, IpAuthHeader)

abbrev pub row_stop : Fault → ExtsStop
row_stop fault = (map_content Ipv6Ext fault.0, fault.1)

-- a packet, and the fault of an extension header at which it was left
abbrev pub StoppedIp : Type 0
StoppedIp = LaxIpSlice × Option ExtsStop

abbrev pub with_lax_ipv4 : Result StoppedIpv4 (SliceError Ipv4HeaderFault)
    → Result StoppedIp (SliceError HeaderError)
with_lax_ipv4 (Ok stopped) = Ok (Ipv4 stopped.0, option_map auth_stop stopped.1)
with_lax_ipv4 (Err e) = Err (map_content ipv4_header_fault e)

abbrev pub with_lax_ipv6 : Result StoppedIpv6 (SliceError Ipv6HeaderFault)
    → Result StoppedIp (SliceError HeaderError)
with_lax_ipv6 (Ok stopped) = Ok (Ipv6 stopped.0, option_map row_stop stopped.1)
with_lax_ipv6 (Err e) = Err (map_content ipv6_header_fault e)

-- the packet at the start of the bytes, of the version in their first byte, as far as it is there,
-- with what stopped it; or the fault of its header
abbrev pub lax_ip_packet_at : List ℕ → Result StoppedIp (SliceError HeaderError)
lax_ip_packet_at bytes =
    if length bytes == 0 then Err (Len no_version)
    else (if v4.version_of bytes == 4 then with_lax_ipv4 (lax_ipv4_packet_at bytes)
    else (if v4.version_of bytes == 6 then with_lax_ipv6 (lax_ipv6_packet_at bytes)
    else Err (Content (UnsupportedIpVersion (v4.version_of bytes)))))

abbrev pub lax_ipv4_in : LaxIpSlice → Option LaxIpv4Packet
lax_ipv4_in (Ipv4 packet) = Some packet
lax_ipv4_in (Ipv6 packet) = None

abbrev pub lax_ipv6_in : LaxIpSlice → Option LaxIpv6Packet
lax_ipv6_in (Ipv4 packet) = None
lax_ipv6_in (Ipv6 packet) = Some packet

-- whether bytes are missing, and the payload
abbrev pub lax_payload_of : LaxIpSlice → Bool × IpPayload
lax_payload_of (Ipv4 packet) = (packet.incomplete, packet.payload)
lax_payload_of (Ipv6 packet) = (packet.incomplete, packet.payload)

-- the bytes of the addresses
abbrev pub lax_source_of : LaxIpSlice → List ℕ
lax_source_of (Ipv4 packet) = v4.source_of packet.header
lax_source_of (Ipv6 packet) = v6.source_of packet.header

abbrev pub lax_destination_of : LaxIpSlice → List ℕ
lax_destination_of (Ipv4 packet) = v4.destination_of packet.header
lax_destination_of (Ipv6 packet) = v6.destination_of packet.header

-- a whole packet, of which nothing is missing
abbrev pub whole_ip : IpSlice → LaxIpSlice
whole_ip (strict.Ipv4 packet) = Ipv4 (whole_ipv4 packet)
whole_ip (strict.Ipv6 packet) = Ipv6 (whole_ipv6 packet)
