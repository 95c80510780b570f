-- The headers of an IP packet of either version (RFC 791; RFC 8200).
use Rattle.std.specs.Prelude.{◌≡◌, ℕ, ◌+◌, ◌-◌, nat_lt, Bool, false, is_some, if◌then◌else◌, List, ◌++◌, length, Option}
use Rattle.std.specs.Prelude.{Some, None, Result, Ok, Err}
use Rattle.std.specs.Option.{option_map_or}
use Rattle.ep_base.specs.Bounded.{too_big}
use Rattle.ep_base.specs.declared.err.value_too_big_error.ValueTooBigError.{ValueTooBigError}
use Rattle.ep_base.specs.declared.err.value_type.ValueType.TheVariants.{Ipv4PayloadLength, Ipv6PayloadLength}
use Rattle.ep_base.specs.declared.net.ip_number.IpNumber.{IpNumber}
use Rattle.ep_ext.specs.Follow as exts
use Rattle.ep_ext.specs.Fragment.{fragments}
use Rattle.ep_ext.specs.Ipv4Exts.{ipv4_exts_of, ipv4_exts_encoding, ipv4_walk_fault, ipv4_with_link}
use Rattle.ep_ext.specs.Value.{Piece, bytes_of}
use Rattle.ep_ext.specs.Link.{all_slots, pieces_in, with_links}
use Rattle.ep_ext.specs.declared.err.ip_exts.exts_walk_error.ExtsWalkError.{ExtsWalkError}
use Rattle.ep_ext.specs.declared.err.ip_exts.exts_walk_error.ExtsWalkError.TheVariants.{Ipv4Exts, Ipv6Exts}
use Rattle.ep_ext.specs.declared.err.ipv4_exts.exts_walk_error.ExtsWalkError as ipv4
use Rattle.ep_ext.specs.declared.err.ipv6_exts.exts_walk_error.ExtsWalkError as ipv6
use Rattle.ep_ext.specs.declared.net.ipv4_extensions.Ipv4Extensions.{Ipv4Extensions}
use Rattle.ep_ext.specs.declared.net.ipv6_extensions.Ipv6Extensions.{Ipv6Extensions}
use Rattle.ep_ip.specs.Ipv4.{header_len, ipv4_header_of, is_fragmenting as is_fragmenting_v4, encoding as encoding_v4}
use Rattle.ep_ip.specs.Ipv4Checksum.{right_checksum}
use Rattle.ep_ip.specs.Ipv6.{encoding as encoding_v6}
use Rattle.ep_ip.specs.declared.net.ipv4_header.Ipv4Header.{Ipv4Header}
use Rattle.ep_ip.specs.declared.net.ipv6_header.Ipv6Header.{Ipv6Header}
use Rattle.ep_ipslice.specs.Packet.{IpPayload, Ipv4Packet, ipv4_payload}
use Rattle.ep_ipslice.specs.declared.err.ipv4.slice_error.SliceError.{SliceError}
use Rattle.ep_packet.specs.declared.err.ip.headers_write_error.HeadersWriteError.{HeadersWriteError}
use Rattle.ep_packet.specs.declared.err.ip.headers_write_error.HeadersWriteError.TheVariants as error
use Rattle.ep_packet.specs.declared.net.ip_headers.IpHeaders.{IpHeaders}
use Rattle.ep_packet.specs.declared.net.ip_headers.IpHeaders.TheVariants.{Ipv4, Ipv6}

-- the length of all headers
abbrev pub ip_headers_len : IpHeaders → ℕ
ip_headers_len (Ipv4 h e) = header_len h + length (ipv4_exts_encoding e)
ip_headers_len (Ipv6 h e) = 40 + exts.header_len e

-- the IPv4 header, or the fragment header of IPv6, says that the payload is a fragment
abbrev pub is_fragmenting : IpHeaders → Bool
is_fragmenting (Ipv4 h e) = is_fragmenting_v4 h.more_fragments h.fragment_offset
is_fragmenting (Ipv6 h e) = option_map_or fragments e.fragment false

-- a fault of a version's extension headers, as one of both versions
abbrev pub or_ipv4 : Result IpNumber ipv4.ExtsWalkError → Result IpNumber ExtsWalkError
or_ipv4 (Ok number) = Ok number
or_ipv4 (Err e) = Err (Ipv4Exts e)

abbrev pub or_ipv6 : Result IpNumber ipv6.ExtsWalkError → Result IpNumber ExtsWalkError
or_ipv6 (Ok number) = Ok number
or_ipv6 (Err e) = Err (Ipv6Exts e)

-- the headers, if they are of this version
abbrev pub ipv4_in : IpHeaders → Option (Ipv4Header × Ipv4Extensions)
ipv4_in (Ipv4 h e) = Some (h, e)
ipv4_in (Ipv6 h e) = None

abbrev pub ipv6_in : IpHeaders → Option (Ipv6Header × Ipv6Extensions)
ipv6_in (Ipv4 h e) = None
ipv6_in (Ipv6 h e) = Some (h, e)

-- the headers and the payload of an IPv4 packet, or why there is none
abbrev pub ipv4_parts : Ipv4Packet → IpHeaders × IpPayload
ipv4_parts packet = (
  Ipv4 (ipv4_header_of packet.header) (ipv4_exts_of packet.auth),
  ipv4_payload
      packet,
)

abbrev pub with_ipv4_headers : Result Ipv4Packet SliceError
    → Result (IpHeaders × IpPayload) SliceError
with_ipv4_headers (Ok packet) = Ok (ipv4_parts packet)
with_ipv4_headers (Err e) = Err e

-- the ether type of a version (IEEE 802; RFC 894; RFC 2464)
abbrev pub ether_type_of : IpHeaders → ℕ
ether_type_of (Ipv4 h e) = 0x0800
ether_type_of (Ipv6 h e) = 0x86dd

-- the headers name one another, from the IP header on, and the last one names this number
abbrev pub IsLinked : IpHeaders → (last : ℕ) → IpHeaders → Type 0
IsLinked (Ipv4 h e) last new =
    new ≡ Ipv4 (record h { protocol = record { 0 = if is_some e.auth then 51 else last } })
    (ipv4_with_link e last)
IsLinked (Ipv6 h e) last new = (first : ℕ)
    × (new ≡ Ipv6 (record h { next_header = record { 0 = first } }) (with_links e last))
    × exts.Follows (with_links e last) first (pieces_in (with_links e last) all_slots) last

-- the length of a payload with the extension headers before it, or the greatest number of 64 bits
abbrev pub with_exts : (len exts_len : ℕ) → ℕ
with_exts len exts_len = if nat_lt 18446744073709551615 (len + exts_len) then 18446744073709551615
    else len + exts_len

abbrev pub ipv4_with_len : Ipv4Header → Ipv4Extensions → ℕ → Result IpHeaders (ValueTooBigError ℕ)
ipv4_with_len h e len =
    if nat_lt 65535 (header_len h + len)
    then Err (too_big Ipv4PayloadLength (65535 - header_len h) len)
    else Ok (Ipv4 (record h { total_len = header_len h + len }) e)

abbrev pub ipv6_with_len : Ipv6Header → Ipv6Extensions → ℕ → Result IpHeaders (ValueTooBigError ℕ)
ipv6_with_len h e len =
    if nat_lt 65535 len then Err (too_big Ipv6PayloadLength 65535 len)
    else Ok (Ipv6 (record h { payload_length = len }) e)

-- the headers of a payload of so many bytes, or why there are none
abbrev pub with_payload_len : IpHeaders → ℕ → Result IpHeaders (ValueTooBigError ℕ)
with_payload_len (Ipv4 h e) len = ipv4_with_len h e (with_exts len (length (ipv4_exts_encoding e)))
with_payload_len (Ipv6 h e) len = ipv6_with_len h e (with_exts len (exts.header_len e))

-- the headers are appended where all are reached, and else the buffer keeps its bytes
abbrev pub AppendsIpv4 : Ipv4Header → Ipv4Extensions → List ℕ → List ℕ
    → Result Unit HeadersWriteError → Type 0
AppendsIpv4 h e old new (Ok u) =
    (new ≡ old ++ encoding_v4 (record h { header_checksum = right_checksum h })
    ++ ipv4_exts_encoding e) × (ipv4_walk_fault e h.protocol.0 ≡ None)
AppendsIpv4 h e old new (Err error.Memory) = (new ≡ old) × (ipv4_walk_fault e h.protocol.0 ≡ None)
AppendsIpv4 h e old new (Err (error.Ipv4Exts fault)) = (new ≡ old)
    × (ipv4_walk_fault e h.protocol.0 ≡ Some fault)
AppendsIpv4 h e old new (Err (error.Ipv6Exts fault)) = ⊥

abbrev pub AppendsIpv6 : Ipv6Header → Ipv6Extensions → List ℕ → List ℕ
    → Result Unit HeadersWriteError → Type 0
AppendsIpv6 h e old new (Ok u) = (pieces : List Piece) × (last : ℕ)
    × exts.Follows e h.next_header.0 pieces last
    × (new ≡ old ++ encoding_v6 h ++ bytes_of pieces) × (exts.walk_fault e pieces last ≡ None)
AppendsIpv6 h e old new (Err error.Memory) = (pieces : List Piece) × (last : ℕ)
    × exts.Follows e h.next_header.0 pieces last
    × (new ≡ old) × (exts.walk_fault e pieces last ≡ None)
AppendsIpv6 h e old new (Err (error.Ipv6Exts fault)) = (pieces : List Piece) × (last : ℕ)
    × exts.Follows e h.next_header.0 pieces last
    × (new ≡ old) × (exts.walk_fault e pieces last ≡ Some fault)
AppendsIpv6 h e old new (Err (error.Ipv4Exts fault)) = ⊥

abbrev pub AppendsHeaders : IpHeaders → List ℕ → List ℕ → Result Unit HeadersWriteError → Type 0
AppendsHeaders (Ipv4 h e) old new result = AppendsIpv4 h e old new result
AppendsHeaders (Ipv6 h e) old new result = AppendsIpv6 h e old new result
