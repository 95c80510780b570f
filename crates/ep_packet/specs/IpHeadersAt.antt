-- The headers and the payload of the IP packet at the start of bytes, or why there are none (RFC
-- 791; RFC 8200).
use Rattle.std.specs.Prelude.{ℕ, ◌-◌, ◌==◌, nat_lt, if◌then◌else◌, List, [], length, Option, Some, None, Result, Ok}
use Rattle.std.specs.Prelude.{Err, ◌+◌}
use Rattle.ep_ext.specs.Chain.{Fault, fault_of}
use Rattle.ep_ext.specs.Slot.{slot_of}
use Rattle.ep_ext.specs.Value.{Piece, value_of}
use Rattle.ep_ip.specs.Ipv4.{version_of}
use Rattle.ep_ip.specs.Ipv6.{ipv6_header_of, next_header_of, payload_length_of}
use Rattle.ep_ip.specs.Ipv6Fault.{header_at}
use Rattle.ep_base.specs.declared.err.slice_error.SliceError.{SliceError}
use Rattle.ep_base.specs.LenError.{too_few_bytes}
use Rattle.ep_base.specs.declared.err.layer.Layer.TheVariants as layer
use Rattle.ep_ip.specs.declared.err.ipv6.header_error.HeaderError.{HeaderError as HeaderFault}
use Rattle.ep_ipslice.specs.IpFault.{headers_fault}
use Rattle.ep_ipslice.specs.IpSlice.{ipv4_fault, ipv6_fault, no_version}
use Rattle.ep_ipslice.specs.Ipv4Packet.{ipv4_packet_at}
use Rattle.ep_ipslice.specs.Ipv6Fault.{of_exts_fault, of_header_fault}
use Rattle.ep_ipslice.specs.Ipv6Packet.{body_of, number_after, rest_after}
use Rattle.ep_ipslice.specs.Ipv6Walk.{pieces_within}
use Rattle.ep_ipslice.specs.Packet.{IpPayload, body_len, body_source}
use Rattle.ep_ipslice.specs.declared.err.ip.header_error.HeaderError.TheVariants.{UnsupportedIpVersion}
use Rattle.ep_ipslice.specs.declared.err.ip.headers_error.HeadersError.TheVariants.{Ip}
use Rattle.ep_ipslice.specs.declared.err.ip.headers_slice_error.HeadersSliceError.{HeadersSliceError}
use Rattle.ep_ipslice.specs.declared.err.ip.headers_slice_error.HeadersSliceError.TheVariants as headers
use Rattle.ep_ipslice.specs.declared.err.ipv4.slice_error.SliceError.{SliceError as Ipv4Fault}
use Rattle.ep_ipslice.specs.declared.err.ipv6.slice_error.SliceError.{SliceError as Ipv6Fault}
use Rattle.ep_ipslice.specs.declared.err.ipv6.slice_error.SliceError.TheVariants.{Len}
use Rattle.ep_packet.specs.IpHeaders.{is_fragmenting, with_ipv4_headers}
use Rattle.ep_packet.specs.declared.net.ip_headers.IpHeaders.{IpHeaders}
use Rattle.ep_packet.specs.declared.net.ip_headers.IpHeaders.TheVariants.{Ipv6}

-- the extension headers at the start of a body, each in a slot of its own, of which the first has
-- this number. (None is empty.)
abbrev pub headers_in_slots : ℕ → List ℕ → List Piece
headers_in_slots first body = pieces_within (length body) slot_of [] first body

abbrev pub ipv6_value : (header : List ℕ) → List Piece → IpHeaders
ipv6_value header pieces = Ipv6 (ipv6_header_of header) (value_of pieces)

-- the headers and the payload of these extension headers
abbrev pub ipv6_parts : (bytes header : List ℕ) → List Piece → IpHeaders × IpPayload
ipv6_parts bytes header pieces = (
  ipv6_value header pieces,
  record {
    ip_number = record { 0 = number_after (next_header_of header) pieces };
    fragmented = is_fragmenting (ipv6_value header pieces);
    len_source = body_source header (length bytes - 40);
    payload = rest_after bytes header pieces;
  },
)

-- the same, if the extension headers don't end at a fault
abbrev pub ipv6_parts_unless : (bytes header : List ℕ) → List Piece → Option Fault
    → Result (IpHeaders × IpPayload) Ipv6Fault
ipv6_parts_unless bytes header pieces None = Ok (ipv6_parts bytes header pieces)
ipv6_parts_unless bytes header pieces (Some fault) =
    Err (of_exts_fault (body_source header (length bytes - 40)) fault.0)

-- the fault at which extension headers end, if there is one
abbrev pub fault_after : (bytes header : List ℕ) → List Piece → Option Fault
fault_after bytes header pieces = fault_of slot_of pieces
    (number_after (next_header_of header) pieces) (rest_after bytes header pieces)

abbrev pub ipv6_parts_with : (bytes header : List ℕ) → List Piece
    → Result (IpHeaders × IpPayload) Ipv6Fault
ipv6_parts_with bytes header pieces =
    if nat_lt (length bytes - 40) (body_len header (length bytes - 40))
    then Err (Len (too_few_bytes layer.Ipv6Packet (40 + payload_length_of header) (length bytes)))
    else ipv6_parts_unless bytes header pieces (fault_after bytes header pieces)

abbrev pub ipv6_parts_after : List ℕ → Result (List ℕ) (SliceError HeaderFault)
    → Result (IpHeaders × IpPayload) Ipv6Fault
ipv6_parts_after bytes (Err e) = Err (of_header_fault e)
ipv6_parts_after bytes (Ok header) =
    ipv6_parts_with bytes header (headers_in_slots (next_header_of header) (body_of bytes header))

-- of version 6
abbrev pub ipv6_headers_at : List ℕ → Result (IpHeaders × IpPayload) Ipv6Fault
ipv6_headers_at bytes = ipv6_parts_after bytes (header_at bytes)

-- of version 4
abbrev pub ipv4_headers_at : List ℕ → Result (IpHeaders × IpPayload) Ipv4Fault
ipv4_headers_at bytes = with_ipv4_headers (ipv4_packet_at bytes)

abbrev pub of_ipv4 : Result (IpHeaders × IpPayload) Ipv4Fault
    → Result (IpHeaders × IpPayload) HeadersSliceError
of_ipv4 (Ok parts) = Ok parts
of_ipv4 (Err e) = Err (headers_fault (ipv4_fault e))

abbrev pub of_ipv6 : Result (IpHeaders × IpPayload) Ipv6Fault
    → Result (IpHeaders × IpPayload) HeadersSliceError
of_ipv6 (Ok parts) = Ok parts
of_ipv6 (Err e) = Err (headers_fault (ipv6_fault e))

-- of the version in the first byte
abbrev pub ip_headers_at : List ℕ → Result (IpHeaders × IpPayload) HeadersSliceError
ip_headers_at bytes =
    if length bytes == 0 then Err (headers.Len no_version)
    else (if version_of bytes == 4 then of_ipv4 (ipv4_headers_at bytes)
    else (if version_of bytes == 6 then of_ipv6 (ipv6_headers_at bytes)
    else Err (headers.Content (Ip (UnsupportedIpVersion (version_of bytes))))))
