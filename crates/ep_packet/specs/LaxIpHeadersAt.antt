-- The headers of the IP packet at the start of bytes, as far as it is there: they end at the first
-- extension header that has a fault (RFC 791; RFC 8200).
use Rattle.std.specs.Prelude.{ℕ, ◌+◌, ◌==◌, if◌then◌else◌, Bool, List, length, Option, Result, Ok, Err}
use Rattle.std.specs.Option.{option_map}
use Rattle.ep_base.specs.declared.err.slice_error.SliceError.{SliceError}
use Rattle.ep_base.specs.declared.err.slice_error.SliceError.TheVariants.{Len, Content}
use Rattle.ep_ext.specs.Chain.{Fault}
use Rattle.ep_ext.specs.Ipv4Exts.{ipv4_exts_of}
use Rattle.ep_ext.specs.Value.{Piece, bytes_of}
use Rattle.ep_ext.specs.declared.err.ip_auth.header_error.HeaderError.{HeaderError as AuthFault}
use Rattle.ep_ip.specs.Ipv4.{ipv4_header_of, version_of}
use Rattle.ep_ip.specs.Ipv6.{next_header_of}
use Rattle.ep_ip.specs.Ipv6Fault.{header_at}
use Rattle.ep_ip.specs.declared.err.ipv4.header_error.HeaderError.{HeaderError as Ipv4HeaderFault}
use Rattle.ep_ip.specs.declared.err.ipv6.header_error.HeaderError.{HeaderError as Ipv6HeaderFault}
use Rattle.ep_ipslice.specs.Compared.{lax_value}
use Rattle.ep_ipslice.specs.IpSlice.{no_version}
use Rattle.ep_ipslice.specs.Ipv6Packet.{body_of, number_after, rest_after}
use Rattle.ep_ipslice.specs.LaxIp.{ExtsStop, auth_stop, ipv4_header_fault, ipv6_header_fault, map_content, row_stop}
use Rattle.ep_ipslice.specs.LaxPackets.{LaxIpv4Packet, StoppedIpv4, is_ipv6_cut, lax_ipv4_packet_at, lax_ipv6_source}
use Rattle.ep_ipslice.specs.LaxPackets.{row_fault_within}
use Rattle.ep_ipslice.specs.Packet.{IpPayload}
use Rattle.ep_ipslice.specs.declared.err.ip.header_error.HeaderError.{HeaderError}
use Rattle.ep_ipslice.specs.declared.err.ip.header_error.HeaderError.TheVariants.{UnsupportedIpVersion}
use Rattle.ep_ipslice.specs.declared.net.lax_ip_payload_slice.LaxIpPayloadSlice.{LaxIpPayloadSlice}
use Rattle.ep_packet.specs.IpHeaders.{is_fragmenting}
use Rattle.ep_packet.specs.IpHeadersAt.{fault_after, headers_in_slots, ipv6_value}
use Rattle.ep_packet.specs.declared.net.ip_headers.IpHeaders.{IpHeaders}
use Rattle.ep_packet.specs.declared.net.ip_headers.IpHeaders.TheVariants.{Ipv4}

-- headers, whether bytes of the payload are missing, the payload, and the fault at which the headers end
pub record StoppedHeaders (S : Type 0) : Type 0 where
  pub headers : IpHeaders
  pub payload : Bool × IpPayload
  pub stop : Option S

-- the value of headers with a borrowed payload
abbrev pub stopped_parsed : {S : Type 0} → IpHeaders × LaxIpPayloadSlice × Option S → StoppedHeaders S
stopped_parsed r = record { headers = r.0; payload = lax_value r.1; stop = r.2 }

abbrev pub stopped_result : {S E : Type 0} → Result (IpHeaders × LaxIpPayloadSlice × Option S) E
    → Result (StoppedHeaders S) E
stopped_result (Ok r) = Ok (stopped_parsed r)
stopped_result (Err e) = Err e

-- with what stopped as a fault of either version
abbrev pub stopped_by : {S T : Type 0} → (S → T) → StoppedHeaders S → StoppedHeaders T
stopped_by f s = record { headers = s.headers; payload = s.payload; stop = option_map f s.stop }

-- the headers of an IPv4 packet as far as it is there
abbrev pub lax_ipv4_value : LaxIpv4Packet → IpHeaders
lax_ipv4_value packet = Ipv4 (ipv4_header_of packet.header) (ipv4_exts_of packet.auth)

abbrev pub lax_ipv4_parts : StoppedIpv4 → StoppedHeaders (SliceError AuthFault)
lax_ipv4_parts s = record {
  headers = lax_ipv4_value s.0;
  payload = (s.0.incomplete, s.0.payload);
  stop = s.1;
}

abbrev pub with_lax_ipv4_headers : Result StoppedIpv4 (SliceError Ipv4HeaderFault)
    → Result (StoppedHeaders (SliceError AuthFault)) (SliceError HeaderError)
with_lax_ipv4_headers (Ok s) = Ok (lax_ipv4_parts s)
with_lax_ipv4_headers (Err e) = Err (map_content ipv4_header_fault e)

-- of version 4
abbrev pub lax_ipv4_headers_at : List ℕ
    → Result (StoppedHeaders (SliceError AuthFault)) (SliceError HeaderError)
lax_ipv4_headers_at bytes = with_lax_ipv4_headers (lax_ipv4_packet_at bytes)

-- the headers and the payload of these extension headers of IPv6, each in a slot of its own
abbrev pub lax_ipv6_parts : (bytes header : List ℕ) → List Piece → StoppedHeaders Fault
lax_ipv6_parts bytes header pieces = record {
  headers = ipv6_value header pieces;
  payload = (
    is_ipv6_cut bytes header,
    record {
      ip_number = record { 0 = number_after (next_header_of header) pieces };
      fragmented = is_fragmenting (ipv6_value header pieces);
      len_source = lax_ipv6_source bytes header;
      payload = rest_after bytes header pieces;
    },
  );
  stop = option_map (row_fault_within (lax_ipv6_source bytes header)) (fault_after bytes header pieces);
}

-- the extension headers after this header
abbrev pub pieces_after : (bytes header : List ℕ) → List Piece
pieces_after bytes header = headers_in_slots (next_header_of header) (body_of bytes header)

-- the same with the length of the headers
pub record LaxIpv6Headers : Type 0 where
  pub len : ℕ
  pub parts : StoppedHeaders Fault

abbrev pub lax_ipv6_headers_after : (bytes header : List ℕ) → LaxIpv6Headers
lax_ipv6_headers_after bytes header = record {
  len = 40 + length (bytes_of (pieces_after bytes header));
  parts = lax_ipv6_parts bytes header (pieces_after bytes header);
}

abbrev pub with_lax_ipv6_headers : List ℕ → Result (List ℕ) (SliceError Ipv6HeaderFault)
    → Result LaxIpv6Headers (SliceError Ipv6HeaderFault)
with_lax_ipv6_headers bytes (Ok header) = Ok (lax_ipv6_headers_after bytes header)
with_lax_ipv6_headers bytes (Err e) = Err e

-- of version 6
abbrev pub lax_ipv6_headers_at : List ℕ → Result LaxIpv6Headers (SliceError Ipv6HeaderFault)
lax_ipv6_headers_at bytes = with_lax_ipv6_headers bytes (header_at bytes)

-- without their length
abbrev pub without_len : Result LaxIpv6Headers (SliceError Ipv6HeaderFault)
    → Result (StoppedHeaders Fault) (SliceError Ipv6HeaderFault)
without_len (Ok h) = Ok h.parts
without_len (Err e) = Err e

abbrev pub of_lax_ipv4 : Result (StoppedHeaders (SliceError AuthFault)) (SliceError HeaderError)
    → Result (StoppedHeaders ExtsStop) (SliceError HeaderError)
of_lax_ipv4 (Ok s) = Ok (stopped_by auth_stop s)
of_lax_ipv4 (Err e) = Err e

abbrev pub of_lax_ipv6 : Result (StoppedHeaders Fault) (SliceError Ipv6HeaderFault)
    → Result (StoppedHeaders ExtsStop) (SliceError HeaderError)
of_lax_ipv6 (Ok s) = Ok (stopped_by row_stop s)
of_lax_ipv6 (Err e) = Err (map_content ipv6_header_fault e)

-- of the version in the first byte
abbrev pub lax_ip_headers_at : List ℕ → Result (StoppedHeaders ExtsStop) (SliceError HeaderError)
lax_ip_headers_at bytes =
    if length bytes == 0 then Err (Len no_version)
    else (if version_of bytes == 4 then of_lax_ipv4 (lax_ipv4_headers_at bytes)
    else (if version_of bytes == 6 then of_lax_ipv6 (without_len (lax_ipv6_headers_at bytes))
    else Err (Content (UnsupportedIpVersion (version_of bytes)))))
