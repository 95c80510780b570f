-- IP packets as far as they are there: where a length field promises more than is there, the packet
-- ends with the bytes; and its extension headers end at the first one with a fault (IPv4: RFC 791,
-- section 3.1, and RFC 4302, section 3.1.1; IPv6: RFC 8200, sections 3 and 4).
use Rattle.std.specs.Prelude.{ℕ, ◌-◌, nat_lt, Bool, false, if◌then◌else◌, List, length, drop, Option, Some, None}
use Rattle.std.specs.Prelude.{Result, Ok, Err}
use Rattle.std.specs.Option.{option_map}
use Rattle.std.specs.List.{list_any}
use Rattle.ep_base.specs.LenError.{offset_by}
use Rattle.ep_base.specs.declared.err.len_error.LenError.{LenError}
use Rattle.ep_base.specs.declared.err.slice_error.SliceError.{SliceError}
use Rattle.ep_base.specs.declared.err.slice_error.SliceError.TheVariants.{Len, Content}
use Rattle.ep_base.specs.declared.len_source.LenSource.{LenSource}
use Rattle.ep_base.specs.declared.len_source.LenSource.TheVariants.{Slice, Ipv4HeaderTotalLen}
use Rattle.ep_ip.specs.Ipv4.{is_fragment, protocol_of, total_len_of}
use Rattle.ep_ip.specs.Ipv4Fault as v4
use Rattle.ep_ip.specs.declared.err.ipv4.header_error.HeaderError.{HeaderError as Ipv4HeaderFault}
use Rattle.ep_ip.specs.Ipv6.{next_header_of}
use Rattle.ep_ip.specs.Ipv6Fault as v6
use Rattle.ep_ip.specs.declared.err.ipv6.header_error.HeaderError.{HeaderError as Ipv6HeaderFault}
use Rattle.ep_ext.specs.Chain.{Fault, fault_of}
use Rattle.ep_ext.specs.Value.{Piece}
use Rattle.ep_ext.specs.Ipv4Exts.{auth_after, auth_bytes, number_after}
use Rattle.ep_ext.specs.declared.err.ip_auth.header_error.HeaderError.{HeaderError as AuthFault}
use Rattle.ep_ipslice.specs.Ipv4Packet as ipv4
use Rattle.ep_ipslice.specs.Ipv6Exts.{Ipv6Exts, exts_of, is_fragmenting_piece, view_order}
use Rattle.ep_ipslice.specs.Ipv6Packet as ipv6
use Rattle.ep_ipslice.specs.Packet.{IpPayload, Ipv4Packet, Ipv6Packet, body_len, body_source, ipv4_payload}

-- what bounds the bytes after a header, of which so many are there: the field that says how many there
-- are, or the slice where it promises more
abbrev pub source_within : ℕ → ℕ → LenSource → LenSource
source_within here len field = if nat_lt here len then Slice else field

-- an error of too few bytes in what this source bounds, n bytes after the start
abbrev pub error_within : LenSource → ℕ → LenError → LenError
error_within source n e = record (offset_by e n) { len_source = source }

-- the same of a fault of extension headers
abbrev pub fault_within : {C : Type 0} → LenSource → ℕ → SliceError C → SliceError C
fault_within source n (Len e) = Len (error_within source n e)
fault_within source n (Content e) = Content e

-- the parts of an IPv4 packet as far as it is there, and whether bytes of it are missing
pub record LaxIpv4Packet : Type 0 where
  pub header : List ℕ
  pub auth : Option (List ℕ)
  pub incomplete : Bool
  pub payload : IpPayload

-- the total length is below the header's own, and bounds nothing
abbrev pub is_ipv4_open : List ℕ → Bool
is_ipv4_open header = nat_lt (total_len_of header) (length header)

-- fewer bytes are there than the total length
abbrev pub is_ipv4_cut : (bytes header : List ℕ) → Bool
is_ipv4_cut bytes header = nat_lt (length bytes) (total_len_of header)

-- the bytes of the packet after its header
abbrev pub lax_ipv4_body : (bytes header : List ℕ) → List ℕ
lax_ipv4_body bytes header =
    if is_ipv4_open header then drop (length header) bytes else ipv4.body_of header bytes

-- what bounds them
abbrev pub lax_ipv4_source : (bytes header : List ℕ) → LenSource
lax_ipv4_source bytes header = if is_ipv4_open header then Slice
    else source_within (length bytes) (total_len_of header) Ipv4HeaderTotalLen

-- the packet of this header and this authentication header, or none
abbrev pub lax_ipv4_of : (bytes header : List ℕ) → Option (List ℕ) → LaxIpv4Packet
lax_ipv4_of bytes header auth = record {
  header = header;
  auth = auth;
  incomplete = is_ipv4_cut bytes header;
  payload = record {
    ip_number = record { 0 = number_after (protocol_of header) auth };
    fragmented = is_fragment header;
    len_source = lax_ipv4_source bytes header;
    payload = drop (length (auth_bytes auth)) (lax_ipv4_body bytes header);
  };
}

-- a packet, and the fault of its authentication header at which it was left
abbrev pub StoppedIpv4 : Type 0
StoppedIpv4 = LaxIpv4Packet × Option (SliceError AuthFault)

-- with the authentication header, or with its fault
abbrev pub lax_ipv4_with : (bytes header : List ℕ)
    → Result (Option (List ℕ)) (SliceError AuthFault) → StoppedIpv4
lax_ipv4_with bytes header (Ok auth) = (lax_ipv4_of bytes header auth, None)
lax_ipv4_with bytes header (Err e) = (
  lax_ipv4_of bytes header None,
  Some (fault_within (lax_ipv4_source bytes header) (length header) e),
)

abbrev pub lax_ipv4_after : List ℕ → Result (List ℕ) (SliceError Ipv4HeaderFault)
    → Result StoppedIpv4 (SliceError Ipv4HeaderFault)
lax_ipv4_after bytes (Err e) = Err e
lax_ipv4_after bytes (Ok header) = Ok (lax_ipv4_with bytes header
    (auth_after (protocol_of header) (lax_ipv4_body bytes header)))

-- the packet at the start of the bytes, as far as it is there, with what stopped it; or the fault of
-- its header
abbrev pub lax_ipv4_packet_at : List ℕ → Result StoppedIpv4 (SliceError Ipv4HeaderFault)
lax_ipv4_packet_at bytes = lax_ipv4_after bytes (v4.header_at bytes)

-- a whole packet, of which nothing is missing
abbrev pub whole_ipv4 : Ipv4Packet → LaxIpv4Packet
whole_ipv4 packet = record {
  header = packet.header;
  auth = packet.auth;
  incomplete = false;
  payload = ipv4_payload packet;
}

-- the parts of an IPv6 packet as far as it is there, and whether bytes of it are missing
pub record LaxIpv6Packet : Type 0 where
  pub header : List ℕ
  pub exts : Ipv6Exts
  pub incomplete : Bool
  pub payload : IpPayload

-- fewer bytes follow the header than its payload length
abbrev pub is_ipv6_cut : (bytes header : List ℕ) → Bool
is_ipv6_cut bytes header = nat_lt (length bytes - 40) (body_len header (length bytes - 40))

-- what bounds the bytes after the header
abbrev pub lax_ipv6_source : (bytes header : List ℕ) → LenSource
lax_ipv6_source bytes header = source_within (length bytes - 40)
    (body_len header (length bytes - 40)) (body_source header (length bytes - 40))

-- the packet of this header and these extension headers
abbrev pub lax_ipv6_of : (bytes header : List ℕ) → List Piece → LaxIpv6Packet
lax_ipv6_of bytes header pieces = record {
  header = header;
  exts = exts_of (next_header_of header) pieces;
  incomplete = is_ipv6_cut bytes header;
  payload = record {
    ip_number = record { 0 = ipv6.number_after (next_header_of header) pieces };
    fragmented = list_any is_fragmenting_piece pieces;
    len_source = lax_ipv6_source bytes header;
    payload = ipv6.rest_after bytes header pieces;
  };
}

-- a packet, and the fault of an extension header at which it was left, with the layer in which it is
abbrev pub StoppedIpv6 : Type 0
StoppedIpv6 = LaxIpv6Packet × Option Fault

-- a fault of an extension header in what this source bounds, counted from the start of the packet
abbrev pub row_fault_within : LenSource → Fault → Fault
row_fault_within source fault = (fault_within source 40 fault.0, fault.1)

abbrev pub lax_ipv6_with : (bytes header : List ℕ) → List Piece → StoppedIpv6
lax_ipv6_with bytes header pieces = (
  lax_ipv6_of bytes header pieces,
  option_map (row_fault_within (lax_ipv6_source bytes header)) (fault_of view_order pieces
      (ipv6.number_after (next_header_of header) pieces) (ipv6.rest_after bytes header pieces)),
)

abbrev pub lax_ipv6_after : List ℕ → Result (List ℕ) (SliceError Ipv6HeaderFault)
    → Result StoppedIpv6 (SliceError Ipv6HeaderFault)
lax_ipv6_after bytes (Err e) = Err e
lax_ipv6_after bytes (Ok header) = Ok (lax_ipv6_with bytes header
    (ipv6.extensions_of (next_header_of header) (ipv6.body_of bytes header)))

-- the packet at the start of the bytes, as far as it is there, with what stopped it; or the fault of
-- its header
abbrev pub lax_ipv6_packet_at : List ℕ → Result StoppedIpv6 (SliceError Ipv6HeaderFault)
lax_ipv6_packet_at bytes = lax_ipv6_after bytes (v6.header_at bytes)

-- a whole packet, of which nothing is missing
abbrev pub whole_ipv6 : Ipv6Packet → LaxIpv6Packet
whole_ipv6 packet = record {
  header = packet.header;
  exts = packet.exts;
  incomplete = false;
  payload = packet.payload;
}
