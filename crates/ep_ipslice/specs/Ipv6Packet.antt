-- The IPv6 packet at the start of bytes, or why there is none (RFC 8200, sections 3 and 4).
use Rattle.std.specs.Prelude.{ℕ, ◌-◌, nat_lt, if◌then◌else◌, List, [], ◌∷◌, length, take, drop, ◌+◌}
use Rattle.std.specs.Prelude.{Result, Ok, Err}
use Rattle.std.specs.Option.{option_map_or}
use Rattle.std.specs.List.{list_any}
use Rattle.ep_base.specs.Bytes.{num}
use Rattle.ep_ip.specs.Ipv6.{next_header_of, payload_length_of}
use Rattle.ep_ip.specs.Ipv6Fault.{header_at}
use Rattle.ep_ip.specs.declared.err.ipv6.header_error.HeaderError.{HeaderError as HeaderFault}
use Rattle.ep_base.specs.LenError.{too_few_bytes}
use Rattle.ep_base.specs.declared.err.layer.Layer.TheVariants as layer
use Rattle.ep_base.specs.declared.err.slice_error.SliceError.{SliceError as HeaderSliceError}
use Rattle.ep_ext.specs.Chain.{Fault, fault_of}
use Rattle.ep_ext.specs.Value.{Piece, bytes_of}
use Rattle.ep_ipslice.specs.Ipv6Exts.{exts_of, view_order, is_fragmenting_piece}
use Rattle.ep_ipslice.specs.Ipv6Fault.{of_exts_fault, of_header_fault}
use Rattle.ep_ipslice.specs.Ipv6Walk.{pieces_within}
use Rattle.ep_ipslice.specs.Packet.{Ipv6Packet, body_len, body_source}
use Rattle.ep_ipslice.specs.declared.err.ipv6.slice_error.SliceError.{SliceError}
use Rattle.ep_ipslice.specs.declared.err.ipv6.slice_error.SliceError.TheVariants.{Len}

-- the body of the packet after the header, bounded by the payload length
abbrev pub body_of : (bytes header : List ℕ) → List ℕ
body_of bytes header = take (body_len header (length bytes - 40)) (drop 40 bytes)

-- the extension headers at the start of a body, of which the first has this number. (None is
-- empty.)
abbrev pub extensions_of : ℕ → List ℕ → List Piece
extensions_of first body = pieces_within (length body) view_order [] first body

-- the number that headers in a row name last
abbrev pub number_after : ℕ → List Piece → ℕ
number_after first [] = first
number_after first (piece ∷ pieces) = number_after (num piece.1 0 1) pieces

-- what is left of the body after these headers
abbrev pub rest_after : (bytes header : List ℕ) → List Piece → List ℕ
rest_after bytes header pieces = drop (length (bytes_of pieces)) (body_of bytes header)

abbrev pub ipv6_packet_of : (bytes header : List ℕ) → List Piece → Ipv6Packet
ipv6_packet_of bytes header pieces = record {
  header = header;
  exts = exts_of (next_header_of header) pieces;
  payload = record {
    ip_number = record { 0 = number_after (next_header_of header) pieces };
    fragmented = list_any is_fragmenting_piece pieces;
    len_source = body_source header (length bytes - 40);
    payload = rest_after bytes header pieces;
  };
}

-- the packet of this header and of the extension headers after it, or its first fault
abbrev pub packet_after : List ℕ → Result (List ℕ) (HeaderSliceError HeaderFault)
    → Result Ipv6Packet SliceError
packet_after bytes (Err e) = Err (of_header_fault e)
packet_after bytes (Ok header) =
    let pieces = extensions_of (next_header_of header) (body_of bytes header) in
    if nat_lt (length bytes - 40) (body_len header (length bytes - 40))
    then Err (Len (too_few_bytes layer.Ipv6Packet (40 + payload_length_of header) (length bytes)))
    else option_map_or
    (λ (fault : Fault). Err (of_exts_fault (body_source header (length bytes - 40)) fault.0))
    (fault_of view_order pieces (number_after (next_header_of header) pieces)
    (rest_after bytes header pieces)) (Ok (ipv6_packet_of bytes header pieces))

-- the packet at the start of the bytes, or the first fault
abbrev pub ipv6_packet_at : List ℕ → Result Ipv6Packet SliceError
ipv6_packet_at bytes = packet_after bytes (header_at bytes)

-- the extension headers of a packet, in their order
abbrev pub extensions_in : Ipv6Packet → List Piece
extensions_in packet = extensions_of (next_header_of packet.header) packet.exts.slice
