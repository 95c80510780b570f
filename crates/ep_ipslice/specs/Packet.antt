-- IP packets: base header, extension headers, payload and padding (IPv4: RFC 791, section 3.1, and
-- RFC 4302, section 3.1.1; IPv6: RFC 8200, sections 3 and 4), and what a packet says of its
-- payload.
use Rattle.std.specs.Prelude.{◌≡◌, ℕ, ◌+◌, ◌-◌, ◌==◌, ◌&&◌, nat_lt, Bool, false, if◌then◌else◌, List, [], ◌++◌, length}
use Rattle.std.specs.Prelude.{Option}
use Rattle.std.specs.Option.{option_map}
use Rattle.std.specs.List.{list_any}
use Rattle.ep_base.specs.declared.len_source.LenSource.{LenSource}
use Rattle.ep_base.specs.declared.len_source.LenSource.TheVariants.{Slice, Ipv4HeaderTotalLen, Ipv6HeaderPayloadLen}
use Rattle.ep_base.specs.declared.net.ip_number.IpNumber.{IpNumber}
use Rattle.ep_ip.specs.Ipv4 as v4
use Rattle.ep_ip.specs.Ipv6 as v6
use Rattle.ep_ext.specs.Chain.{Row}
use Rattle.ep_ext.specs.Follow.{has_slot}
use Rattle.ep_ext.specs.Fragment.{fragment_header_of}
use Rattle.ep_ext.specs.Value.{Piece, bytes_of, piece_at}
use Rattle.ep_ext.specs.Ipv4Exts.{IsAuthAfter, auth_bytes, number_after}
use Rattle.ep_ext.specs.declared.net.ipv6_ext_slot.Ipv6ExtSlot.TheVariants.{Fragment}
use Rattle.ep_ipslice.specs.Ipv6Exts.{Ipv6Exts, exts_of, view_order, is_fragmenting_piece}

-- the payload of a packet: its protocol number, whether it is a fragment, what its length came
-- from, and its bytes
pub record IpPayload : Type 0 where
  pub ip_number : IpNumber
  pub fragmented : Bool
  pub len_source : LenSource
  pub payload : List ℕ

-- what a packet says of its payload as a fragment: the identification that all fragments of a
-- datagram share, the offset of the payload in units of 8 bytes, and whether more fragments follow
pub record FragmentFields : Type 0 where
  pub identification : ℕ
  pub offset : ℕ
  pub more : Bool

-- of these three
abbrev pub fragment_fields : ℕ × ℕ × Bool → FragmentFields
fragment_fields triple = record { identification = triple.0; offset = triple.1; more = triple.2 }

-- by the IPv4 header (RFC 791, section 3.1)
abbrev pub ipv4_fragment_fields : List ℕ → FragmentFields
ipv4_fragment_fields header = record {
  identification = v4.identification_of header;
  offset = v4.fragment_offset_of header;
  more = v4.more_fragments_of header;
}

-- by the first fragment header among these extension headers (RFC 8200, section 4.5), if there is
-- one
abbrev pub ipv6_fragment_fields : List Piece → Option FragmentFields
ipv6_fragment_fields pieces = option_map (λ header. record {
  identification = (fragment_header_of header).identification;
  offset = (fragment_header_of header).fragment_offset;
  more = (fragment_header_of header).more_fragments;
}) (piece_at pieces Fragment)

-- the parts of an IPv4 packet
pub record Ipv4Packet : Type 0 where
  pub header : List ℕ
  pub auth : Option (List ℕ)
  pub payload : List ℕ

-- the bytes start with this packet: its parts have the header's total length, and padding may
-- follow
pub record IsIpv4Packet (bytes : List ℕ) (packet : Ipv4Packet) : Type 0 where
  pub padding : List ℕ
  pub cut : bytes ≡ packet.header ++ auth_bytes packet.auth ++ packet.payload ++ padding
  pub header : v4.IsIpv4Header packet.header
  pub auth : IsAuthAfter (v4.protocol_of packet.header) packet.auth
  pub total : length packet.header + length (auth_bytes packet.auth) + length packet.payload
      ≡ v4.total_len_of packet.header

-- the bytes of a packet, without padding
abbrev pub ipv4_bytes : Ipv4Packet → List ℕ
ipv4_bytes packet = packet.header ++ auth_bytes packet.auth ++ packet.payload

-- a packet by itself: its own bytes begin with it
abbrev pub IsWholeIpv4 : Ipv4Packet → Type 0
IsWholeIpv4 packet = IsIpv4Packet (ipv4_bytes packet) packet

abbrev pub ipv4_payload : Ipv4Packet → IpPayload
ipv4_payload packet = record {
  ip_number = record { 0 = number_after (v4.protocol_of packet.header) packet.auth };
  fragmented = v4.is_fragment packet.header;
  len_source = Ipv4HeaderTotalLen;
  payload = packet.payload;
}

-- the parts of an IPv6 packet
pub record Ipv6Packet : Type 0 where
  pub header : List ℕ
  pub exts : Ipv6Exts
  pub payload : IpPayload

abbrev pub ipv6_bytes : Ipv6Packet → List ℕ
ipv6_bytes packet = packet.header ++ packet.exts.slice ++ packet.payload.payload

-- how long extension headers and payload are, where so many bytes follow the header: a payload
-- length of 0, where there are some, doesn't say it (RFC 2675, section 3)
abbrev pub body_len : List ℕ → ℕ → ℕ
body_len header following =
    if (v6.payload_length_of header == 0) && nat_lt 0 following then following
    else v6.payload_length_of header

-- what that length came from
abbrev pub body_source : List ℕ → ℕ → LenSource
body_source header following =
    if (v6.payload_length_of header == 0) && nat_lt 0 following then Slice else Ipv6HeaderPayloadLen

-- the bytes start with this header, and as many of those after it as its payload length says are
-- the body, extension headers and payload; padding may follow
pub record IsIpv6Body (bytes header : List ℕ) (source : LenSource) (body : List ℕ) : Type 0 where
  pub padding : List ℕ
  pub cut : bytes ≡ header ++ body ++ padding
  pub whole : v6.IsIpv6Header header
  pub size : length body ≡ body_len header (length bytes - 40)
  pub bounded : source ≡ body_source header (length bytes - 40)

-- the bytes start with this packet: its extension headers follow the header, in a row up to a
-- number that names none, and its payload, and padding may follow
pub record IsIpv6Packet (bytes : List ℕ) (packet : Ipv6Packet) : Type 0 where
  pub pieces : List Piece
  pub last : ℕ
  pub padding : List ℕ
  pub cut : bytes ≡ packet.header ++ bytes_of pieces ++ packet.payload.payload ++ padding
  pub header : v6.IsIpv6Header packet.header
  pub row : Row view_order [] (v6.next_header_of packet.header) pieces last
  pub ended : has_slot last ≡ false
  pub size : length (bytes_of pieces) + length packet.payload.payload
      ≡ body_len packet.header (length bytes - 40)
  pub exts : packet.exts ≡ exts_of (v6.next_header_of packet.header) pieces
  pub fields : packet.payload ≡ record {
    ip_number = record { 0 = last };
    fragmented = list_any is_fragmenting_piece pieces;
    len_source = body_source packet.header (length bytes - 40);
    payload = packet.payload.payload;
  }

-- a packet by itself: its own bytes begin with it
abbrev pub IsWholeIpv6 : Ipv6Packet → Type 0
IsWholeIpv6 packet = IsIpv6Packet (ipv6_bytes packet) packet
