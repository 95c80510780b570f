-- The headers of the IP packet at the start of bytes, and its payload (RFC 791; RFC 8200).
use Rattle.std.specs.Prelude.{◌≡◌, ◌⊎◌, ℕ, List, None}
use Rattle.ep_base.specs.declared.len_source.LenSource.{LenSource}
use Rattle.ep_ext.specs.Chain.{Chain, fault_of}
use Rattle.ep_ext.specs.Slot.{slot_of}
use Rattle.ep_ext.specs.Value.{Piece, value_of}
use Rattle.ep_ip.specs.Ipv6 as v6
use Rattle.ep_ipslice.specs.IpFault.{headers_fault}
use Rattle.ep_ipslice.specs.IpSlice.{IsIpFaultIn}
use Rattle.ep_ipslice.specs.Packet.{IpPayload, Ipv4Packet, IsIpv4Packet, IsIpv6Body}
use Rattle.ep_ipslice.specs.declared.err.ip.headers_slice_error.HeadersSliceError.{HeadersSliceError}
use Rattle.ep_ipslice.specs.declared.err.ip.slice_error.SliceError.{SliceError}
use Rattle.ep_packet.specs.IpHeaders.{ipv4_parts, is_fragmenting}
use Rattle.ep_packet.specs.declared.net.ip_headers.IpHeaders.{IpHeaders}
use Rattle.ep_packet.specs.declared.net.ip_headers.IpHeaders.TheVariants.{Ipv6}

-- the bytes start with an IPv4 packet that has these headers and this payload
pub record IsIpv4Headers (bytes : List ℕ) (headers : IpHeaders) (payload : IpPayload) : Type 0 where
  pub packet : Ipv4Packet
  pub begins : IsIpv4Packet bytes packet
  pub value : (headers, payload) ≡ ipv4_parts packet

-- the bytes start with an IPv6 header, and its payload length counts extension headers in a row,
-- each in a slot of its own, and the payload, which is of the number that the row names last
pub record IsIpv6Headers (bytes : List ℕ) (headers : IpHeaders) (payload : IpPayload) : Type 0 where
  pub header : List ℕ
  pub source : LenSource
  pub body : List ℕ
  pub pieces : List Piece
  pub last : ℕ
  pub begins : IsIpv6Body bytes header source body
  pub chain : Chain slot_of (v6.next_header_of header) body pieces last payload.payload
  pub ended : fault_of slot_of pieces last payload.payload ≡ None
  pub value : headers ≡ Ipv6 (v6.ipv6_header_of header) (value_of pieces)
  pub returned : payload ≡ record {
    ip_number = record { 0 = last };
    fragmented = is_fragmenting headers;
    len_source = source;
    payload = payload.payload;
  }

-- of one version or the other
abbrev pub IsIpHeaders : List ℕ → IpHeaders → IpPayload → Type 0
IsIpHeaders bytes headers payload = IsIpv4Headers bytes headers payload
    ⊎ IsIpv6Headers bytes headers payload

-- the first fault of the headers of a packet is that of the packet, where each extension header of
-- IPv6 is in a slot of its own
abbrev pub IsIpHeadersFault : List ℕ → HeadersSliceError → Type 0
IsIpHeadersFault bytes e = (fault : SliceError) × IsIpFaultIn slot_of bytes fault
    × (e ≡ headers_fault fault)
