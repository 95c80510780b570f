-- The headers of the IP packet at the start of bytes.
use Rattle.std.proofs.Common.{◌≡◌, ◌↔◌, ℕ, ◌==◌, Bool, true, false, List, length, None}
use Rattle.std.proofs.Common.{Result, Ok, Err, refl, sym, ap, ◌∙◌, arith, inl, inr}
use Rattle.std.specs.Option.{option_map_or}
use Rattle.std.specs.Prelude.{if◌then◌else◌}
use Rattle.ep_base.specs.declared.len_source.LenSource.{LenSource}
use Rattle.ep_base.specs.declared.net.ip_number.IpNumber.{IpNumber}
use Rattle.ep_base.proofs.Prefixes.{ok_same}
use Rattle.ep_ext.specs.Chain.{Chain, fault_of}
use Rattle.ep_ext.specs.Fragment.{fragments}
use Rattle.ep_ext.specs.Slot.{Order, slot_of}
use Rattle.ep_ext.specs.Value.{Piece, value_of}
use Rattle.ep_ext.specs.declared.net.ipv6_extensions.Ipv6Extensions.{Ipv6Extensions}
use Rattle.ep_ip.specs.Ipv4 as v4
use Rattle.ep_ip.specs.Ipv6 as v6
use Rattle.ep_ip.specs.declared.net.ipv6_header.Ipv6Header.{Ipv6Header}
use Rattle.ep_ipslice.specs.IpSlice.{no_version}
use Rattle.ep_ipslice.specs.Ipv4Packet.{ipv4_packet_at}
use Rattle.ep_ipslice.specs.Ipv6Fault.{IsFaultIn, IsPrefixFault, InHeader, InLength, OfHeader, OfLength}
use Rattle.ep_ipslice.specs.Packet.{IpPayload, Ipv4Packet, IsIpv4Packet, IsIpv6Body}
use Rattle.ep_ipslice.specs.declared.err.ip.header_error.HeaderError.TheVariants.{UnsupportedIpVersion}
use Rattle.ep_ipslice.specs.declared.err.ip.headers_error.HeadersError.TheVariants.{Ip}
use Rattle.ep_ipslice.specs.declared.err.ip.headers_slice_error.HeadersSliceError.TheVariants as slice_error
use Rattle.ep_ipslice.specs.declared.err.ipv4.slice_error.SliceError.{SliceError as Ipv4Fault}
use Rattle.ep_ipslice.specs.declared.err.ipv6.slice_error.SliceError.{SliceError as Ipv6Fault}
use Rattle.ep_packet.specs.IpHeaders.{with_ipv4_headers}
use Rattle.ep_packet.specs.IpHeadersAt.{ip_headers_at, ipv4_headers_at, ipv6_headers_at, of_ipv4, of_ipv6}
use Rattle.ep_packet.specs.ReadIpHeaders.{IsIpHeaders, IsIpv4Headers, IsIpv6Headers}
use Rattle.ep_packet.specs.declared.net.ip_headers.IpHeaders.{IpHeaders}
use Rattle.ep_packet.specs.declared.net.ip_headers.IpHeaders.TheVariants.{Ipv6}
use Rattle.ep_ipslice.proofs.IpParts.{first_byte}
use Rattle.ep_packet.proofs.FoundLemmas.{some_version}

abbrev pub Parts : Type 0
Parts = IpHeaders × IpPayload

ipv4_there : (bytes : List ℕ)
    → ((packet : Ipv4Packet) → (ipv4_packet_at bytes ≡ Ok packet) ↔ IsIpv4Packet bytes packet)
    → (r : Result Ipv4Packet Ipv4Fault) (headers : IpHeaders) (payload : IpPayload)
    → ipv4_packet_at bytes ≡ r → with_ipv4_headers r ≡ Ok (headers, payload)
    → IsIpv4Headers bytes headers payload
ipv4_there bytes law (Ok packet) headers payload read is = record {
  packet = packet;
  begins = (law packet).0 read;
  value = sym (ok_same _ _ is);
}
ipv4_there bytes law (Err e) headers payload read is = cc

-- headers and payload of an IPv4 packet that bytes begin with
pub ipv4_headers_are : (bytes : List ℕ)
    → ((packet : Ipv4Packet) → (ipv4_packet_at bytes ≡ Ok packet) ↔ IsIpv4Packet bytes packet)
    → (headers : IpHeaders) (payload : IpPayload)
    → (ipv4_headers_at bytes ≡ Ok (headers, payload)) ↔ IsIpv4Headers bytes headers payload
ipv4_headers_are bytes law headers payload = (
  λ is. ipv4_there bytes law (ipv4_packet_at bytes) headers payload refl is,
  λ are. ap with_ipv4_headers ((law are.packet).1 are.begins) ∙ ap Ok (sym are.value),
)

-- a fault before the extension headers is the first one, whatever their order
pub prefix_fault : (order : Order) (bytes : List ℕ) (e : Ipv6Fault) → IsPrefixFault bytes e
    → IsFaultIn order bytes e
prefix_fault order bytes e (InHeader fault is error) = OfHeader fault is error
prefix_fault order bytes e (InLength header is cut) = OfLength header is cut

pub chain_same : (first number : ℕ) (body other : List ℕ) (pieces : List Piece) (last : ℕ)
    (rest : List ℕ) → first ≡ number → body ≡ other → Chain slot_of number other pieces last rest →
    Chain slot_of first body pieces last rest
chain_same first number body other pieces last rest named cut chain = grind arith

-- headers are where their header, their body and their extension headers were found
pub ipv6_found : (bytes : List ℕ) (h : Ipv6Header) (header : List ℕ) (source : LenSource)
    (body : List ℕ) (first : ℕ) (pieces : List Piece) (last : ℕ) (rest : List ℕ)
    (exts : Ipv6Extensions) (number : IpNumber) (fragmented : Bool) (left : List ℕ) →
    h ≡ v6.ipv6_header_of header → IsIpv6Body bytes header source body → first ≡ v6.next_header_of
    header
    → Chain slot_of first body pieces last rest → exts ≡ value_of pieces
    → number.0 ≡ last → left ≡ rest →
    fault_of slot_of pieces last rest ≡ None
    → fragmented ≡ option_map_or fragments exts.fragment false →
    IsIpv6Headers bytes (Ipv6 h exts)
    (record {
      ip_number = number;
      fragmented = fragmented;
      len_source = source;
      payload = left;
    })
ipv6_found bytes h header source body first pieces last rest exts number fragmented left fields
    begins named chain exts_is numbered left_is ended parted = record {
      header = header;
      source = source;
      body = body;
      pieces = pieces;
      last = last;
      begins = begins;
      chain = grind arith;
      ended = grind arith;
      value = λ i. Ipv6 (fields i) (exts_is i);
      returned = grind arith;
    }

ipv4_version : (bytes : List ℕ) (headers : IpHeaders) (payload : IpPayload)
    → IsIpv4Headers bytes headers payload → v4.version_of bytes ≡ 4
ipv4_version bytes headers payload is = grind (arith, first_byte)

ipv6_version : (bytes : List ℕ) (headers : IpHeaders) (payload : IpPayload)
    → IsIpv6Headers bytes headers payload → v4.version_of bytes ≡ 6
ipv6_version bytes headers payload is = grind (arith, first_byte)

of_ipv4_ok : (r : Result Parts Ipv4Fault) (parts : Parts) → of_ipv4 r ≡ Ok parts → r ≡ Ok parts
of_ipv4_ok r parts is = grind arith

of_ipv6_ok : (r : Result Parts Ipv6Fault) (parts : Parts) → of_ipv6 r ≡ Ok parts → r ≡ Ok parts
of_ipv6_ok r parts is = grind arith

-- of either version, where those of both are known
module _ (bytes : List ℕ)
    (ipv4 : (headers : IpHeaders) (payload : IpPayload)
    → (ipv4_headers_at bytes ≡ Ok (headers, payload)) ↔ IsIpv4Headers bytes headers payload)
    (ipv6 : (headers : IpHeaders) (payload : IpPayload)
    → (ipv6_headers_at bytes ≡ Ok (headers, payload)) ↔ IsIpv6Headers bytes headers payload) where
  there_by : (none four six : Bool) (headers : IpHeaders) (payload : IpPayload)
      → (if none then Err (slice_error.Len no_version)
      else (if four then of_ipv4 (ipv4_headers_at bytes)
      else (if six then of_ipv6 (ipv6_headers_at bytes)
      else Err (slice_error.Content (Ip (UnsupportedIpVersion (v4.version_of bytes)))))))
      ≡ Ok (headers, payload) → IsIpHeaders bytes headers payload
  there_by true four six headers payload is = cc
  there_by false true six headers payload is =
      inl ((ipv4 headers payload).0 (of_ipv4_ok (ipv4_headers_at bytes) (headers, payload) is))
  there_by false false true headers payload is =
      inr ((ipv6 headers payload).0 (of_ipv6_ok (ipv6_headers_at bytes) (headers, payload) is))
  there_by false false false headers payload is = cc

  of_four : v4.version_of bytes ≡ 4 → ip_headers_at bytes ≡ of_ipv4 (ipv4_headers_at bytes)
  of_four four = rw (some_version bytes 3 four, ap (λ (n : ℕ). n == 4) four) refl

  of_six : v4.version_of bytes ≡ 6 → ip_headers_at bytes ≡ of_ipv6 (ipv6_headers_at bytes)
  of_six six =
      rw (some_version bytes 5 six, ap (λ (n : ℕ). n == 4) six, ap (λ (n : ℕ). n == 6) six) refl

  found_of : (headers : IpHeaders) (payload : IpPayload) → IsIpHeaders bytes headers payload
      → ip_headers_at bytes ≡ Ok (headers, payload)
  found_of headers payload (inl is) =
      of_four (ipv4_version bytes headers payload is) ∙ ap of_ipv4 ((ipv4 headers payload).1 is)
  found_of headers payload (inr is) =
      of_six (ipv6_version bytes headers payload is) ∙ ap of_ipv6 ((ipv6 headers payload).1 is)

  pub ip_headers_are : (headers : IpHeaders) (payload : IpPayload)
      → (ip_headers_at bytes ≡ Ok (headers, payload)) ↔ IsIpHeaders bytes headers payload
  ip_headers_are headers payload = (
    λ is. there_by (length bytes == 0) (v4.version_of bytes == 4) (v4.version_of bytes == 6)
        headers payload is,
    found_of headers payload,
  )
