-- The IPv4 packet, as far as it is there.
use Rattle.std.proofs.Common.{◌≡◌, ℕ, ◌+◌, ◌-◌, ◌≤◌, Bool, List, length, take, drop, Option}
use Rattle.std.proofs.Common.{None, Result, Ok, arith}
use Rattle.std.proofs.lemmas.Bool.{le-ltb}
use Rattle.std.proofs.lemmas.List.{drop-take, drop_at}
use Rattle.ep_base.specs.declared.err.slice_error.SliceError.{SliceError}
use Rattle.ep_base.specs.declared.len_source.LenSource.{LenSource}
use Rattle.ep_base.specs.declared.net.ip_number.IpNumber.{IpNumber}
use Rattle.ep_ip.specs.Ipv4.{is_fragment, protocol_of, total_len_of}
use Rattle.ep_ip.specs.Ipv4Fault.{header_at}
use Rattle.ep_ip.specs.declared.err.ipv4.header_error.HeaderError.{HeaderError as HeaderFault}
use Rattle.ep_ext.specs.Ipv4Exts.{auth_after, auth_bytes}
use Rattle.ep_ipslice.specs.Ipv4Lax.{IsLaxAnswer}
use Rattle.ep_ipslice.specs.Ipv4Packet.{body_of}
use Rattle.ep_ipslice.specs.LaxPackets.{LaxIpv4Packet, StoppedIpv4, is_ipv4_cut}
use Rattle.ep_ipslice.specs.LaxPackets.{lax_ipv4_body, lax_ipv4_packet_at, lax_ipv4_source}
use Rattle.ep_ipslice.proofs.Ipv4Parts.{IsFound, auth_found}

-- the bytes after a header that its total length takes
pub body_is : (bytes header following body : List ℕ) (n total : ℕ) → n ≡ length header
    → total ≡ total_len_of header → n ≤ total → following ≡ drop n bytes
    → body ≡ take (total - n) following → body ≡ lax_ipv4_body bytes header
body_is bytes header following body n total size counted fits split cut =
    let whole : n + (total - n) ≡ total = omega (arith, fits) in
    let same = drop-take n (total - n) bytes in
    grind (arith, le-ltb)

-- where the total length isn't below the header's own, they are those that it bounds
pub body_here : (bytes header body : List ℕ) → length header ≤ total_len_of header
    → body ≡ lax_ipv4_body bytes header → body ≡ body_of header bytes
body_here bytes header body fits is = grind (arith, le-ltb)

-- a packet of these parts
abbrev pub parts : List ℕ → Option (List ℕ) → Bool → IpNumber → Bool → LenSource → List ℕ → LaxIpv4Packet
parts header auth incomplete number fragmented source payload = record {
  header = header;
  auth = auth;
  incomplete = incomplete;
  payload = record {
    ip_number = number;
    fragmented = fragmented;
    len_source = source;
    payload = payload;
  };
}

-- what was read of a packet before its extension headers
pub record IsRead (bytes header body : List ℕ) (protocol : IpNumber) (incomplete : Bool)
    (fragmented : Bool) (source : LenSource) : Type 0 where
  pub at : header_at bytes ≡ Ok header
  pub named : protocol.0 ≡ protocol_of header
  pub taken : body ≡ lax_ipv4_body bytes header
  pub cut : incomplete ≡ is_ipv4_cut bytes header
  pub flag : fragmented ≡ is_fragment header
  pub bounded : source ≡ lax_ipv4_source bytes header

abbrev Answer : Type 0
Answer = Result StoppedIpv4 (SliceError HeaderFault)

-- no fault was found
pub read_whole : IsFound → (bytes header body payload : List ℕ) (auth : Option (List ℕ))
    (protocol number : IpNumber) (incomplete fragmented : Bool) (source : LenSource)
    → IsRead bytes header body protocol incomplete fragmented source
    → IsLaxAnswer protocol body auth number payload None →
    ◌≡◌ {A = Answer}
    (Ok (parts header auth incomplete number fragmented source payload, None))
    (lax_ipv4_packet_at bytes)
read_whole found bytes header body payload auth protocol number incomplete fragmented source is lax =
    let after : auth_after (protocol_of header) (lax_ipv4_body bytes header) ≡ Ok auth =
    grind (arith, auth_found) in
    let left : drop (length (auth_bytes auth)) (lax_ipv4_body bytes header) ≡ payload =
    grind (arith, drop_at) in
    grind arith
