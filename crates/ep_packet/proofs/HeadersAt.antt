-- The headers of the IPv6 packet at the start of bytes are those that are there, and the fault is
-- the first.
use Rattle.std.proofs.Common.{◌≡◌, ◌∙◌, sym, ap, subst, refl, ℕ, ◌+◌, ◌-◌, true, false, List, [], ◌∷◌, ◌++◌, length}
use Rattle.std.proofs.Common.{take, drop, Result, Ok, Err, IfOk, IfErr, arith, append_assoc, length-append}
use Rattle.std.specs.Prelude.{nat_lt}
use Rattle.std.proofs.lemmas.Bool.{lt-ltb, le-ltb}
use Rattle.std.proofs.lemmas.List.{take_at, drop_at}
use Rattle.ep_base.specs.Bytes.{num}
use Rattle.ep_base.specs.declared.len_source.LenSource.{LenSource}
use Rattle.ep_ext.specs.Chain.{Chain, Row, fault_of}
use Rattle.ep_ext.specs.Slot.{Order, slot_of}
use Rattle.ep_ext.specs.Value.{Piece}
use Rattle.ep_ext.specs.declared.net.ipv6_ext_slot.Ipv6ExtSlot.{Ipv6ExtSlot}
use Rattle.ep_ip.specs.Ipv6.{next_header_of}
use Rattle.ep_ip.proofs.Ipv6Prefix.{prefix_again}
use Rattle.ep_ipslice.specs.Ipv6Fault.{IsFaultIn}
use Rattle.ep_ipslice.specs.Ipv6Packet.{body_of, number_after, rest_after}
use Rattle.ep_ipslice.specs.Ipv6Walk.{pieces_within}
use Rattle.ep_ipslice.specs.Packet.{IpPayload, IsIpv6Body, body_len}
use Rattle.ep_ipslice.specs.declared.err.ipv6.slice_error.SliceError.{SliceError}
use Rattle.ep_ipslice.specs.declared.err.ipv6.slice_error.SliceError.TheVariants.{Len}
use Rattle.ep_ipslice.proofs.Found.{not_whole}
use Rattle.ep_packet.specs.IpHeadersAt.{fault_after, ipv6_headers_at, ipv6_parts, ipv6_parts_unless, ipv6_parts_with}
use Rattle.ep_packet.specs.IpHeadersAt.{headers_in_slots}
use Rattle.ep_packet.specs.ReadIpHeaders.{IsIpv6Headers}
use Rattle.ep_packet.specs.declared.net.ip_headers.IpHeaders.{IpHeaders}
use Rattle.ep_packet.proofs.ReadHeaders.{Parts}

-- that headers in a row are found one by one
abbrev pub RowsFound : Type 0
RowsFound =
    (order : Order) (first : ℕ) (bytes : List ℕ) (pieces : List Piece) (last : ℕ) (rest : List ℕ)
    → Chain order first bytes pieces last rest
    → pieces_within (length bytes) order [] first bytes ≡ pieces

-- the number that a row names last
pub number_is : (order : Order) (passed : List Ipv6ExtSlot) (number : ℕ) (pieces : List Piece)
    (last : ℕ) → Row order passed number pieces last → number_after number pieces ≡ last
number_is order passed number [] last row = row
number_is order passed number (piece ∷ pieces) last row =
    number_is order (passed ++ piece.0 ∷ []) (num piece.1 0 1) pieces last row.2

-- the parts of a row in a body
pub record RowIn (bytes header : List ℕ) (pieces : List Piece) (last : ℕ) (rest : List ℕ) : Type 0 where
  pub pieces_are : headers_in_slots (next_header_of header) (body_of bytes header) ≡ pieces
  pub number : number_after (next_header_of header) pieces ≡ last
  pub left : rest_after bytes header pieces ≡ rest

pub row_in : RowsFound → (bytes header : List ℕ) (pieces : List Piece) (last : ℕ) (rest : List ℕ)
    → Chain slot_of (next_header_of header) (body_of bytes header) pieces last rest
    → RowIn bytes header pieces last rest
row_in found bytes header pieces last rest chain = record {
  pieces_are = found slot_of (next_header_of header) (body_of bytes header) pieces last rest chain;
  number = number_is slot_of [] (next_header_of header) pieces last chain.row;
  left = grind (arith, drop_at);
}

pub fault_is : (bytes header : List ℕ) (pieces : List Piece) (last : ℕ) (rest : List ℕ)
    → RowIn bytes header pieces last rest
    → fault_after bytes header pieces ≡ fault_of slot_of pieces last rest
fault_is bytes header pieces last rest row = grind arith

whole_is : (bytes header : List ℕ) (pieces : List Piece)
    → nat_lt (length bytes - 40) (body_len header (length bytes - 40)) ≡ false →
    ipv6_parts_with bytes header pieces ≡ ipv6_parts_unless bytes header pieces
    (fault_after bytes header pieces)
whole_is bytes header pieces whole = rw whole refl

short_is : (bytes header : List ℕ) (pieces : List Piece)
    → nat_lt (length bytes - 40) (body_len header (length bytes - 40)) ≡ true
    → ipv6_parts_with bytes header pieces ≡ Err (Len (not_whole header (length bytes)))
short_is bytes header pieces short = rw short refl

-- what the payload length gives a header
body_is : (bytes header : List ℕ) (source : LenSource) (body : List ℕ)
    → IsIpv6Body bytes header source body → body_of bytes header ≡ body
body_is bytes header source body is =
    let parts : bytes ≡ header ++ (body ++ is.padding) =
    grind (arith, append_assoc) in
    ap (λ (xs : List ℕ). take (body_len header (length bytes - 40)) (drop 40 xs)) parts
    ∙ ap (take (body_len header (length bytes - 40)))
    (drop_at header (body ++ is.padding) 40 is.whole.whole)
    ∙ take_at body is.padding (body_len header (length bytes - 40)) is.size

-- the headers and the payload of a row are those that are there
parts_same : (bytes : List ℕ) (headers : IpHeaders) (payload : IpPayload)
    (is : IsIpv6Headers bytes headers payload)
    → RowIn bytes is.header is.pieces is.last payload.payload →
    ipv6_parts bytes is.header is.pieces ≡ (headers, payload)
parts_same bytes headers payload is row = grind arith

-- bytes that start with headers
pub parts_are : RowsFound → (bytes : List ℕ) (headers : IpHeaders) (payload : IpPayload)
    → IsIpv6Headers bytes headers payload → ipv6_headers_at bytes ≡ Ok (headers, payload)
parts_are found bytes headers payload is =
    let header = is.header in
    let parts : bytes ≡ header ++ (is.body ++ is.begins.padding) =
    grind (arith, append_assoc) in
    let chain = subst (λ (xs : List ℕ). Chain slot_of
    (next_header_of header) xs is.pieces is.last payload.payload)
    (sym (body_is bytes header is.source is.body is.begins)) is.chain in
    let row = row_in found bytes header is.pieces is.last payload.payload chain in
    let all : length bytes ≡ 40 + (length is.body + length is.begins.padding) =
    grind (arith, length-append) in
    let whole : nat_lt (length bytes - 40) (body_len header (length bytes - 40)) ≡ false =
    grind arith in
    grind (arith, prefix_again, whole_is, fault_is, parts_same)

-- bytes that start with none
pub fault_agrees : RowsFound → (bytes : List ℕ) (e : SliceError) → IsFaultIn slot_of bytes e
    → ipv6_headers_at bytes ≡ Err e
fault_agrees found bytes e h = grind (arith, short_is, lt-ltb, row_in, whole_is, le-ltb, fault_is)

-- a call that reports every fault returns what is there
pub found_exactly : RowsFound → (bytes : List ℕ) (r : Result Parts SliceError)
    → IfOk r (λ p. IsIpv6Headers bytes p.0 p.1) → IfErr r (λ e. IsFaultIn slot_of bytes e)
    → r ≡ ipv6_headers_at bytes
found_exactly found bytes (Ok parts) taken refused =
    sym (parts_are found bytes parts.0 parts.1 taken)
found_exactly found bytes (Err e) taken refused = sym (fault_agrees found bytes e refused)
