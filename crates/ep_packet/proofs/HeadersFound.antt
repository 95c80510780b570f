-- The headers that are found of the IPv6 packet at the start of bytes are there.
use Rattle.std.proofs.Common.{◌≡◌, ◌≤◌, ◌∙◌, ◌↔◌, sym, ap, subst, refl, ℕ, ◌-◌, Bool, true, false, List, [], ◌++◌, length, drop}
use Rattle.std.proofs.Common.{Option, Some, None, Result, Ok, Err, arith, append_assoc, take-append-drop}
use Rattle.std.specs.Prelude.{nat_lt, if◌then◌else◌}
use Rattle.std.proofs.lemmas.Bool.{ltb-false}
use Rattle.std.proofs.lemmas.List.{drop_at, length-drop, length-take-le}
use Rattle.ep_base.proofs.Prefixes.{ok_same}
use Rattle.ep_base.specs.declared.err.slice_error.SliceError.{SliceError as HeaderSliceError}
use Rattle.ep_ext.specs.Chain.{Chain, Fault, IsEnd, fault_at}
use Rattle.ep_ext.specs.Slot.{Order, slot_of}
use Rattle.ep_ext.specs.Value.{Piece, bytes_of, slots}
use Rattle.ep_ext.specs.declared.net.ipv6_ext_slot.Ipv6ExtSlot.{Ipv6ExtSlot}
use Rattle.ep_ip.specs.Ipv6.{IsIpv6Header, next_header_of}
use Rattle.ep_ip.specs.Ipv6Fault.{header_at}
use Rattle.ep_ip.specs.declared.err.ipv6.header_error.HeaderError.{HeaderError as HeaderFault}
use Rattle.ep_ipslice.specs.Ipv6Packet.{body_of, number_after}
use Rattle.ep_ipslice.specs.Packet.{IpPayload, IsIpv6Body, body_len, body_source}
use Rattle.ep_ipslice.specs.declared.err.ipv6.slice_error.SliceError.{SliceError}
use Rattle.ep_ipslice.specs.declared.err.ipv6.slice_error.SliceError.TheVariants.{Len}
use Rattle.ep_ipslice.proofs.Found.{IsWalk, header_found, none_open, not_whole, walk}
use Rattle.ep_packet.specs.IpHeadersAt.{fault_after, headers_in_slots, ipv6_headers_at, ipv6_parts, ipv6_parts_after}
use Rattle.ep_packet.specs.IpHeadersAt.{ipv6_parts_unless}
use Rattle.ep_packet.specs.ReadIpHeaders.{IsIpv6Headers}
use Rattle.ep_packet.specs.declared.net.ip_headers.IpHeaders.{IpHeaders}
use Rattle.ep_packet.proofs.HeadersAt.{RowsFound, parts_are}
use Rattle.ep_packet.proofs.ReadHeaders.{Parts}

-- where the order has no slot for a number, no header of it follows
no_slot : (order : Order) (passed : List Ipv6ExtSlot) (last : ℕ) (rest : List ℕ)
    → order passed last ≡ None → IsEnd order passed last rest
no_slot order passed last rest none slot header following named is same = cc (none, named)

-- the body that the payload length bounds
body_stands : (bytes header : List ℕ) → IsIpv6Header header → bytes ≡ header ++ drop 40 bytes
    → nat_lt (length bytes - 40) (body_len header (length bytes - 40)) ≡ false
    → IsIpv6Body bytes header (body_source header (length bytes - 40)) (body_of bytes header)
body_stands bytes header whole begins fits =
    let size : ℕ = body_len header (length bytes - 40) in
    let enough : size ≤ length (drop 40 bytes) =
    omega (arith, ltb-false (length bytes - 40) size fits, length-drop 40 bytes) in
    record {
      padding = drop size (drop 40 bytes);
      cut = grind (arith, take-append-drop, append_assoc);
      whole = whole;
      size = length-take-le size (drop 40 bytes) enough;
      bounded = refl;
    }

-- the extension headers in it, one by one, where they don't end at a fault
chain_stands : (first : ℕ) (body : List ℕ) (pieces : List Piece)
    → pieces ≡ headers_in_slots first body
    → fault_at (length (bytes_of pieces)) (slot_of (slots pieces) (number_after first pieces))
    (number_after first pieces) (drop (length (bytes_of pieces)) body) ≡ None
    → Chain slot_of first body pieces (number_after first pieces) (drop (length (bytes_of pieces)) body)
chain_stands first body pieces are none =
    let last : ℕ = number_after first pieces in
    let exts : List ℕ = bytes_of pieces in
    let here : IsWalk slot_of [] first body pieces = subst (IsWalk slot_of [] first body) (sym are)
    (walk (length body) slot_of [] first body (omega arith)) in
    let left : here.rest ≡ drop (length exts) body =
    sym (drop_at exts here.rest (length exts) refl) ∙ ap (drop (length exts)) (sym here.cut) in
    let closed = none_open (slot_of (slots pieces) last) last here.rest (length exts) here.ended
    (ap (fault_at (length exts) (slot_of (slots pieces) last) last) left ∙ none) in
    record {
      row = here.row;
      cut = here.cut ∙ ap (λ (xs : List ℕ). exts ++ xs) left;
      ended = no_slot slot_of (slots pieces) last (drop (length exts) body) closed.0;
    }

parts_stand : (bytes header : List ℕ) (pieces : List Piece)
    → IsIpv6Header header → bytes ≡ header ++ drop 40 bytes
    → nat_lt (length bytes - 40) (body_len header (length bytes - 40)) ≡ false
    → pieces ≡ headers_in_slots (next_header_of header) (body_of bytes header)
    → fault_after bytes header pieces ≡ None
    → IsIpv6Headers bytes (ipv6_parts bytes header pieces).0 (ipv6_parts bytes header pieces).1
parts_stand bytes header pieces whole begins fits are none = record {
  header = header;
  source = body_source header (length bytes - 40);
  body = body_of bytes header;
  pieces = pieces;
  last = number_after (next_header_of header) pieces;
  begins = body_stands bytes header whole begins fits;
  chain = chain_stands (next_header_of header) (body_of bytes header) pieces are none;
  ended = none;
  value = refl;
  returned = refl;
}

unless_there : (bytes header : List ℕ) (pieces : List Piece) (o : Option Fault) (parts : Parts)
    → IsIpv6Header header × (bytes ≡ header ++ drop 40 bytes)
    → nat_lt (length bytes - 40) (body_len header (length bytes - 40)) ≡ false
    → pieces ≡ headers_in_slots (next_header_of header) (body_of bytes header)
    → fault_after bytes header pieces ≡ o → ipv6_parts_unless bytes header pieces o ≡ Ok parts
    → IsIpv6Headers bytes parts.0 parts.1
unless_there bytes header pieces (Some fault) parts begins fits are ends is = cc
unless_there bytes header pieces None parts begins fits are none is =
    subst (λ (p : Parts). IsIpv6Headers bytes p.0 p.1) (ok_same {E = SliceError} _ _ is)
    (parts_stand bytes header pieces begins.0 begins.1 fits are none)

sized : (bytes header : List ℕ) (pieces : List Piece) (short : Bool) (parts : Parts)
    → IsIpv6Header header × (bytes ≡ header ++ drop 40 bytes)
    → pieces ≡ headers_in_slots (next_header_of header) (body_of bytes header)
    → nat_lt (length bytes - 40) (body_len header (length bytes - 40)) ≡ short
    → (if short then Err (Len (not_whole header (length bytes)))
    else ipv6_parts_unless bytes header pieces (fault_after bytes header pieces)) ≡ Ok parts
    → IsIpv6Headers bytes parts.0 parts.1
sized bytes header pieces true parts begins are size is = cc
sized bytes header pieces false parts begins are size is =
    unless_there bytes header pieces (fault_after bytes header pieces) parts begins size are refl is

after_header : (bytes : List ℕ) (r : Result (List ℕ) (HeaderSliceError HeaderFault)) (parts : Parts)
    → header_at bytes ≡ r → ipv6_parts_after bytes r ≡ Ok parts → IsIpv6Headers bytes parts.0 parts.1
after_header bytes (Err fault) parts at is = cc
after_header bytes (Ok header) parts at is =
    sized bytes header (headers_in_slots (next_header_of header) (body_of bytes header))
    (nat_lt (length bytes - 40) (body_len header (length bytes - 40))) parts
    (header_found bytes header at) refl refl is

-- headers and payload of an IPv6 packet that bytes begin with
pub ipv6_headers_are : RowsFound → (bytes : List ℕ) (headers : IpHeaders) (payload : IpPayload)
    → (ipv6_headers_at bytes ≡ Ok (headers, payload)) ↔ IsIpv6Headers bytes headers payload
ipv6_headers_are found bytes headers payload = (
  λ is. after_header bytes (header_at bytes) (headers, payload) refl is,
  λ are. parts_are found bytes headers payload are,
)
