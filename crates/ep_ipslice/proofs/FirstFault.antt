-- The fault that is found of an IP packet is the first one.
use Rattle.std.proofs.Common.{◌≡◌, ◌∙◌, sym, ap, subst, refl, ℕ, ◌-◌, ◌==◌, Bool, true, false, List, [], ◌++◌}
use Rattle.std.proofs.Common.{length, ◌≤◌, drop, Option, Some, None, Result, Ok, Err, arith}
use Rattle.std.specs.Prelude.{nat_lt, if◌then◌else◌}
use Rattle.std.proofs.lemmas.Bool.{eqb-true, ltb-false, ltb-true}
use Rattle.std.proofs.lemmas.List.{drop_at}
use Rattle.ep_base.proofs.Prefixes.{err_same}
use Rattle.ep_ext.specs.Chain.{Chain, Fault, IsEnd, fault_of, prefix_of, fault_at}
use Rattle.ep_ext.specs.Slot.{Order}
use Rattle.ep_ext.specs.Value.{Piece, bytes_of, slots}
use Rattle.ep_base.specs.declared.err.slice_error.SliceError.{SliceError as HeaderSliceError}
use Rattle.ep_ext.specs.declared.err.ipv6_exts.header_error.HeaderError.{HeaderError}
use Rattle.ep_ext.specs.declared.net.ipv6_ext_slot.Ipv6ExtSlot.{Ipv6ExtSlot}
use Rattle.ep_ip.specs.Ipv6.{next_header_of}
use Rattle.ep_ip.specs.Ipv6Fault.{header_at}
use Rattle.ep_ip.specs.declared.err.ipv6.header_error.HeaderError.{HeaderError as HeaderFault}
use Rattle.ep_ip.specs.Ipv4.{version_of}
use Rattle.ep_ipslice.specs.IpSlice.{IsIpFault, OfIpv4, OfIpv6, ip_packet_at, no_version, with_ipv4, with_ipv6}
use Rattle.ep_ipslice.specs.Ipv4Packet.{ipv4_packet_at}
use Rattle.ep_ipslice.specs.Ipv6Exts.{view_order}
use Rattle.ep_ipslice.specs.Ipv6Fault.{IsIpv6Fault, IsRowFault, OfExtensions, OfHeader, OfLength}
use Rattle.ep_ipslice.specs.Ipv6Fault.{of_exts_fault}
use Rattle.ep_ipslice.specs.Ipv6Packet.{body_of, extensions_of, ipv6_packet_at, number_after, packet_after}
use Rattle.ep_ipslice.specs.Ipv6Packet.{rest_after}
use Rattle.ep_ipslice.specs.Ipv6Walk.{pieces_within}
use Rattle.ep_ipslice.specs.Packet.{Ipv4Packet, Ipv6Packet, body_len, body_source}
use Rattle.ep_ipslice.specs.declared.err.ip.header_error.HeaderError.TheVariants.{UnsupportedIpVersion}
use Rattle.ep_ipslice.specs.declared.err.ip.headers_error.HeadersError.TheVariants as headers
use Rattle.ep_ipslice.specs.declared.err.ip.slice_error.SliceError.{SliceError as IpFault}
use Rattle.ep_ipslice.specs.declared.err.ip.slice_error.SliceError.TheVariants as ip_fault
use Rattle.ep_ipslice.specs.declared.err.ip.slice_error.SliceError.TheVariants.{IpHeaders}
use Rattle.ep_ipslice.specs.declared.err.ipv4.slice_error.SliceError.{SliceError as Ipv4Fault}
use Rattle.ep_ipslice.specs.declared.err.ipv6.slice_error.SliceError.{SliceError}
use Rattle.ep_ipslice.specs.declared.err.ipv6.slice_error.SliceError.TheVariants.{Len}
use Rattle.ep_ipslice.specs.declared.net.ip_slice.IpSlice.{IpSlice}
use Rattle.ep_ipslice.proofs.Found.{IsWalk, walk, packet_unless, not_whole, fault_after}

-- the law of how rows end, as it is called
pub record RowEnds : Type 0 where
  pub closed : (order : Order) (passed : List Ipv6ExtSlot) (last : ℕ) (rest : List ℕ)
      → order passed last ≡ None → IsEnd order passed last rest
  pub fault : (order : Order) (passed : List Ipv6ExtSlot) (last : ℕ) (rest : List ℕ)
      (slot : Ipv6ExtSlot) (error : HeaderSliceError HeaderError) → order passed last ≡ Some slot
      → prefix_of slot rest ≡ Err error → IsEnd order passed last rest

ends_open : RowEnds → (order : Order) (passed : List Ipv6ExtSlot) (last offset : ℕ)
    (rest : List ℕ) (slot : Ipv6ExtSlot) (fault : Fault)
    (r : Result (List ℕ) (HeaderSliceError HeaderError)) → order passed last ≡ Some slot
    → prefix_of slot rest ≡ r → fault_at offset (Some slot) last rest ≡ Some fault
    → IsEnd order passed last rest
ends_open law order passed last offset rest slot fault (Ok header) here prefix found = grind arith
ends_open law order passed last offset rest slot fault (Err e) here prefix found =
    law.fault order passed last rest slot e here prefix

-- at a fault no further header starts
ends_faulty : RowEnds → (order : Order) (passed : List Ipv6ExtSlot) (last offset : ℕ)
    (rest : List ℕ) (fault : Fault) (slot : Option Ipv6ExtSlot) → order passed last ≡ slot
    → fault_at offset slot last rest ≡ Some fault → IsEnd order passed last rest
ends_faulty law order passed last offset rest fault None here found = grind arith
ends_faulty law order passed last offset rest fault (Some slot) here found =
    ends_open law order passed last offset rest slot fault (prefix_of slot rest) here refl found

-- headers that are found in a row, under whatever order, end where a fault is
pub row_chain : RowEnds → (order : Order) (bytes header : List ℕ) (fault : Fault)
    (pieces : List Piece) → pieces ≡ pieces_within (length (body_of bytes header)) order []
    (next_header_of header) (body_of bytes header)
    → fault_of order pieces (number_after (next_header_of header) pieces)
    (rest_after bytes header pieces) ≡ Some fault
    → Chain order (next_header_of header) (body_of bytes header) pieces
    (number_after (next_header_of header) pieces) (rest_after bytes header pieces)
row_chain law order bytes header fault pieces are found =
    let first : ℕ = next_header_of header in
    let body : List ℕ = body_of bytes header in
    let last : ℕ = number_after first pieces in
    let exts : List ℕ = bytes_of pieces in
    let here : IsWalk order [] first body pieces = subst (IsWalk order [] first body) (sym are)
    (walk (length body) order [] first body (omega arith)) in
    let left : here.rest ≡ rest_after bytes header pieces =
    sym (drop_at exts here.rest (length exts) refl)
    ∙ ap (drop (length exts)) (sym here.cut) in
    record {
      row = here.row;
      cut = here.cut ∙ ap (λ (xs : List ℕ). exts ++ xs) left;
      ended = ends_faulty law order (slots pieces) last (length exts)
          (rest_after bytes header pieces) fault (order (slots pieces) last) refl found;
    }

-- and the fault after them
pub row_fault : RowEnds → (order : Order) (bytes header : List ℕ) (fault : Fault) →
    body_len header (length bytes - 40) ≤ length bytes - 40 →
    (pieces : List Piece) → pieces ≡ pieces_within (length (body_of bytes header)) order []
    (next_header_of header) (body_of bytes header)
    → fault_of order pieces (number_after (next_header_of header) pieces)
    (rest_after bytes header pieces) ≡ Some fault
    → IsRowFault order bytes header
    (of_exts_fault (body_source header (length bytes - 40)) fault.0)
row_fault law order bytes header fault fits pieces are found = record {
  pieces = pieces;
  last = number_after (next_header_of header) pieces;
  rest = rest_after bytes header pieces;
  fault = fault;
  size = fits;
  chain = row_chain law order bytes header fault pieces are found;
  found = found;
  error = refl;
}

unless_faulty : RowEnds → (bytes header : List ℕ) (pieces : List Piece) (o : Option Fault)
    (e : SliceError) → header_at bytes ≡ Ok header
    → body_len header (length bytes - 40) ≤ length bytes - 40
    → pieces ≡ extensions_of (next_header_of header) (body_of bytes header)
    → fault_after bytes header pieces ≡ o → packet_unless bytes header pieces o ≡ Err e
    → IsIpv6Fault bytes e
unless_faulty law bytes header pieces None e at fits are ends is = cc
unless_faulty law bytes header pieces (Some fault) e at fits are ends is =
    subst (IsIpv6Fault bytes) (err_same {A = Ipv6Packet} _ _ is)
    (OfExtensions header at (row_fault law view_order bytes header fault fits pieces are ends))

sized : RowEnds → (bytes header : List ℕ) (pieces : List Piece) (short : Bool) (e : SliceError)
    → header_at bytes ≡ Ok header
    → pieces ≡ extensions_of (next_header_of header) (body_of bytes header)
    → nat_lt (length bytes - 40) (body_len header (length bytes - 40)) ≡ short
    → (if short then Err (Len (not_whole header (length bytes)))
    else packet_unless bytes header pieces (fault_after bytes header pieces)) ≡ Err e
    → IsIpv6Fault bytes e
sized law bytes header pieces true e at are size is =
    OfLength header at (record {
      size = ltb-true (length bytes - 40) (body_len header (length bytes - 40)) size;
      error = sym (err_same {A = Ipv6Packet} _ _ is);
    })
sized law bytes header pieces false e at are size is =
    unless_faulty law bytes header pieces (fault_after bytes header pieces) e at
    (ltb-false (length bytes - 40) (body_len header (length bytes - 40)) size) are refl is

after_header : RowEnds → (bytes : List ℕ) (r : Result (List ℕ) (HeaderSliceError HeaderFault))
    (e : SliceError) → header_at bytes ≡ r → packet_after bytes r ≡ Err e → IsIpv6Fault bytes e
after_header law bytes (Err fault) e at is =
    OfHeader fault at (sym (err_same {A = Ipv6Packet} _ _ is))
after_header law bytes (Ok header) e at is =
    sized law bytes header (extensions_of (next_header_of header) (body_of bytes header))
    (nat_lt (length bytes - 40) (body_len header (length bytes - 40))) e at refl refl is

-- where no IPv6 packet is found, the fault is the first one
pub ipv6_fault_found : RowEnds → (bytes : List ℕ) (e : SliceError) → ipv6_packet_at bytes ≡ Err e
    → IsIpv6Fault bytes e
ipv6_fault_found law bytes e is = after_header law bytes (header_at bytes) e refl is

ipv4_case : (bytes : List ℕ) (r : Result Ipv4Packet Ipv4Fault) (e : IpFault) → version_of bytes ≡ 4
    → ipv4_packet_at bytes ≡ r → with_ipv4 r ≡ Err e → IsIpFault bytes e
ipv4_case bytes (Ok packet) e version at is = cc
ipv4_case bytes (Err fault) e version at is =
    OfIpv4 fault version at (sym (err_same {A = IpSlice} _ _ is))

ipv6_case : RowEnds → (bytes : List ℕ) (r : Result Ipv6Packet SliceError) (e : IpFault)
    → version_of bytes ≡ 6 → ipv6_packet_at bytes ≡ r → with_ipv6 r ≡ Err e → IsIpFault bytes e
ipv6_case law bytes (Ok packet) e version at is = cc
ipv6_case law bytes (Err fault) e version at is =
    OfIpv6 fault version (ipv6_fault_found law bytes fault at)
    (sym (err_same {A = IpSlice} _ _ is))

by_version : RowEnds → (none four six : Bool) (bytes : List ℕ) (e : IpFault)
    → (length bytes == 0) ≡ none → (version_of bytes == 4) ≡ four → (version_of bytes == 6) ≡ six
    → (if none then Err (ip_fault.Len no_version)
    else (if four then with_ipv4 (ipv4_packet_at bytes)
    else (if six then with_ipv6 (ipv6_packet_at bytes)
    else Err (IpHeaders (headers.Ip (UnsupportedIpVersion (version_of bytes))))))) ≡ Err e
    → IsIpFault bytes e
by_version law true four six bytes e size v4 v6 is = grind arith
by_version law false true six bytes e size v4 v6 is =
    ipv4_case bytes (ipv4_packet_at bytes) e (eqb-true (version_of bytes) 4 v4) refl is
by_version law false false true bytes e size v4 v6 is =
    ipv6_case law bytes (ipv6_packet_at bytes) e (eqb-true (version_of bytes) 6 v6) refl is
by_version law false false false bytes e size v4 v6 is = grind arith

-- the same of a packet of either version
pub ip_fault_found : RowEnds → (bytes : List ℕ) (e : IpFault) → ip_packet_at bytes ≡ Err e
    → IsIpFault bytes e
ip_fault_found law bytes e is =
    by_version law (length bytes == 0) (version_of bytes == 4) (version_of bytes == 6) bytes e
    refl refl refl is
