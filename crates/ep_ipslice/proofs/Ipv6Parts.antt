-- The parts of an IPv6 packet.
use Rattle.std.proofs.Common.{◌≡◌, ℕ, ◌+◌, ◌-◌, ◌≤◌, ◌<◌, ◌==◌, ◌||◌, ◌&&◌, nat_lt, Bool, true, false, cond, List, ◌++◌}
use Rattle.std.proofs.Common.{length, take, drop, Option, Some, None, Result, Ok, Err, Bor, IfOk, IfErr, IsOkAnd, refl}
use Rattle.std.proofs.Common.{sym, ap, ◌∙◌, append_assoc, length-append, take-append-drop, arith}
use Rattle.std.proofs.lemmas.List.{append-nil, drop_at, length-take-le, take_at}
use Rattle.ep_base.specs.declared.len_source.LenSource.{LenSource}
use Rattle.ep_base.specs.declared.len_source.LenSource.TheVariants.{Slice, Ipv6HeaderPayloadLen}
use Rattle.ep_base.specs.declared.net.ip_number.IpNumber.{IpNumber}
use Rattle.ep_ip.specs.Ipv6.{IsIpv6Header, next_header_of, payload_length_of}
use Rattle.ep_ip.specs.Ipv6Fault.{header_at}
use Rattle.ep_base.specs.declared.err.slice_error.SliceError.{SliceError as HeaderSliceError}
use Rattle.ep_ip.specs.declared.err.ipv6.header_error.HeaderError.{HeaderError as HeaderFault}
use Rattle.ep_ipslice.specs.Ipv6Fault.{IsCutOff, IsPrefixFault, IsIpv6Fault, IsRowFault, InHeader, InLength, OfHeader}
use Rattle.ep_ipslice.specs.Ipv6Fault.{OfLength, of_exts_fault}
use Rattle.ep_ext.specs.Chain.{Chain, Fault, IsEnd, IsPiece, fault_of, prefix_of, fault_at}
use Rattle.ep_ext.specs.Follow.{has_slot}
use Rattle.ep_ext.specs.Slot.{KeepsNumbers, Order, slot_number, at_start}
use Rattle.ep_ext.specs.Value.{Piece, bytes_of, slots}
use Rattle.ep_base.specs.declared.err.len_error.LenError.{LenError}
use Rattle.std.proofs.lemmas.Bool.{eqb-true}
use Rattle.std.specs.Option.{option_map}
use Rattle.std.specs.Result.{result_err}
use Rattle.ep_ext.specs.declared.err.ipv6_exts.header_error.HeaderError.{HeaderError}
use Rattle.ep_ext.specs.declared.net.ipv6_ext_slot.Ipv6ExtSlot.{Ipv6ExtSlot}
use Rattle.ep_ext.specs.declared.net.ipv6_ext_slot.Ipv6ExtSlot.TheVariants.{Destination, Routing, Fragment}
use Rattle.ep_ext.specs.declared.net.ipv6_ext_slot.Ipv6ExtSlot.TheVariants.{Authentication}
use Rattle.ep_ipslice.specs.Ipv6Exts.{Ipv6Exts, exts_of, view_order}
use Rattle.ep_ipslice.specs.Packet.{Ipv6Packet, IsIpv6Body, IsIpv6Packet, IsWholeIpv6, body_len, body_source}
use Rattle.ep_ipslice.specs.Packet.{ipv6_bytes}
use Rattle.ep_ipslice.specs.declared.err.ipv6.slice_error.SliceError.{SliceError}
use Rattle.ep_ext.proofs.Found.{prefix_begins}
use Rattle.ep_ipslice.proofs.ViewWalk.{EndsClosed}

-- the order has no slot for a number, and it is not that of hop-by-hop options: it is none of the
-- five
pub closed_all : (zero hop routing fragment auth destination : Bool) (x : Option Ipv6ExtSlot)
    → zero ≡ false →
    cond zero x (cond routing (Some Routing)
    (cond fragment (Some Fragment)
    (cond auth (Some Authentication) (cond destination (Some Destination) None)))) ≡ None →
    (zero || (routing || (fragment || (auth || (destination || false))))) ≡ false
closed_all zero hop routing fragment auth destination x none closed = grind arith

pub none_left : (passed : List Ipv6ExtSlot) (last : ℕ) → has_slot last ≡ false
    → view_order passed last ≡ None
none_left passed last none = grind arith

not_zero : (zero rest : Bool) → (zero || rest) ≡ false → zero ≡ false
not_zero zero rest h = grind arith

-- no fault at the end of a row: no header is open there
no_fault_in : (at : HeaderSliceError HeaderError → Fault)
    (r : Result (List ℕ) (HeaderSliceError HeaderError))
    → option_map at (result_err r) ≡ None → (header : List ℕ) × (r ≡ Ok header)
no_fault_in at r none = grind arith

pub not_misplaced : (zero : Bool) (fault : Fault)
    → cond zero (Some fault) None ≡ None → zero ≡ false
not_misplaced zero fault none = grind arith

no_fault : (offset : ℕ) (slot : Option Ipv6ExtSlot) (last : ℕ) (rest : List ℕ)
    → fault_at offset slot last rest ≡ None →
    ((p : Ipv6ExtSlot) (header following : List ℕ) → slot ≡ Some p → IsPiece p header
    → rest ≡ header ++ following → ⊥) → (slot ≡ None) × ((last == 0) ≡ false)
no_fault offset (Some p) last rest none ended =
    let prefix = no_fault_in _ (prefix_of p rest) none in
    let begins = prefix_begins p rest prefix.0 prefix.1 in
    absurd (ended p prefix.0 begins.1.0 refl begins.0 begins.1.1)
no_fault offset None last rest none ended = (refl, not_misplaced (last == 0) _ none)

pub ended_of : (pieces : List Piece) (last : ℕ) (rest : List ℕ)
    → IsEnd view_order (slots pieces) last rest → fault_of view_order pieces last rest ≡ None
    → has_slot last ≡ false
ended_of pieces last rest ended none =
    let closed = no_fault (length (bytes_of pieces)) (view_order (slots pieces) last) last rest none
    ended in
    closed_all (last == 0) (last == 0) (last == 43) (last == 44) (last == 51) (last == 60)
    (at_start (slots pieces)) closed.1 closed.0

pub no_fault_of : (pieces : List Piece) (last : ℕ) (rest : List ℕ) → has_slot last ≡ false
    → fault_of view_order pieces last rest ≡ None
no_fault_of pieces last rest none = grind arith

-- the bytes start with a header, and its body follows it
pub body_parts : (bytes header : List ℕ) (source : LenSource) (body : List ℕ)
    (is : IsIpv6Body bytes header source body) → bytes ≡ header ++ (body ++ is.padding)
body_parts bytes header source body is = is.cut ∙ append_assoc header body is.padding

pub body_fits : (bytes header : List ℕ) (source : LenSource) (body : List ℕ)
    → IsIpv6Body bytes header source body → length body ≤ length bytes - 40
body_fits bytes header source body is = grind (arith, body_parts, length-append)

pub body_within : (bytes header : List ℕ) (source : LenSource) (body : List ℕ)
    → IsIpv6Body bytes header source body → 40 + length body ≤ length bytes
body_within bytes header source body is = grind (arith, body_parts, length-append)

body_cut : (bytes header : List ℕ) (source : LenSource) (body : List ℕ)
    → IsIpv6Body bytes header source body
    → take (body_len header (length bytes - 40)) (drop 40 bytes) ≡ body
body_cut bytes header source body is =
    ap (λ (xs : List ℕ). take (body_len header (length bytes - 40)) (drop 40 xs))
    (body_parts bytes header source body is)
    ∙ ap (take (body_len header (length bytes - 40)))
    (drop_at header (body ++ is.padding) 40 is.whole.whole)
    ∙ take_at body is.padding (body_len header (length bytes - 40)) is.size

-- a header and its body are where they were found
pub body_found : (bytes header rest following body : List ℕ) (n len : ℕ) (source : LenSource)
    → IsIpv6Header header → bytes ≡ header ++ rest → n ≡ length header → following ≡ drop n bytes
    → source ≡ body_source header (length following) → len ≡ body_len header (length following)
    → len ≤ length following → body ≡ take len following → IsIpv6Body bytes header source body
body_found bytes header rest following body n len source is parts n_is split bounded sized fits cut =
    let following_is : following ≡ rest = grind (arith, drop_at) in
    let all : length bytes ≡ length header + length rest =
    grind (arith, length-append) in
    let size : length following ≡ length bytes - 40 =
    omega (arith, all, is.whole, ap length following_is) in
    record {
      padding = drop len following;
      cut =
          grind (arith, take-append-drop, append_assoc);
      whole = is;
      size = grind (arith, length-take-le);
      bounded = grind arith;
    }

-- the bytes start with one header and body at most
pub body_alone : (bytes header other : List ℕ) (source bound : LenSource) (body rest : List ℕ)
    → header ≡ other → IsIpv6Body bytes header source body → IsIpv6Body bytes other bound rest →
    (source ≡ bound) × (body ≡ rest)
body_alone bytes header other source bound body rest same p q = (
  grind arith,
  cc (body_cut bytes header source body p, same, body_cut bytes other bound rest q),
)

-- a body is not cut off
pub body_whole : (bytes header other : List ℕ) (source : LenSource) (body : List ℕ) (e : SliceError)
    → header ≡ other → IsIpv6Body bytes other source body → IsCutOff bytes header e → ⊥
body_whole bytes header other source body e same is cut =
    let short : length bytes - 40 < body_len other (length bytes - 40) =
    grind arith in
    omega (arith, body_fits bytes other source body is, is.size, short)

-- a row of extension headers in a body that ends at a fault
pub row_fault : (order : Order) (bytes header : List ℕ) (source : LenSource) (body : List ℕ)
    (pieces : List Piece) (last : ℕ) (rest : List ℕ) (fault : Fault)
    → IsIpv6Body bytes header source body →
    Chain order (next_header_of header) body pieces last rest
    → fault_of order pieces last rest ≡ Some fault
    → IsRowFault order bytes header (of_exts_fault source fault.0)
row_fault order bytes header source body pieces last rest fault is chain found = record {
  pieces = pieces;
  last = last;
  rest = rest;
  fault = fault;
  size = omega (arith, body_fits bytes header source body is, is.size);
  chain = grind (arith, body_cut bytes header source body is, chain);
  found = found;
  error = grind arith;
}

-- a packet is there where its header, its body and its extension headers were found
pub packet_found : (bytes header body : List ℕ) (first : ℕ) (source : LenSource)
    (pieces : List Piece) (last : ℕ) (rest : List ℕ) →
    (exts : Ipv6Exts) (number : IpNumber) (fragmented : Bool) (payload : List ℕ) →
    IsIpv6Body bytes header source body → first ≡ next_header_of header →
    Chain view_order first body pieces last rest → exts ≡ exts_of first pieces → number.0 ≡ last
    → payload ≡ rest → fault_of view_order pieces last rest ≡ None →
    fragmented ≡ exts.fragmented →
    IsIpv6Packet bytes
    (record {
      header = header;
      exts = exts;
      payload = record {
        ip_number = number;
        fragmented = fragmented;
        len_source = source;
        payload = payload;
      };
    })
packet_found bytes header body first source pieces last rest exts number fragmented payload is named
    chain seen numbered left none parted =
    let parts : body ≡ bytes_of pieces ++ payload =
    grind arith in
    let number_is : number ≡ record { 0 = last } = λ i. record { 0 = numbered i } in
    grind (arith, append_assoc, ended_of, length-append)

-- after a header, the first fault is that of the length
pub length_fault : (bytes header : List ℕ)
    (r : Result (List ℕ × LenSource × Bor (List ℕ)) SliceError) → header_at bytes ≡ Ok header →
    IfErr r (λ e. IsCutOff bytes header e) → IfErr r (λ e. IsPrefixFault bytes e)
length_fault bytes header (Ok parts) is cut = tt
length_fault bytes header (Err e) is cut = InLength header is cut

-- a fault before the extension headers is the first one
pub prefix_fault : (bytes : List ℕ) (e : SliceError) → IsPrefixFault bytes e → IsIpv6Fault bytes e
prefix_fault bytes e (InHeader fault is error) = OfHeader fault is error
prefix_fault bytes e (InLength header is cut) = OfLength header is cut

-- what a call that reports every fault takes is the only header with its body
pub body_only : (bytes header : List ℕ) (r : Result (List ℕ × LenSource × Bor (List ℕ)) SliceError)
    → IfOk r (λ a. (a.0 ≡ header) × IsIpv6Body bytes header a.1 a.2.now)
    → IfErr r (λ e. IsCutOff bytes header e) →
    (other : List ℕ) (source : LenSource) (body : List ℕ) → header ≡ other
    → IsIpv6Body bytes other source body
    → IsOkAnd r (λ a. (a.0 ≡ other) × (a.1 ≡ source) × (a.2.now ≡ body))
body_only bytes header (Ok a) found refused other source body same is =
    let alone = body_alone bytes header other a.1 source a.2.now body same found.1 is in
    grind arith
body_only bytes header (Err e) found refused other source body same is =
    absurd (body_whole bytes header other source body e same is refused)

pub header_same : (x y : List ℕ)
    → ◌≡◌ {A = Result (List ℕ) (HeaderSliceError HeaderFault)} (Ok x) (Ok y) → x ≡ y
header_same x y h = cc

-- a packet starts with its header
pub packet_parts : (bytes : List ℕ) (packet : Ipv6Packet) (is : IsIpv6Packet bytes packet)
    → bytes ≡ packet.header ++ (bytes_of is.pieces ++ packet.payload.payload ++ is.padding)
packet_parts bytes packet is = grind (arith, append_assoc)

-- a view takes headers in slots of their own numbers
numbered : (hop routing fragment auth destination : Bool) (number : ℕ) (passed : List Ipv6ExtSlot)
    (slot : Ipv6ExtSlot) →
    (hop ≡ true → 0 ≡ number) → (routing ≡ true → 43 ≡ number) → (fragment ≡ true → 44 ≡ number)
    → (auth ≡ true → 51 ≡ number) → (destination ≡ true → 60 ≡ number) →
    cond hop (at_start passed)
    (cond routing (Some Routing)
    (cond fragment (Some Fragment)
    (cond auth (Some Authentication) (cond destination (Some Destination) None))))
    ≡ Some slot →
    slot_number slot ≡ number
numbered hop routing fragment auth destination number passed slot a b c d e is = grind arith

pub keeps_numbers : KeepsNumbers view_order
keeps_numbers passed number slot is =
    numbered (number == 0) (number == 43) (number == 44) (number == 51)
    (number == 60) number passed slot
    (λ h. sym (eqb-true number 0 h)) (λ h. sym (eqb-true number 43 h))
    (λ h. sym (eqb-true number 44 h)) (λ h. sym (eqb-true number 51 h))
    (λ h. sym (eqb-true number 60 h)) is

-- a packet's extension headers are a row before its payload
pub view_chain : EndsClosed
    → (bytes : List ℕ) (packet : Ipv6Packet) (is : IsIpv6Packet bytes packet) (first : ℕ)
    (body : List ℕ) → first ≡ next_header_of packet.header →
    body ≡ packet.exts.slice ++ packet.payload.payload
    → Chain view_order first body is.pieces is.last packet.payload.payload
view_chain ends bytes packet is first body named cut = grind arith

pub skipped_answer : (packet : Ipv6Packet) (last : ℕ)
    (r : Result (IpNumber × Bor (List ℕ)) LenError) → packet.payload.ip_number.0 ≡ last →
    IsOkAnd r (λ a. (a.0.0 ≡ last) × (a.1.now ≡ packet.payload.payload))
    → IsOkAnd r (λ a. (a.0 ≡ packet.payload.ip_number) × (a.1.now ≡ packet.payload.payload))
skipped_answer packet last r number is = grind arith

-- a length that was read stays, where no more bytes are there
len_again : (none some : Bool) (following len : ℕ) → nat_lt 0 following ≡ some →
    cond (none && nat_lt 0 (cond (none && some) following len)) (cond (none && some) following len) len
    ≡ cond (none && some) following len
len_again none some following len is = grind arith

source_again : (none some : Bool) (following len : ℕ) → nat_lt 0 following ≡ some
    → (none ≡ true → len ≡ 0) →
    cond (none && nat_lt 0 (cond (none && some) following len)) Slice Ipv6HeaderPayloadLen
    ≡ cond (none && some) Slice Ipv6HeaderPayloadLen
source_again none some following len is empty = grind arith

-- what follows a packet doesn't belong to it
pub packet_by_itself : (bytes : List ℕ) (packet : Ipv6Packet)
    → IsIpv6Packet bytes packet → IsWholeIpv6 packet
packet_by_itself bytes packet is =
    let following : ℕ = length bytes - 40 in
    let len : ℕ = payload_length_of packet.header in
    let exts : packet.exts.slice ≡ bytes_of is.pieces = cc is.exts in
    let parts : length (ipv6_bytes packet)
    ≡ length packet.header + length packet.exts.slice + length packet.payload.payload =
    grind (arith, length-append) in
    let size : length (ipv6_bytes packet) - 40 ≡ body_len packet.header following =
    omega (arith, parts, ap length exts, is.header.whole, is.size) in
    let same_len : body_len packet.header (body_len packet.header following)
    ≡ body_len packet.header following = len_again (len == 0) (nat_lt 0 following) following len refl in
    let same_source : body_source packet.header (body_len packet.header following)
    ≡ body_source packet.header following =
    source_again (len == 0) (nat_lt 0 following) following len refl (eqb-true len 0) in
    let source : body_source packet.header following
    ≡ body_source packet.header (length (ipv6_bytes packet) - 40) =
    grind arith in
    grind (arith, append-nil)
