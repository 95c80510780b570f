-- The IPv6 packet, as far as it is there.
use Rattle.std.proofs.Common.{◌≡◌, ◌∙◌, sym, ap, refl, ℕ, ◌+◌, ◌-◌, ◌≤◌, ◌<◌, ◌^◌, Bool, false, List, ◌++◌}
use Rattle.std.proofs.Common.{length, drop, Option, Some, None, IfSome, Result, Ok, arith}
use Rattle.std.proofs.lemmas.Bool.{ltb-false}
use Rattle.std.proofs.lemmas.List.{drop_at, length-drop}
use Rattle.std.specs.Option.{option_map}
use Rattle.ep_base.specs.SliceError.{CanMove}
use Rattle.ep_base.specs.declared.err.slice_error.SliceError.{SliceError}
use Rattle.ep_base.specs.declared.len_source.LenSource.{LenSource}
use Rattle.ep_base.specs.declared.net.ip_number.IpNumber.{IpNumber}
use Rattle.ep_ip.specs.Ipv6.{IsIpv6Header, next_header_of}
use Rattle.ep_ip.specs.Ipv6Fault.{header_at}
use Rattle.ep_ip.specs.declared.err.ipv6.header_error.HeaderError.{HeaderError as HeaderFault}
use Rattle.ep_ext.specs.Chain.{Chain, Fault, fault_of}
use Rattle.ep_ext.specs.Value.{Piece, bytes_of}
use Rattle.ep_ipslice.specs.Ipv6Exts.{Ipv6Exts, exts_of, view_order}
use Rattle.ep_ipslice.specs.Ipv6Packet.{body_of}
use Rattle.ep_ipslice.specs.LaxPackets.{LaxIpv6Packet, StoppedIpv6, is_ipv6_cut, lax_ipv6_packet_at, lax_ipv6_source}
use Rattle.ep_ipslice.specs.LaxPackets.{row_fault_within, lax_ipv6_of, lax_ipv6_after, lax_ipv6_with}
use Rattle.ep_ipslice.specs.Packet.{IsIpv6Body, body_len}
use Rattle.ep_ipslice.proofs.FaultOffsets.{RowMoves, body_fits}
use Rattle.ep_ipslice.proofs.Ipv6At.{RowIn, fault_is, number_is}
use Rattle.ep_ipslice.proofs.Ipv6Parts.{body_found}
use Rattle.ep_ipslice.proofs.Left.{HasLeast, IsFound, row_found}
use Rattle.ep_ipslice.proofs.Found.{fault_after}

-- the bytes of a packet that isn't cut off are its body
pub body_there : (bytes header rest body : List ℕ) (source : LenSource) → IsIpv6Header header
    → bytes ≡ header ++ rest → body ≡ body_of bytes header → source ≡ lax_ipv6_source bytes header
    → is_ipv6_cut bytes header ≡ false → IsIpv6Body bytes header source body
body_there bytes header rest body source is begins taken bounded here =
    let following : List ℕ = drop 40 bytes in
    let size : length following ≡ length bytes - 40 = length-drop 40 bytes in
    let fits = ltb-false (length bytes - 40) (body_len header (length bytes - 40)) here in
    body_found bytes header rest following body 40 (body_len header (length bytes - 40)) source is
    begins (sym is.whole) refl (grind arith) (grind arith) (omega (arith, size, fits)) taken

-- the fault of an extension header can be counted from n bytes before the packet
pub fault_moves : RowMoves → (bytes header body : List ℕ) (first : ℕ) (pieces : List Piece)
    (last : ℕ) (rest : List ℕ) (fault : Fault) (n : ℕ) → 40 ≤ length bytes
    → length bytes + n < 2 ^ 64 → body ≡ body_of bytes header
    → Chain view_order first body pieces last rest
    → fault_of view_order pieces last rest ≡ Some fault → CanMove fault.0 (40 + n)
fault_moves moves bytes header body first pieces last rest fault n enough most taken chain found =
    moves view_order first body pieces last rest fault (40 + n) chain found
    (omega (arith, enough, most, ap length taken, body_fits bytes header))

-- the fault that was found, if there is one, can be counted from the start of the packet
pub faults_move : RowMoves → (bytes body : List ℕ) (first : ℕ) (pieces : List Piece) (last : ℕ)
    (rest : List ℕ) (found : Option Fault) → length bytes < 2 ^ 64 → 40 + length body ≤ length bytes
    → Chain view_order first body pieces last rest → found ≡ fault_of view_order pieces last rest
    → IfSome found (λ f. CanMove f.0 40)
faults_move moves bytes body first pieces last rest None most within chain is = tt
faults_move moves bytes body first pieces last rest (Some f) most within chain is =
    moves view_order first body pieces last rest f 40 chain (sym is) (omega (arith, most, within))

-- the parts of a row in what is there
row_in : IsFound → HasLeast → (bytes header : List ℕ) (pieces : List Piece) (last : ℕ) (rest : List ℕ)
    → Chain view_order (next_header_of header) (body_of bytes header) pieces last rest
    → RowIn bytes header pieces last rest
row_in found least bytes header pieces last rest chain = record {
  pieces_are = row_found found least view_order (next_header_of header) (body_of bytes header) pieces
      last rest chain;
  number = number_is _ (next_header_of header) pieces last chain.row;
  left = ap (drop (length (bytes_of pieces))) chain.cut
      ∙ drop_at (bytes_of pieces) rest (length (bytes_of pieces)) refl;
}

-- a packet of these parts
abbrev pub parts : List ℕ → Ipv6Exts → Bool → IpNumber → Bool → LenSource → List ℕ → LaxIpv6Packet
parts header exts incomplete number fragmented source payload = record {
  header = header;
  exts = exts;
  incomplete = incomplete;
  payload = record {
    ip_number = number;
    fragmented = fragmented;
    len_source = source;
    payload = payload;
  };
}

-- what was read of a packet before its extension headers
pub record IsRead (bytes header body : List ℕ) (first : ℕ) (incomplete : Bool)
    (source : LenSource) : Type 0 where
  pub at : header_at bytes ≡ Ok header
  pub named : first ≡ next_header_of header
  pub taken : body ≡ body_of bytes header
  pub cut : incomplete ≡ is_ipv6_cut bytes header
  pub bounded : source ≡ lax_ipv6_source bytes header

-- and of its extension headers
pub record IsRow (first : ℕ) (pieces : List Piece) (last : ℕ) (rest : List ℕ) (exts : Ipv6Exts)
    (number : IpNumber) (fragmented : Bool) (payload : List ℕ) (fault : Option Fault) : Type 0 where
  pub view : exts ≡ exts_of first pieces
  pub numbered : number.0 ≡ last
  pub flag : fragmented ≡ exts.fragmented
  pub left : payload ≡ rest
  pub ended : fault ≡ fault_of view_order pieces last rest

abbrev Answer : Type 0
Answer = Result StoppedIpv6 (SliceError HeaderFault)

pub read_row : IsFound → HasLeast → (bytes header body : List ℕ) (first : ℕ) (incomplete : Bool)
    (source : LenSource) (pieces : List Piece) (last : ℕ) (rest : List ℕ) (exts : Ipv6Exts)
    (number : IpNumber) (fragmented : Bool) (payload : List ℕ) (fault : Option Fault)
    → IsRead bytes header body first incomplete source
    → Chain view_order first body pieces last rest
    → IsRow first pieces last rest exts number fragmented payload fault →
    ◌≡◌ {A = Answer}
    (Ok (
      parts header exts incomplete number fragmented source payload,
      option_map (row_fault_within source) fault,
    ))
    (lax_ipv6_packet_at bytes)
read_row found least bytes header body first incomplete source pieces last rest exts number
    fragmented payload fault is chain row =
    let here : Chain view_order (next_header_of header) (body_of bytes header) pieces last rest =
    rw (is.named, is.taken) at chain in
    let inside = row_in found least bytes header pieces last rest here in
    let ends = fault_is bytes header pieces last rest inside in
    let number_same : number ≡ record { 0 = last } = λ i. record { 0 = row.numbered i } in
    let packet : parts header exts incomplete number fragmented source payload
    ≡ lax_ipv6_of bytes header pieces = grind arith in
    let stopped : option_map (row_fault_within source) fault
    ≡ option_map (row_fault_within (lax_ipv6_source bytes header)) (fault_after bytes header pieces) =
    rw (is.bounded, row.ended, ends) refl in
    (λ i. Ok (packet i, stopped i))
    ∙ sym (ap (lax_ipv6_after bytes) is.at
    ∙ ap (λ (ps : List Piece). Ok (lax_ipv6_with bytes header ps)) inside.pieces_are)
