-- The headers of the IPv6 packet at the start of bytes, as far as it is there, are those that are
-- found, and the offset of their fault lies within the bytes.
use Rattle.std.proofs.Common.{◌≡◌, ◌∙◌, sym, ap, ℕ, ◌+◌, ◌-◌, ◌<◌, ◌^◌, Bool, false, List, length, Option, Some, None}
use Rattle.std.proofs.Common.{IfSome, Result, Ok, arith, length-append}
use Rattle.std.specs.Option.{option_map, option_map_or}
use Rattle.ep_base.specs.SliceError.{CanMove}
use Rattle.ep_base.specs.declared.err.slice_error.SliceError.{SliceError}
use Rattle.ep_base.specs.declared.len_source.LenSource.{LenSource}
use Rattle.ep_base.specs.declared.net.ip_number.IpNumber.{IpNumber}
use Rattle.ep_ext.specs.Chain.{Chain, Fault, fault_of}
use Rattle.ep_ext.specs.Fragment.{fragments}
use Rattle.ep_ext.specs.Slot.{Order, slot_of}
use Rattle.ep_ext.specs.Value.{Piece, bytes_of, value_of}
use Rattle.ep_ext.specs.declared.net.ipv6_extensions.Ipv6Extensions.{Ipv6Extensions}
use Rattle.ep_ip.specs.Ipv6.{ipv6_header_of, next_header_of}
use Rattle.ep_ip.specs.Ipv6Fault.{header_at}
use Rattle.ep_ext.specs.declared.err.ip_auth.header_error.HeaderError.{HeaderError as AuthFault}
use Rattle.ep_ip.specs.declared.err.ipv4.header_error.HeaderError.{HeaderError as Ipv4HeaderFault}
use Rattle.ep_ip.specs.declared.err.ipv6.header_error.HeaderError.{HeaderError as HeaderFault}
use Rattle.ep_ip.specs.declared.net.ipv6_header.Ipv6Header.{Ipv6Header}
use Rattle.ep_ipslice.specs.Ipv6Packet.{body_of}
use Rattle.ep_ipslice.specs.Compared.{lax_value}
use Rattle.ep_ipslice.specs.LaxPackets.{LaxIpv4Packet, StoppedIpv4, is_ipv6_cut, lax_ipv4_packet_at}
use Rattle.ep_ipslice.specs.LaxPackets.{lax_ipv6_source, row_fault_within}
use Rattle.ep_ipslice.specs.declared.err.ip.header_error.HeaderError.{HeaderError}
use Rattle.ep_ipslice.specs.declared.net.lax_ip_payload_slice.LaxIpPayloadSlice.{LaxIpPayloadSlice}
use Rattle.ep_packet.specs.LaxIpHeadersAt.{LaxIpv6Headers, StoppedHeaders, lax_ipv4_headers_at, lax_ipv4_value}
use Rattle.ep_packet.specs.LaxIpHeadersAt.{lax_ipv6_headers_at, with_lax_ipv4_headers}
use Rattle.ep_packet.specs.declared.net.ip_headers.IpHeaders.{IpHeaders}
use Rattle.ep_packet.specs.declared.net.ip_headers.IpHeaders.TheVariants.{Ipv6}
use Rattle.ep_packet.proofs.HeadersAt.{RowsFound, fault_is, row_in}
use Rattle.ep_ipslice.proofs.LaxOffsets.{within_moves}

-- that the offset of a fault in a row lies within the bytes
abbrev pub RowMoves : Type 0
RowMoves =
    (order : Order) (first : ℕ) (bytes : List ℕ) (pieces : List Piece) (last : ℕ) (rest : List ℕ)
    (fault : Fault) (n : ℕ) → Chain order first bytes pieces last rest
    → fault_of order pieces last rest ≡ Some fault → length bytes + n < 2 ^ 64 → CanMove fault.0 n

-- the fault that was found, if there is one, can be counted from m bytes earlier
pub faults_move : RowMoves → (m : ℕ) (body : List ℕ) (first : ℕ) (pieces : List Piece) (last : ℕ)
    (rest : List ℕ) (found : Option Fault) → length body + m < 2 ^ 64
    → Chain slot_of first body pieces last rest → found ≡ fault_of slot_of pieces last rest
    → IfSome found (λ f. CanMove f.0 m)
faults_move moves m body first pieces last rest None most chain is = tt
faults_move moves m body first pieces last rest (Some f) most chain is =
    moves slot_of first body pieces last rest f m chain (sym is) most

pub stop_moves : (source : LenSource) (n : ℕ) (found : Option Fault)
    → IfSome found (λ f. CanMove f.0 (40 + n))
    → IfSome (option_map (row_fault_within source) found) (λ f. CanMove f.0 n)
stop_moves source n None moves = tt
stop_moves source n (Some f) moves = within_moves source 40 n f.0 moves

-- the rest of a row is no longer than the bytes
pub rest_fits : (order : Order) (first : ℕ) (body : List ℕ) (pieces : List Piece) (last : ℕ)
    (rest : List ℕ) → Chain order first body pieces last rest
    → length body ≡ length (bytes_of pieces) + length rest
rest_fits order first body pieces last rest chain =
    ap length chain.cut ∙ length-append (bytes_of pieces) rest

-- what was read of a packet before its extension headers
pub record IsRead (bytes header body : List ℕ) (first : ℕ) (incomplete : Bool)
    (source : LenSource) : Type 0 where
  pub at : header_at bytes ≡ Ok header
  pub named : first ≡ next_header_of header
  pub taken : body ≡ body_of bytes header
  pub cut : incomplete ≡ is_ipv6_cut bytes header
  pub bounded : source ≡ lax_ipv6_source bytes header

-- and of its extension headers
pub record IsRow (pieces : List Piece) (last : ℕ) (rest : List ℕ) (exts : Ipv6Extensions)
    (number : IpNumber) (fragmented : Bool) (payload : List ℕ) (fault : Option Fault) : Type 0 where
  pub value : exts ≡ value_of pieces
  pub numbered : number.0 ≡ last
  pub flag : fragmented ≡ option_map_or fragments exts.fragment false
  pub left : payload ≡ rest
  pub ended : fault ≡ fault_of slot_of pieces last rest

abbrev Answer : Type 0
Answer = Result LaxIpv6Headers (SliceError HeaderFault)

abbrev pub parts : ℕ → Ipv6Header → Ipv6Extensions → Bool → IpNumber → Bool → LenSource → List ℕ
    → Option Fault → LaxIpv6Headers
parts len value exts incomplete number fragmented source payload stop = record {
  len = len;
  parts = record {
    headers = Ipv6 value exts;
    payload = (
      incomplete,
      record {
        ip_number = number;
        fragmented = fragmented;
        len_source = source;
        payload = payload;
      },
    );
    stop = stop;
  };
}

pub read_row : RowsFound → (bytes header body : List ℕ) (first : ℕ) (incomplete : Bool)
    (source : LenSource) (pieces : List Piece) (last : ℕ) (rest : List ℕ) (value : Ipv6Header)
    (exts : Ipv6Extensions) (number : IpNumber) (fragmented : Bool) (payload : List ℕ)
    (fault : Option Fault) (len : ℕ)
    → IsRead bytes header body first incomplete source
    → Chain slot_of first body pieces last rest
    → IsRow pieces last rest exts number fragmented payload fault
    → value ≡ ipv6_header_of header → len ≡ 40 + (length body - length payload) →
    ◌≡◌ {A = Answer}
    (Ok (parts len value exts incomplete number fragmented source payload
    (option_map (row_fault_within source) fault)))
    (lax_ipv6_headers_at bytes)
read_row found bytes header body first incomplete source pieces last rest value exts number
    fragmented payload fault len is chain row fields counted =
    let here : Chain slot_of (next_header_of header) (body_of bytes header) pieces last rest =
    rw (is.named, is.taken) at chain in
    let inside = row_in found bytes header pieces last rest here in
    let ends = fault_is bytes header pieces last rest inside in
    let number_same : number ≡ record { 0 = last } = λ i. record { 0 = row.numbered i } in
    let len_same : len ≡ 40 + length (bytes_of pieces) =
    omega (arith, counted, ap length row.left, rest_fits slot_of first body pieces last rest chain) in
    grind arith

-- of version 4 they are those of the packet's view
pub ipv4_read : (bytes : List ℕ) (packet : LaxIpv4Packet) (stop : Option (SliceError AuthFault))
    (headers : IpHeaders) (payload : LaxIpPayloadSlice)
    → ◌≡◌ {A = Result StoppedIpv4 (SliceError Ipv4HeaderFault)} (Ok (packet, stop)) (lax_ipv4_packet_at bytes)
    → headers ≡ lax_ipv4_value packet → lax_value payload ≡ (packet.incomplete, packet.payload)
    → ◌≡◌ {A = Result (StoppedHeaders (SliceError AuthFault)) (SliceError HeaderError)}
    (Ok (record { headers = headers; payload = lax_value payload; stop = stop }))
    (lax_ipv4_headers_at bytes)
ipv4_read bytes packet stop headers payload read value same =
    (λ i. Ok (record { headers = value i; payload = same i; stop = stop }))
    ∙ ap with_lax_ipv4_headers read
