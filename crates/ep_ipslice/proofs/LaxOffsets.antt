-- The headers of a packet as far as it is there lie within the bytes, and so does the offset of its
-- fault, so that the length of what comes before the bytes can be added to it.
use Rattle.std.proofs.Common.{◌≡◌, refl, ap, ℕ, ◌+◌, ◌==◌, ◌<◌, ◌≤◌, ◌^◌, Bool, true, false, List, [], ◌++◌}
use Rattle.std.proofs.Common.{length, take, drop, Option, Some, None, Result, Ok, Err, IfSome, IfOk, IfErr}
use Rattle.std.proofs.Common.{length-append, arith}
use Rattle.std.specs.Prelude.{if◌then◌else◌}
use Rattle.std.specs.Option.{option_map}
use Rattle.std.proofs.lemmas.List.{length-drop}
use Rattle.std.proofs.lemmas.Result.{IfErr-at_err, IfOk-at_ok}
use Rattle.ep_base.specs.SliceError.{CanMove}
use Rattle.ep_base.specs.declared.err.slice_error.SliceError.{SliceError}
use Rattle.ep_base.specs.declared.err.slice_error.SliceError.TheVariants.{Len, Content}
use Rattle.ep_base.specs.declared.len_source.LenSource.{LenSource}
use Rattle.ep_ip.specs.Ipv4.{protocol_of, total_len_of}
use Rattle.ep_ip.specs.Ipv4Fault as v4
use Rattle.ep_ip.specs.Ipv6.{next_header_of}
use Rattle.ep_ip.specs.Ipv6Fault as v6
use Rattle.ep_ip.specs.declared.err.ipv4.header_error.HeaderError.{HeaderError as Ipv4HeaderFault}
use Rattle.ep_ip.specs.declared.err.ipv6.header_error.HeaderError.{HeaderError as Ipv6HeaderFault}
use Rattle.ep_ext.specs.Chain.{Fault}
use Rattle.ep_ext.specs.Ipv4Exts.{auth_after, auth_bytes}
use Rattle.ep_ext.specs.Value.{Piece, bytes_of}
use Rattle.ep_ext.specs.declared.err.ip_auth.header_error.HeaderError.{HeaderError as AuthFault}
use Rattle.ep_ipslice.specs.Ipv4Packet as strict4
use Rattle.ep_ipslice.specs.Ipv6Exts.{view_order}
use Rattle.ep_ipslice.specs.Ipv6Packet.{body_of, extensions_of, number_after, rest_after}
use Rattle.ep_ipslice.specs.LaxPackets.{StoppedIpv4, StoppedIpv6, fault_within, is_ipv4_open, lax_ipv4_after}
use Rattle.ep_ipslice.specs.LaxPackets.{lax_ipv4_body, lax_ipv4_packet_at, lax_ipv4_source, lax_ipv4_with}
use Rattle.ep_ipslice.specs.LaxPackets.{lax_ipv6_after, lax_ipv6_packet_at, lax_ipv6_source, row_fault_within}
use Rattle.ep_ipslice.proofs.FaultOffsets.{AuthMoves, RowMoves, body_fits}
use Rattle.ep_ipslice.proofs.FirstFault.{RowEnds, row_chain}
use Rattle.ep_ipslice.proofs.Found.{header_found, walk, fault_after}
use Rattle.ep_ipslice.proofs.LaxIpv6.{fault_moves}
use Rattle.ep_ipslice.proofs.LaxLaws.{auth_cut}
use Rattle.ep_base.proofs.Cells.{take_fits}

prefix_within : (bytes prefix rest : List ℕ) → bytes ≡ prefix ++ rest → length prefix ≤ length bytes
prefix_within bytes prefix rest parts = omega (arith, ap length parts, length-append prefix rest)

-- a fault m bytes further on can be counted from n bytes earlier
pub within_moves : {C : Type 0} (source : LenSource) (m n : ℕ) (e : SliceError C) → CanMove e (m + n)
    → CanMove (fault_within source m e) n
within_moves source m n (Len e) moves = omega (arith, moves)
within_moves source m n (Content e) moves = tt

-- the IPv4 packet
abbrev pub Ipv4HeadersFit : List ℕ → StoppedIpv4 → Type 0
Ipv4HeadersFit bytes s = length s.0.header + length (auth_bytes s.0.auth) ≤ length bytes

ipv4_header_fits : (bytes header : List ℕ) → v4.header_at bytes ≡ Ok header
    → length header ≤ length bytes
ipv4_header_fits bytes header is = grind (arith, take_fits)

ipv4_body_fits : (is_open : Bool) (bytes header : List ℕ) → length header ≤ length bytes
    → length header + length (if is_open then drop (length header) bytes
    else strict4.body_of header bytes) ≤ length bytes
ipv4_body_fits true bytes header short = omega (arith, short, length-drop (length header) bytes)
ipv4_body_fits false bytes header short = omega (
  arith,
  short,
  length-drop (length header) (take (total_len_of header) bytes),
  take_fits (total_len_of header) bytes,
)

auth_fits : (bytes header : List ℕ) (a : Result (Option (List ℕ)) (SliceError AuthFault))
    → length header ≤ length bytes
    → auth_after (protocol_of header) (lax_ipv4_body bytes header) ≡ a
    → Ipv4HeadersFit bytes (lax_ipv4_with bytes header a)
auth_fits bytes header (Ok auth) short at =
    let body : List ℕ = lax_ipv4_body bytes header in
    omega (
      arith,
      ipv4_body_fits (is_ipv4_open header) bytes header short,
      prefix_within body (auth_bytes auth) (drop (length (auth_bytes auth)) body)
          (auth_cut (protocol_of header == 51) body auth at),
    )
auth_fits bytes header (Err e) short at = omega (arith, short)

ipv4_each_fits : (bytes : List ℕ) (r : Result (List ℕ) (SliceError Ipv4HeaderFault))
    → v4.header_at bytes ≡ r → IfOk (lax_ipv4_after bytes r) (Ipv4HeadersFit bytes)
ipv4_each_fits bytes (Ok header) at =
    auth_fits bytes header (auth_after (protocol_of header) (lax_ipv4_body bytes header))
    (ipv4_header_fits bytes header at) refl
ipv4_each_fits bytes (Err e) at = tt

pub ipv4_headers_fit : (bytes : List ℕ) (s : StoppedIpv4) → lax_ipv4_packet_at bytes ≡ Ok s
    → Ipv4HeadersFit bytes s
ipv4_headers_fit bytes s is =
    IfOk-at_ok (Ipv4HeadersFit bytes) is (ipv4_each_fits bytes (v4.header_at bytes) refl)

auth_moves : AuthMoves → (number : ℕ) (body : List ℕ) (n : ℕ) → n < 2 ^ 64
    → IfErr (auth_after number body) (λ e. CanMove e n)
auth_moves moves number body n fits = grind arith

auth_stops : AuthMoves → (bytes header : List ℕ)
    (a : Result (Option (List ℕ)) (SliceError AuthFault)) (n : ℕ) → length header + n < 2 ^ 64
    → auth_after (protocol_of header) (lax_ipv4_body bytes header) ≡ a
    → IfSome (lax_ipv4_with bytes header a).1 (λ e. CanMove e n)
auth_stops moves bytes header (Ok auth) n fits at = tt
auth_stops moves bytes header (Err e) n fits at =
    let there = auth_moves moves (protocol_of header) (lax_ipv4_body bytes header) (length header + n)
    fits in
    within_moves (lax_ipv4_source bytes header) (length header) n e
    (IfErr-at_err (λ (f : SliceError AuthFault). CanMove f (length header + n)) at there)

ipv4_each_moves : AuthMoves → (bytes : List ℕ)
    (r : Result (List ℕ) (SliceError Ipv4HeaderFault)) (n : ℕ) → length bytes + n < 2 ^ 64
    → v4.header_at bytes ≡ r
    → IfOk (lax_ipv4_after bytes r) (λ s. IfSome s.1 (λ e. CanMove e n))
ipv4_each_moves moves bytes (Ok header) n fits at =
    auth_stops moves bytes header (auth_after (protocol_of header) (lax_ipv4_body bytes header)) n
    (omega (arith, fits, ipv4_header_fits bytes header at)) refl
ipv4_each_moves moves bytes (Err e) n fits at = tt

pub ipv4_stop_moves : AuthMoves → (bytes : List ℕ) (s : StoppedIpv4) → lax_ipv4_packet_at bytes ≡ Ok s
    → (n : ℕ) → length bytes + n < 2 ^ 64 → IfSome s.1 (λ e. CanMove e n)
ipv4_stop_moves moves bytes s is n fits =
    IfOk-at_ok (λ (t : StoppedIpv4). IfSome t.1 (λ e. CanMove e n)) is
    (ipv4_each_moves moves bytes (v4.header_at bytes) n fits refl)

ipv4_at_start : (bytes : List ℕ) (n : ℕ) → n < 2 ^ 64
    → IfErr (v4.header_at bytes) (λ e. CanMove e n)
ipv4_at_start bytes n fits = grind arith

ipv4_refused : (P : SliceError Ipv4HeaderFault → Type 0) (bytes : List ℕ)
    (r : Result (List ℕ) (SliceError Ipv4HeaderFault)) → IfErr r P → IfErr (lax_ipv4_after bytes r) P
ipv4_refused P bytes (Ok header) each = tt
ipv4_refused P bytes (Err e) each = each

pub ipv4_header_moves : (bytes : List ℕ) (e : SliceError Ipv4HeaderFault)
    → lax_ipv4_packet_at bytes ≡ Err e → (n : ℕ) → length bytes + n < 2 ^ 64 → CanMove e n
ipv4_header_moves bytes e is n fits =
    let P = λ (f : SliceError Ipv4HeaderFault). CanMove f n in
    IfErr-at_err P is
    (ipv4_refused P bytes (v4.header_at bytes) (ipv4_at_start bytes n (omega (arith, fits))))

-- the IPv6 packet
abbrev pub Ipv6HeadersFit : List ℕ → StoppedIpv6 → Type 0
Ipv6HeadersFit bytes s = length s.0.header + length s.0.exts.slice ≤ length bytes

ipv6_header_fits : (bytes header : List ℕ) → v6.header_at bytes ≡ Ok header
    → (length header ≡ 40) × (40 ≤ length bytes)
ipv6_header_fits bytes header at =
    let begins = header_found bytes header at in
    let size : length header ≡ 40 = begins.0.whole in
    (size, omega (arith, size, prefix_within bytes header (drop 40 bytes) begins.1))

ipv6_each_fits : (bytes : List ℕ) (r : Result (List ℕ) (SliceError Ipv6HeaderFault))
    → v6.header_at bytes ≡ r → IfOk (lax_ipv6_after bytes r) (Ipv6HeadersFit bytes)
ipv6_each_fits bytes (Ok header) at =
    let first : ℕ = next_header_of header in
    let body : List ℕ = body_of bytes header in
    let found = walk (length body) view_order [] first body (omega arith) in
    let size = ipv6_header_fits bytes header at in
    omega (
      arith,
      size.0,
      size.1,
      prefix_within body (bytes_of (extensions_of first body)) found.rest found.cut,
      body_fits bytes header,
    )
ipv6_each_fits bytes (Err e) at = tt

pub ipv6_headers_fit : (bytes : List ℕ) (s : StoppedIpv6) → lax_ipv6_packet_at bytes ≡ Ok s
    → Ipv6HeadersFit bytes s
ipv6_headers_fit bytes s is =
    IfOk-at_ok (Ipv6HeadersFit bytes) is (ipv6_each_fits bytes (v6.header_at bytes) refl)

row_stops : RowMoves → RowEnds → (bytes header : List ℕ) (pieces : List Piece) (o : Option Fault)
    (n : ℕ) → 40 ≤ length bytes → length bytes + n < 2 ^ 64
    → pieces ≡ extensions_of (next_header_of header) (body_of bytes header)
    → fault_after bytes header pieces ≡ o
    → IfSome (option_map (row_fault_within (lax_ipv6_source bytes header)) o) (λ f. CanMove f.0 n)
row_stops moves ends bytes header pieces (Some fault) n enough fits are ended =
    let first : ℕ = next_header_of header in
    within_moves (lax_ipv6_source bytes header) 40 n fault.0
    (fault_moves moves bytes header (body_of bytes header) first pieces (number_after first pieces)
    (rest_after bytes header pieces) fault n enough fits refl
    (row_chain ends view_order bytes header fault pieces are ended) ended)
row_stops moves ends bytes header pieces None n enough fits are ended = tt

ipv6_each_moves : RowMoves → RowEnds → (bytes : List ℕ)
    (r : Result (List ℕ) (SliceError Ipv6HeaderFault)) (n : ℕ) → length bytes + n < 2 ^ 64
    → v6.header_at bytes ≡ r
    → IfOk (lax_ipv6_after bytes r) (λ s. IfSome s.1 (λ f. CanMove f.0 n))
ipv6_each_moves moves ends bytes (Ok header) n fits at =
    let pieces : List Piece = extensions_of (next_header_of header) (body_of bytes header) in
    row_stops moves ends bytes header pieces (fault_after bytes header pieces) n
    (ipv6_header_fits bytes header at).1 fits refl refl
ipv6_each_moves moves ends bytes (Err e) n fits at = tt

pub ipv6_stop_moves : RowMoves → RowEnds → (bytes : List ℕ) (s : StoppedIpv6)
    → lax_ipv6_packet_at bytes ≡ Ok s → (n : ℕ) → length bytes + n < 2 ^ 64
    → IfSome s.1 (λ f. CanMove f.0 n)
ipv6_stop_moves moves ends bytes s is n fits =
    IfOk-at_ok (λ (t : StoppedIpv6). IfSome t.1 (λ f. CanMove f.0 n)) is
    (ipv6_each_moves moves ends bytes (v6.header_at bytes) n fits refl)

ipv6_at_start : (bytes : List ℕ) (n : ℕ) → n < 2 ^ 64
    → IfErr (v6.header_at bytes) (λ e. CanMove e n)
ipv6_at_start bytes n fits = grind arith

ipv6_refused : (P : SliceError Ipv6HeaderFault → Type 0) (bytes : List ℕ)
    (r : Result (List ℕ) (SliceError Ipv6HeaderFault)) → IfErr r P → IfErr (lax_ipv6_after bytes r) P
ipv6_refused P bytes (Ok header) each = tt
ipv6_refused P bytes (Err e) each = each

pub ipv6_header_moves : (bytes : List ℕ) (e : SliceError Ipv6HeaderFault)
    → lax_ipv6_packet_at bytes ≡ Err e → (n : ℕ) → length bytes + n < 2 ^ 64 → CanMove e n
ipv6_header_moves bytes e is n fits =
    let P = λ (f : SliceError Ipv6HeaderFault). CanMove f n in
    IfErr-at_err P is
    (ipv6_refused P bytes (v6.header_at bytes) (ipv6_at_start bytes n (omega (arith, fits))))
