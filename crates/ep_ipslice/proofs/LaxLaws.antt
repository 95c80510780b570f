-- Packets that are there and packets as far as they are there.
use Rattle.std.proofs.Common.{◌≡◌, ◌≢◌, ◌∙◌, sym, ap, refl, ℕ, suc, ◌-◌, ◌≤◌, ◌<◌, ◌==◌, Bool, true, false, List, [], ◌∷◌}
use Rattle.std.proofs.Common.{◌++◌, length, take, drop, Option, Some, None, Result, Ok, Err, IsOkAnd, arith, length-append}
use Rattle.std.specs.Prelude.{if◌then◌else◌}
use Rattle.std.specs.Option.{option_map}
use Rattle.std.proofs.lemmas.Bool.{le-ltb, lt-ltb}
use Rattle.std.proofs.lemmas.List.{drop_at, length-drop, take_all}
use Rattle.std.specs.Result.{result_map_both}
use Rattle.ep_base.specs.declared.err.layer.Layer.TheVariants as layer
use Rattle.ep_base.specs.declared.err.len_error.LenError.{LenError}
use Rattle.ep_base.specs.declared.err.slice_error.SliceError.{SliceError}
use Rattle.ep_base.specs.declared.err.slice_error.SliceError.TheVariants as slice_error
use Rattle.ep_base.specs.declared.len_source.LenSource.TheVariants.{Slice}
use Rattle.ep_ip.specs.Ipv4.{protocol_of, total_len_of, version_of}
use Rattle.ep_ip.specs.Ipv4Fault as v4
use Rattle.ep_ip.specs.Ipv6.{next_header_of}
use Rattle.ep_ip.specs.Ipv6Fault as v6
use Rattle.ep_ip.specs.declared.err.ipv4.header_error.HeaderError.{HeaderError as Ipv4HeaderFault}
use Rattle.ep_ip.specs.declared.err.ipv6.header_error.HeaderError.{HeaderError as Ipv6HeaderFault}
use Rattle.ep_ext.specs.Auth.{auth_at}
use Rattle.ep_ext.specs.Chain.{Fault}
use Rattle.ep_ext.specs.Ipv4Exts.{auth_after, auth_bytes}
use Rattle.ep_ext.specs.Value.{Piece, bytes_of}
use Rattle.ep_ext.specs.declared.err.ip_auth.header_error.HeaderError.{HeaderError as AuthFault}
use Rattle.ep_ext.specs.declared.err.ipv6_exts.header_error.HeaderError.{HeaderError as ExtsFault}
use Rattle.ep_ipslice.specs.IpSlice.{ip_packet_at, with_ipv4, with_ipv6}
use Rattle.ep_ipslice.specs.Ipv4Packet as strict4
use Rattle.ep_ipslice.specs.Ipv4Packet.{ipv4_packet_at}
use Rattle.ep_ipslice.specs.Ipv6Exts.{view_order}
use Rattle.ep_ipslice.specs.Ipv6Packet as strict6
use Rattle.ep_ipslice.specs.Ipv6Packet.{ipv6_packet_at, packet_after}
use Rattle.ep_ipslice.specs.LaxIp.{StoppedIp, lax_ip_packet_at, whole_ip, with_lax_ipv4, with_lax_ipv6}
use Rattle.ep_ipslice.specs.LaxPackets.{LaxIpv4Packet, is_ipv6_cut, lax_ipv4_after, lax_ipv4_body, lax_ipv4_packet_at}
use Rattle.ep_ipslice.specs.LaxPackets.{lax_ipv4_with, lax_ipv6_after, lax_ipv6_packet_at, lax_ipv6_source}
use Rattle.ep_ipslice.specs.LaxPackets.{whole_ipv4, whole_ipv6}
use Rattle.ep_ipslice.specs.Packet.{Ipv4Packet, Ipv6Packet, body_len}
use Rattle.ep_ipslice.specs.declared.err.ip.header_error.HeaderError.{HeaderError}
use Rattle.ep_ipslice.specs.declared.err.ip.slice_error.SliceError.{SliceError as IpFault}
use Rattle.ep_ipslice.specs.declared.err.ipv4.slice_error.SliceError.{SliceError as Ipv4Fault}
use Rattle.ep_ipslice.specs.declared.err.ipv4.slice_error.SliceError.TheVariants as ipv4
use Rattle.ep_ipslice.specs.declared.err.ipv6.slice_error.SliceError.{SliceError as Ipv6Fault}
use Rattle.ep_ipslice.specs.declared.err.ipv6.slice_error.SliceError.TheVariants as ipv6
use Rattle.ep_ipslice.specs.declared.net.ip_slice.IpSlice.{IpSlice}
use Rattle.ep_ipslice.proofs.Found.{header_found, walk}
use Rattle.ep_ext.proofs.Found.{auth_begins}

-- where a packet is there, it is the packet as far as it is there
after_ipv4 : (bytes : List ℕ) (r : Result (List ℕ) (SliceError Ipv4HeaderFault)) (packet : Ipv4Packet)
    → strict4.packet_with bytes r ≡ Ok packet
    → lax_ipv4_after bytes r ≡ Ok (whole_ipv4 packet, None)
after_ipv4 bytes r packet is = grind arith

pub whole_v4 : (bytes : List ℕ) (packet : Ipv4Packet) → ipv4_packet_at bytes ≡ Ok packet
    → lax_ipv4_packet_at bytes ≡ Ok (whole_ipv4 packet, None)
whole_v4 bytes packet is = after_ipv4 bytes (v4.header_at bytes) packet is

after_ipv6 : (bytes : List ℕ) (r : Result (List ℕ) (SliceError Ipv6HeaderFault)) (packet : Ipv6Packet)
    → packet_after bytes r ≡ Ok packet
    → lax_ipv6_after bytes r ≡ Ok (whole_ipv6 packet, None)
after_ipv6 bytes r packet is = grind arith

pub whole_v6 : (bytes : List ℕ) (packet : Ipv6Packet) → ipv6_packet_at bytes ≡ Ok packet
    → lax_ipv6_packet_at bytes ≡ Ok (whole_ipv6 packet, None)
whole_v6 bytes packet is = after_ipv6 bytes (v6.header_at bytes) packet is

ipv4_case : (bytes : List ℕ) (r : Result Ipv4Packet Ipv4Fault) (packet : IpSlice)
    → ipv4_packet_at bytes ≡ r → with_ipv4 r ≡ Ok packet
    → with_lax_ipv4 (lax_ipv4_packet_at bytes) ≡ Ok (whole_ip packet, None)
ipv4_case bytes (Ok found) packet at is = rw (whole_v4 bytes found at) (grind arith)
ipv4_case bytes (Err e) packet at is = cc

ipv6_case : (bytes : List ℕ) (r : Result Ipv6Packet Ipv6Fault) (packet : IpSlice)
    → ipv6_packet_at bytes ≡ r → with_ipv6 r ≡ Ok packet
    → with_lax_ipv6 (lax_ipv6_packet_at bytes) ≡ Ok (whole_ip packet, None)
ipv6_case bytes (Ok found) packet at is = rw (whole_v6 bytes found at) (grind arith)
ipv6_case bytes (Err e) packet at is = cc

by_version : (none four six : Bool) (bytes : List ℕ) (packet : IpSlice) (e : IpFault)
    (f : IpFault) (g h : SliceError HeaderError) →
    (if none then Err e
    else (if four then with_ipv4 (ipv4_packet_at bytes)
    else (if six then with_ipv6 (ipv6_packet_at bytes) else Err f))) ≡ Ok packet →
    ◌≡◌ {A = Result StoppedIp (SliceError HeaderError)}
    (if none then Err g
    else (if four then with_lax_ipv4 (lax_ipv4_packet_at bytes)
    else (if six then with_lax_ipv6 (lax_ipv6_packet_at bytes) else Err h)))
    (Ok (whole_ip packet, None))
by_version true four six bytes packet e f g h is = cc
by_version false true six bytes packet e f g h is = ipv4_case bytes (ipv4_packet_at bytes) packet refl is
by_version false false true bytes packet e f g h is =
    ipv6_case bytes (ipv6_packet_at bytes) packet refl is
by_version false false false bytes packet e f g h is = cc

pub whole_either : (bytes : List ℕ) (packet : IpSlice) → ip_packet_at bytes ≡ Ok packet
    → lax_ip_packet_at bytes ≡ Ok (whole_ip packet, None)
whole_either bytes packet is =
    by_version (length bytes == 0) (version_of bytes == 4) (version_of bytes == 6) bytes packet
    _ _ _ _ is

some_bytes : (bytes : List ℕ) (n : ℕ) → version_of bytes ≡ suc n → (length bytes == 0) ≡ false
some_bytes [] n is = cc
some_bytes (first ∷ rest) n is = grind arith

pub four_is : (bytes : List ℕ) → version_of bytes ≡ 4
    → (ip_packet_at bytes ≡ with_ipv4 (ipv4_packet_at bytes))
    × (lax_ip_packet_at bytes ≡ with_lax_ipv4 (lax_ipv4_packet_at bytes))
four_is bytes is = (rw (some_bytes bytes 3 is, is) refl, rw (some_bytes bytes 3 is, is) refl)

pub six_is : (bytes : List ℕ) → version_of bytes ≡ 6
    → (ip_packet_at bytes ≡ with_ipv6 (ipv6_packet_at bytes))
    × (lax_ip_packet_at bytes ≡ with_lax_ipv6 (lax_ipv6_packet_at bytes))
six_is bytes is = (rw (some_bytes bytes 5 is, is) refl, rw (some_bytes bytes 5 is, is) refl)

-- an authentication header that is found, and what follows it
auth_case : (body : List ℕ) (r : Result (List ℕ) (SliceError AuthFault)) (auth : Option (List ℕ))
    → auth_at body ≡ r → result_map_both Some (λ e. e) r ≡ Ok auth
    → body ≡ auth_bytes auth ++ drop (length (auth_bytes auth)) body
auth_case body (Ok header) auth at is =
    let begins = auth_begins body header at in
    grind (arith, drop_at)
auth_case body (Err e) auth at is = cc

pub auth_cut : (named : Bool) (body : List ℕ) (auth : Option (List ℕ))
    → (if named then result_map_both Some (λ e. e) (auth_at body) else Ok None) ≡ Ok auth
    → body ≡ auth_bytes auth ++ drop (length (auth_bytes auth)) body
auth_cut true body auth is = auth_case body (auth_at body) auth refl is
auth_cut false body auth is = grind arith

-- a packet with all bytes that are there, though more are promised
abbrev pub HasAll : List ℕ → List ℕ → LaxIpv4Packet → Type 0
HasAll bytes header p = (p.incomplete ≡ true) × (p.payload.len_source ≡ Slice)
    × (bytes ≡ header ++ (auth_bytes p.auth ++ p.payload.payload))

cut_with : (bytes header : List ℕ) (a : Result (Option (List ℕ)) (SliceError AuthFault))
    → bytes ≡ header ++ lax_ipv4_body bytes header → length bytes < total_len_of header
    → auth_after (protocol_of header) (lax_ipv4_body bytes header) ≡ a
    → HasAll bytes header (lax_ipv4_with bytes header a).0
cut_with bytes header (Ok auth) parts short at = (
  lt-ltb (length bytes) (total_len_of header) short,
  grind (arith, lt-ltb),
  parts ∙ ap (λ (xs : List ℕ). header ++ xs)
      (auth_cut (protocol_of header == 51) (lax_ipv4_body bytes header) auth at),
)
cut_with bytes header (Err e) parts short at = (
  lt-ltb (length bytes) (total_len_of header) short,
  grind (arith, lt-ltb),
  parts,
)

pub cut_v4 : (bytes header rest : List ℕ) → v4.header_at bytes ≡ Ok header
    → bytes ≡ header ++ rest → length bytes < total_len_of header
    → IsOkAnd (lax_ipv4_packet_at bytes) (λ r. HasAll bytes header r.0)
cut_v4 bytes header rest at parts short =
    let all : take (total_len_of header) bytes ≡ bytes =
    take_all (total_len_of header) bytes (omega (arith, short)) in
    let fits : length header ≤ total_len_of header =
    omega (arith, short, ap length parts, length-append header rest) in
    let body : lax_ipv4_body bytes header ≡ rest = grind (arith, le-ltb, drop_at) in
    let here = cut_with bytes header
    (auth_after (protocol_of header) (lax_ipv4_body bytes header))
    (parts ∙ ap (λ (xs : List ℕ). header ++ xs) (sym body)) short refl in
    rw at here

pub cut_v6 : (bytes header : List ℕ) → v6.header_at bytes ≡ Ok header
    → length bytes - 40 < body_len header (length bytes - 40)
    → IsOkAnd (lax_ipv6_packet_at bytes) (λ r. (r.0.incomplete ≡ true)
    × (r.0.payload.len_source ≡ Slice)
    × (bytes ≡ header ++ (r.0.exts.slice ++ r.0.payload.payload)))
cut_v6 bytes header at short =
    let first : ℕ = next_header_of header in
    let len : ℕ = body_len header (length bytes - 40) in
    let body : List ℕ = strict6.body_of bytes header in
    let pieces : List Piece = strict6.extensions_of first body in
    let begins = header_found bytes header at in
    let found = walk (length body) view_order [] first body (omega arith) in
    let all : body ≡ drop 40 bytes =
    take_all len (drop 40 bytes) (omega (arith, length-drop 40 bytes, short)) in
    let left : strict6.rest_after bytes header pieces ≡ found.rest =
    ap (drop (length (bytes_of pieces))) found.cut
    ∙ drop_at (bytes_of pieces) found.rest (length (bytes_of pieces)) refl in
    let here : (is_ipv6_cut bytes header ≡ true) × (lax_ipv6_source bytes header ≡ Slice)
    × (bytes ≡ header ++ (bytes_of pieces ++ strict6.rest_after bytes header pieces)) = (
      lt-ltb (length bytes - 40) len short,
      grind (arith, lt-ltb),
      begins.1 ∙ ap (λ (xs : List ℕ). header ++ xs) (sym all ∙ found.cut
          ∙ ap (λ (xs : List ℕ). bytes_of pieces ++ xs) (sym left)),
    ) in
    rw at here

-- a fault of an extension header is what stops the packet
after_auth : (bytes : List ℕ) (r : Result (List ℕ) (SliceError Ipv4HeaderFault)) (e : AuthFault)
    → strict4.packet_with bytes r ≡ Err (ipv4.Exts e)
    → IsOkAnd (lax_ipv4_after bytes r) (λ s. s.1 ≡ Some (slice_error.Content e))
after_auth bytes r e is = grind arith

pub auth_stops : (bytes : List ℕ) (e : AuthFault) → ipv4_packet_at bytes ≡ Err (ipv4.Exts e)
    → IsOkAnd (lax_ipv4_packet_at bytes) (λ s. s.1 ≡ Some (slice_error.Content e))
auth_stops bytes e is = after_auth bytes (v4.header_at bytes) e is

v4_layer : (bytes : List ℕ) (e : LenError) → v4.header_at bytes ≡ Err (slice_error.Len e)
    → e.layer ≡ layer.Ipv4Header
v4_layer bytes e is = grind arith

after_auth_len : (bytes : List ℕ) (r : Result (List ℕ) (SliceError Ipv4HeaderFault)) (e : LenError)
    → ((f : LenError) → r ≡ Err (slice_error.Len f) → f.layer ≡ layer.Ipv4Header)
    → strict4.packet_with bytes r ≡ Err (ipv4.Len e) → e.layer ≡ layer.IpAuthHeader
    → IsOkAnd (lax_ipv4_after bytes r) (λ s. s.1 ≡ Some (slice_error.Len e))
after_auth_len bytes r e of_header is named = grind arith

pub auth_len_stops : (bytes : List ℕ) (e : LenError) → ipv4_packet_at bytes ≡ Err (ipv4.Len e)
    → e.layer ≡ layer.IpAuthHeader
    → IsOkAnd (lax_ipv4_packet_at bytes) (λ s. s.1 ≡ Some (slice_error.Len e))
auth_len_stops bytes e is named = after_auth_len bytes (v4.header_at bytes) e (v4_layer bytes) is named

after_row : (bytes : List ℕ) (r : Result (List ℕ) (SliceError Ipv6HeaderFault)) (e : ExtsFault)
    → packet_after bytes r ≡ Err (ipv6.Exts e)
    → IsOkAnd (lax_ipv6_after bytes r)
    (λ s. option_map (λ (f : Fault). f.0) s.1 ≡ Some (slice_error.Content e))
after_row bytes r e is = grind arith

pub row_stops : (bytes : List ℕ) (e : ExtsFault) → ipv6_packet_at bytes ≡ Err (ipv6.Exts e)
    → IsOkAnd (lax_ipv6_packet_at bytes)
    (λ s. option_map (λ (f : Fault). f.0) s.1 ≡ Some (slice_error.Content e))
row_stops bytes e is = after_row bytes (v6.header_at bytes) e is

v6_layer : (bytes : List ℕ) (e : LenError) → v6.header_at bytes ≡ Err (slice_error.Len e)
    → e.layer ≡ layer.Ipv6Header
v6_layer bytes e is = grind arith

after_row_len : (bytes : List ℕ) (r : Result (List ℕ) (SliceError Ipv6HeaderFault)) (e : LenError)
    → ((f : LenError) → r ≡ Err (slice_error.Len f) → f.layer ≡ layer.Ipv6Header)
    → packet_after bytes r ≡ Err (ipv6.Len e) → e.layer ≢ layer.Ipv6Header
    → e.layer ≢ layer.Ipv6Packet
    → IsOkAnd (lax_ipv6_after bytes r)
    (λ s. option_map (λ (f : Fault). f.0) s.1 ≡ Some (slice_error.Len e))
after_row_len bytes r e of_header is header packet = grind arith

pub row_len_stops : (bytes : List ℕ) (e : LenError) → ipv6_packet_at bytes ≡ Err (ipv6.Len e)
    → e.layer ≢ layer.Ipv6Header → e.layer ≢ layer.Ipv6Packet
    → IsOkAnd (lax_ipv6_packet_at bytes)
    (λ s. option_map (λ (f : Fault). f.0) s.1 ≡ Some (slice_error.Len e))
row_len_stops bytes e is header packet =
    after_row_len bytes (v6.header_at bytes) e (v6_layer bytes) is header packet
