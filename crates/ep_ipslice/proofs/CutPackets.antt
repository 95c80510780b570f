-- Packets of which the first bytes are there.
use Rattle.std.proofs.Common.{◌≡◌, ◌∙◌, ap, ap₂, refl, ℕ, ◌+◌, ◌-◌, ◌*◌, ◌<◌, ◌≤◌, ◌==◌, ◌&&◌, not, Bool, true, false, List}
use Rattle.std.proofs.Common.{[], ◌∷◌, ◌++◌, length, take, drop, Option, None, Result, Ok, Err, arith, append_assoc}
use Rattle.std.proofs.Common.{append-nil, length-append, take-append-drop, Some}
use Rattle.std.specs.Prelude.{if◌then◌else◌, nat_lt}
use Rattle.std.proofs.Math.Seq.{take-append-add}
use Rattle.std.proofs.lemmas.Bool.Decides.{nat_tests}
use Rattle.std.proofs.lemmas.List.{drop_at, get_or-take, get_or_append_left, length-take, length-take-le, take_all}
use Rattle.std.proofs.lemmas.List.{take_at}
use Rattle.std.specs.Result.{result_map_both}
use Rattle.ep_base.proofs.FirstBytes.{payload_prefix, take_after}
use Rattle.ep_base.specs.Bytes.{num}
use Rattle.ep_base.specs.declared.err.slice_error.SliceError.{SliceError}
use Rattle.ep_base.specs.declared.len_source.LenSource.{LenSource}
use Rattle.ep_base.specs.declared.len_source.LenSource.TheVariants.{Slice, Ipv6HeaderPayloadLen}
use Rattle.ep_ip.specs.Ipv4.{IsIpv4Header, ihl_of, protocol_of, total_len_of, version_of}
use Rattle.ep_ip.specs.Ipv4Fault as v4
use Rattle.ep_ip.specs.Ipv6.{payload_length_of}
use Rattle.ep_ip.specs.Ipv6Fault as v6
use Rattle.ep_ip.specs.declared.err.ipv4.header_error.HeaderError.{HeaderError as Ipv4HeaderFault}
use Rattle.ep_ip.proofs.Ipv6Prefix.{prefix_again}
use Rattle.ep_ext.specs.Auth.{auth_at}
use Rattle.ep_ext.specs.Ipv4Exts.{IsAuthAfter, auth_after, auth_bytes}
use Rattle.ep_ext.specs.Value.{Piece, bytes_of, slots}
use Rattle.ep_ext.specs.declared.err.ip_auth.header_error.HeaderError.{HeaderError as AuthFault}
use Rattle.ep_ext.specs.declared.net.ipv6_ext_slot.Ipv6ExtSlot.TheVariants.{Authentication}
use Rattle.ep_ipslice.specs.CutPackets.{cut_ip, cut_ipv4, cut_ipv6, cut_ipv6_source, ip_headers_len, ipv4_headers_len}
use Rattle.ep_ipslice.specs.CutPackets.{ipv6_headers_len, is_ipv4_short, is_ipv6_short}
use Rattle.ep_ipslice.specs.IpSlice.{ip_packet_at, with_ipv4, with_ipv6}
use Rattle.ep_ipslice.specs.Ipv4Packet as strict4
use Rattle.ep_ipslice.specs.Ipv4Packet.{ipv4_packet_at}
use Rattle.ep_ipslice.specs.Ipv6Exts.{Ipv6Exts, view_order}
use Rattle.ep_ipslice.specs.Ipv6Packet as strict6
use Rattle.ep_ipslice.specs.Ipv6Packet.{ipv6_packet_at}
use Rattle.ep_ipslice.specs.Ipv6Walk.{piece_at_start}
use Rattle.ep_ipslice.specs.LaxIp.{lax_ip_packet_at}
use Rattle.ep_ipslice.specs.LaxPackets.{is_ipv4_cut, is_ipv6_cut, lax_ipv4_packet_at, lax_ipv6_packet_at}
use Rattle.ep_ipslice.specs.Packet.{Ipv4Packet, Ipv6Packet, IsIpv4Packet, IsIpv6Packet, body_source}
use Rattle.ep_ipslice.specs.declared.err.ip.slice_error.SliceError.{SliceError as IpFault}
use Rattle.ep_ipslice.specs.declared.err.ipv4.slice_error.SliceError.{SliceError as Ipv4Fault}
use Rattle.ep_ipslice.specs.declared.err.ipv6.slice_error.SliceError.{SliceError as Ipv6Fault}
use Rattle.ep_ipslice.specs.declared.net.ip_slice.IpSlice.{IpSlice}
use Rattle.ep_ipslice.specs.declared.net.ip_slice.IpSlice.TheVariants as ip
use Rattle.ep_ipslice.proofs.Found as found6
use Rattle.ep_ipslice.proofs.Ipv4Parts.{auth_found, packet_found}
use Rattle.ep_ipslice.proofs.Ipv6At.{RowIn, fault_is, row_in}
use Rattle.ep_ipslice.proofs.Ipv6Parts.{no_fault_of}
use Rattle.ep_ipslice.proofs.LaxLaws.{auth_cut, four_is, six_is}
use Rattle.ep_ipslice.proofs.Left.{HasLeast, IsFound}
use Rattle.ep_ipslice.proofs.Found.{fault_after}
use Rattle.ep_ext.proofs.Found.{auth_begins}

-- the IPv4 header at the start of bytes, and in other bytes that it starts
v4_taken : (bytes header : List ℕ) → v4.header_at bytes ≡ Ok header → (version_of bytes ≡ 4)
    × (5 ≤ ihl_of bytes) × (4 * ihl_of bytes ≤ length bytes) × (take (4 * ihl_of bytes) bytes ≡ header)
v4_taken bytes header is = grind (arith, nat_tests)

pub v4_begins : (bytes header : List ℕ) → v4.header_at bytes ≡ Ok header
    → IsIpv4Header header × (bytes ≡ header ++ drop (length header) bytes)
v4_begins bytes header is =
    let taken = v4_taken bytes header is in
    let n : ℕ = 4 * ihl_of bytes in
    let size : length header ≡ n = rw (← taken.3) (length-take-le n bytes taken.2) in
    let first : num header 0 1 ≡ num bytes 0 1 =
    rw (← taken.3) (get_or-take n bytes 0 0 (omega (arith, taken.1))) in (
      record {
        version = rw first taken.0;
        minimum = rw first taken.1;
        whole = rw first size;
      },
      grind (arith, take-append-drop),
    )

pub v4_again : (header rest : List ℕ) → IsIpv4Header header → v4.header_at (header ++ rest) ≡ Ok header
v4_again header rest is = grind (arith, nat_tests, get_or_append_left, length-append, take_at)

-- what is found after a number is an authentication header, if it names one
named_case : (body : List ℕ) (r : Result (List ℕ) (SliceError AuthFault)) (auth : Option (List ℕ))
    → auth_at body ≡ r → result_map_both Some (λ e. e) r ≡ Ok auth → IsAuthAfter 51 auth
named_case body (Ok header) auth at is =
    let begins = auth_begins body header at in
    grind arith
named_case body (Err e) auth at is = cc

pub named_by : (named : Bool) (number : ℕ) (body : List ℕ) (auth : Option (List ℕ))
    → (number == 51) ≡ named → (if named then result_map_both Some (λ e. e) (auth_at body) else Ok None) ≡ Ok auth
    → IsAuthAfter number auth
named_by true number body auth names is =
    let same : number ≡ 51 = grind (arith, nat_tests) in
    rw (← same) at (named_case body (auth_at body) auth refl is)
named_by false number body auth names is = grind (arith, nat_tests)

-- the packet of a header and of what is found after it
v4_stands : (bytes header : List ℕ) (auth : Option (List ℕ)) → IsIpv4Header header
    → bytes ≡ header ++ drop (length header) bytes → length header ≤ total_len_of header
    → total_len_of header ≤ length bytes
    → auth_after (protocol_of header) (strict4.body_of header bytes) ≡ Ok auth
    → IsIpv4Packet bytes (record {
      header = header;
      auth = auth;
      payload = drop (length (auth_bytes auth)) (strict4.body_of header bytes);
    })
v4_stands bytes header auth is parts fits most at =
    packet_found bytes header (drop (length header) bytes) (take (total_len_of header) bytes)
    (strict4.body_of header bytes)
    (drop (length (auth_bytes auth)) (strict4.body_of header bytes)) auth (total_len_of header) is
    parts refl fits most refl refl
    (named_by (protocol_of header == 51) (protocol_of header) (strict4.body_of header bytes) auth
    refl at)
    (auth_cut (protocol_of header == 51) (strict4.body_of header bytes) auth at)

v4_with : (bytes header : List ℕ) (r : Result (Option (List ℕ)) (SliceError AuthFault))
    (packet : Ipv4Packet) → v4.header_at bytes ≡ Ok header
    → auth_after (protocol_of header) (strict4.body_of header bytes) ≡ r
    → strict4.packet_with bytes (Ok header) ≡ Ok packet → IsIpv4Packet bytes packet
v4_with bytes header (Ok auth) packet at after is =
    let begins = v4_begins bytes header at in
    let stands = v4_stands bytes header auth begins.0 begins.1 in
    grind (arith, nat_tests)
v4_with bytes header (Err e) packet at after is = grind arith

v4_after : (bytes : List ℕ) (r : Result (List ℕ) (SliceError Ipv4HeaderFault)) (packet : Ipv4Packet)
    → v4.header_at bytes ≡ r → strict4.packet_with bytes r ≡ Ok packet → IsIpv4Packet bytes packet
v4_after bytes (Ok header) packet at is = v4_with bytes header
    (auth_after (protocol_of header) (strict4.body_of header bytes)) packet at refl is
v4_after bytes (Err e) packet at is = cc

-- the IPv4 packet that is found at the start of bytes is there
pub v4_is : (bytes : List ℕ) (packet : Ipv4Packet) → ipv4_packet_at bytes ≡ Ok packet
    → IsIpv4Packet bytes packet
v4_is bytes packet is = v4_after bytes (v4.header_at bytes) packet refl is

-- the body of the first bytes
v4_body : (header auth payload padding : List ℕ) (n : ℕ) →
    drop (length header) (take (length (header ++ auth) + length payload)
    ((header ++ auth) ++ take n (payload ++ padding))) ≡ auth ++ take n payload
v4_body header auth payload padding n =
    ap (drop (length header)) (take-append-add (header ++ auth) (take n (payload ++ padding)) (length payload)
    ∙ ap (λ (xs : List ℕ). (header ++ auth) ++ xs) (payload_prefix n payload padding)
    ∙ append_assoc header auth (take n payload))
    ∙ drop_at header (auth ++ take n payload) (length header) refl

short_after : (k n : ℕ) (payload padding : List ℕ)
    → nat_lt (k + length (take n (payload ++ padding))) (k + length payload) ≡ nat_lt n (length payload)
short_after k n payload padding = grind (arith, nat_tests, length-take, length-append)

-- the parts of an IPv4 packet's first bytes
record IsV4Cut (bytes : List ℕ) (n : ℕ) (packet : Ipv4Packet) : Type 0 where
  header_is : v4.header_at bytes ≡ Ok packet.header
  closed : nat_lt (total_len_of packet.header) (length packet.header) ≡ false
  auth_is : auth_after (protocol_of packet.header) (strict4.body_of packet.header bytes) ≡ Ok packet.auth
  rest : drop (length (auth_bytes packet.auth)) (strict4.body_of packet.header bytes)
      ≡ take (n - ipv4_headers_len packet) packet.payload
  short : is_ipv4_cut bytes packet.header ≡ is_ipv4_short n packet

v4_cut : IsFound → (n : ℕ) (bytes : List ℕ) (packet : Ipv4Packet) → IsIpv4Packet bytes packet
    → ipv4_headers_len packet ≤ n → IsV4Cut (take n bytes) n packet
v4_cut found n bytes packet is enough =
    let header = packet.header in
    let auth = auth_bytes packet.auth in
    let payload = packet.payload in
    let left : ℕ = n - ipv4_headers_len packet in
    let there : List ℕ = take left (payload ++ is.padding) in
    let sizes : length (header ++ auth) ≡ ipv4_headers_len packet = length-append header auth in
    let cut : take n bytes ≡ (header ++ auth) ++ there =
    ap (take n) (is.cut ∙ append_assoc (header ++ auth) payload is.padding)
    ∙ take_after n (header ++ auth) (payload ++ is.padding) (omega (arith, enough, sizes))
    ∙ ap (λ (k : ℕ). (header ++ auth) ++ take (n - k) (payload ++ is.padding)) sizes in
    let total : total_len_of header ≡ length (header ++ auth) + length payload =
    omega (arith, is.total, sizes) in
    let body : strict4.body_of header (take n bytes) ≡ auth ++ take left payload =
    ap₂ (λ (k : ℕ) (xs : List ℕ). drop (length header) (take k xs)) total cut
    ∙ v4_body header auth payload is.padding left in
    let begins : take n bytes ≡ header ++ (auth ++ there) = cut ∙ append_assoc header auth there in
    record {
      header_is = rw begins (v4_again header (auth ++ there) is.header);
      closed = grind (arith, nat_tests);
      auth_is = rw body (auth_found (found Authentication) (protocol_of header) packet.auth
          (take left payload) is.auth);
      rest = rw body (drop_at auth (take left payload) (length auth) refl);
      short = ap₂ nat_lt (ap length cut ∙ length-append (header ++ auth) there) total
          ∙ short_after (length (header ++ auth)) left payload is.padding;
    }

pub cut_v4 : IsFound → (n : ℕ) (bytes : List ℕ) (packet : Ipv4Packet)
    → ipv4_packet_at bytes ≡ Ok packet → ipv4_headers_len packet ≤ n
    → lax_ipv4_packet_at (take n bytes) ≡ Ok (cut_ipv4 n packet, None)
cut_v4 found n bytes packet at enough =
    let cut = v4_cut found n bytes packet (v4_is bytes packet at) enough in
    grind arith

-- how long extension headers and payload are, and what that came from, by a payload length
abbrev pub len_by : (stated following : ℕ) → ℕ
len_by stated following = if (stated == 0) && nat_lt 0 following then following else stated

abbrev source_by : (stated following : ℕ) → LenSource
source_by stated following = if (stated == 0) && nat_lt 0 following then Slice else Ipv6HeaderPayloadLen

-- extension headers and payload have the payload's length
abbrev IsSized : (stated : ℕ) (exts payload padding : List ℕ) → Type 0
IsSized stated exts payload padding =
    length exts + length payload ≡ len_by stated (length exts + (length payload + length padding))

no_padding : (stated : ℕ) (exts payload padding : List ℕ) → (stated == 0) ≡ true
    → IsSized stated exts payload padding → padding ≡ []
no_padding stated exts payload [] none size = refl
no_padding stated exts payload (b ∷ padding) none size = grind (arith, nat_tests)

-- the body of the first bytes
v6_body : (none : Bool) (stated n : ℕ) (exts payload padding : List ℕ) → (stated == 0) ≡ none
    → IsSized stated exts payload padding →
    take (len_by stated (length (exts ++ take n (payload ++ padding)))) (exts ++ take n (payload ++ padding))
    ≡ exts ++ take n payload
v6_body true stated n exts payload padding zero_is size =
    let all = no_padding stated exts payload padding zero_is size in
    grind (arith, nat_tests, take_all, append-nil)
v6_body false stated n exts payload padding given size =
    let same : len_by stated (length (exts ++ take n (payload ++ padding))) ≡ length exts + length payload =
    grind arith in
    rw same (take-append-add exts (take n (payload ++ padding)) (length payload)
    ∙ ap (λ (xs : List ℕ). exts ++ xs) (payload_prefix n payload padding))

v6_short : (none : Bool) (stated n : ℕ) (exts payload padding : List ℕ) → (stated == 0) ≡ none
    → IsSized stated exts payload padding →
    nat_lt (length (exts ++ take n (payload ++ padding)))
    (len_by stated (length (exts ++ take n (payload ++ padding))))
    ≡ (not (stated == 0) && nat_lt n (length payload))
v6_short true stated n exts payload padding zero_is size = grind (arith, nat_tests)
v6_short false stated n exts payload padding given size =
    let same : len_by stated (length (exts ++ take n (payload ++ padding))) ≡ length exts + length payload =
    grind arith in
    rw (same, given) (grind (arith, nat_tests, length-append, length-take))

v6_source : (none : Bool) (stated n : ℕ) (exts payload padding : List ℕ) → (stated == 0) ≡ none
    → IsSized stated exts payload padding →
    source_by stated (length (exts ++ take n (payload ++ padding)))
    ≡ (if nat_lt 0 (length exts + n) then source_by stated (length exts + (length payload + length padding))
    else Ipv6HeaderPayloadLen)
v6_source true stated n exts payload padding zero_is size =
    let all = no_padding stated exts payload padding zero_is size in
    grind (arith, nat_tests, length-append, length-take)
v6_source false stated n exts payload padding given size = grind (arith, nat_tests)

-- the parts of an IPv6 packet's first bytes
record IsV6Cut (bytes header : List ℕ) (pieces : List Piece) (last : ℕ) (n : ℕ) (packet : Ipv6Packet) : Type 0 where
  header_is : v6.header_at bytes ≡ Ok header
  row : RowIn bytes header pieces last (take (n - ipv6_headers_len packet) packet.payload.payload)
  fault : fault_after bytes header pieces ≡ None
  short : is_ipv6_cut bytes header ≡ is_ipv6_short n packet
  source : body_source header (length bytes - 40) ≡ cut_ipv6_source n packet

v6_cut : IsFound → HasLeast → (n : ℕ) (bytes : List ℕ) (packet : Ipv6Packet)
    (is : IsIpv6Packet bytes packet) → ipv6_headers_len packet ≤ n
    → IsV6Cut (take n bytes) packet.header is.pieces is.last n packet
v6_cut found least n bytes packet is enough =
    let header = packet.header in
    let exts = bytes_of is.pieces in
    let payload = packet.payload.payload in
    let stated : ℕ = payload_length_of header in
    let left : ℕ = n - ipv6_headers_len packet in
    let there : List ℕ = take left (payload ++ is.padding) in
    let slice : packet.exts.slice ≡ exts = ap (λ (e : Ipv6Exts). e.slice) is.exts in
    let headers : ipv6_headers_len packet ≡ 40 + length exts = grind (arith, is.header.whole) in
    let parts : bytes ≡ (header ++ exts) ++ (payload ++ is.padding) = simp (is.cut, append_assoc) in
    let sizes : length (header ++ exts) ≡ 40 + length exts = grind (arith, length-append, is.header.whole) in
    let cut : take n bytes ≡ header ++ (exts ++ there) = grind (arith, take_after, append_assoc) in
    let following : drop 40 (take n bytes) ≡ exts ++ there =
    rw cut (drop_at header (exts ++ there) 40 is.header.whole) in
    let here : length (take n bytes) - 40 ≡ length (exts ++ there) =
    grind (arith, length-append, is.header.whole) in
    let all : length bytes - 40 ≡ length exts + (length payload + length is.padding) =
    grind (arith, length-append, is.header.whole) in
    let size : IsSized stated exts payload is.padding = rw all at is.size in
    let body : strict6.body_of (take n bytes) header ≡ exts ++ take left payload =
    rw (here, following) (v6_body (stated == 0) stated left exts payload is.padding refl size) in
    let closed : piece_at_start (view_order (slots is.pieces) is.last) (take left payload) ≡ None =
    grind arith in
    let row = row_in found least (take n bytes) header is.pieces is.last (take left payload) is.row body closed in
    record {
      header_is = rw cut (prefix_again header (exts ++ there) is.header);
      row = row;
      fault = fault_is (take n bytes) header is.pieces is.last (take left payload) row
          ∙ no_fault_of is.pieces is.last (take left payload) is.ended;
      short = rw here (v6_short (stated == 0) stated left exts payload is.padding refl size);
      source = grind (arith, nat_tests, v6_source);
    }

pub cut_v6 : IsFound → HasLeast → (n : ℕ) (bytes : List ℕ) (packet : Ipv6Packet)
    → ipv6_packet_at bytes ≡ Ok packet → ipv6_headers_len packet ≤ n
    → lax_ipv6_packet_at (take n bytes) ≡ Ok (cut_ipv6 n packet, None)
cut_v6 found least n bytes packet at enough =
    let is = found6.packet_found bytes packet at in
    let cut = v6_cut found least n bytes packet is enough in
    grind arith

-- the version stands in the first byte
same_version : (n : ℕ) (bytes : List ℕ) → 0 < n → version_of (take n bytes) ≡ version_of bytes
same_version n bytes some = grind (arith, get_or-take)

ipv4_case : IsFound → (n : ℕ) (bytes : List ℕ) (r : Result Ipv4Packet Ipv4Fault) (packet : IpSlice)
    → version_of bytes ≡ 4 → ipv4_packet_at bytes ≡ r → with_ipv4 r ≡ Ok packet
    → ip_headers_len packet ≤ n → lax_ip_packet_at (take n bytes) ≡ Ok (cut_ip n packet, None)
ipv4_case found n bytes (Err e) packet version at is enough = cc
ipv4_case found n bytes (Ok p) packet version at is enough =
    let same : ip.Ipv4 p ≡ packet = grind arith in
    let fits : ipv4_headers_len p ≤ n = rw (← same) at enough in
    let begins = v4_is bytes p at in
    let some : 0 < n = grind arith in
    let four = four_is (take n bytes) (same_version n bytes some ∙ version) in
    rw (four.1, cut_v4 found n bytes p at fits, ← same) refl

ipv6_case : IsFound → HasLeast → (n : ℕ) (bytes : List ℕ) (r : Result Ipv6Packet Ipv6Fault)
    (packet : IpSlice) → version_of bytes ≡ 6 → ipv6_packet_at bytes ≡ r → with_ipv6 r ≡ Ok packet
    → ip_headers_len packet ≤ n → lax_ip_packet_at (take n bytes) ≡ Ok (cut_ip n packet, None)
ipv6_case found least n bytes (Err e) packet version at is enough = cc
ipv6_case found least n bytes (Ok p) packet version at is enough =
    let same : ip.Ipv6 p ≡ packet = grind arith in
    let fits : ipv6_headers_len p ≤ n = rw (← same) at enough in
    let begins = found6.packet_found bytes p at in
    let some : 0 < n = omega (arith, fits, begins.header.whole) in
    let six = six_is (take n bytes) (same_version n bytes some ∙ version) in
    rw (six.1, cut_v6 found least n bytes p at fits, ← same) refl

by_version : IsFound → HasLeast → (none four six : Bool) (n : ℕ) (bytes : List ℕ) (packet : IpSlice)
    (e f : IpFault) → (version_of bytes == 4) ≡ four → (version_of bytes == 6) ≡ six →
    (if none then Err e
    else (if four then with_ipv4 (ipv4_packet_at bytes)
    else (if six then with_ipv6 (ipv6_packet_at bytes) else Err f))) ≡ Ok packet
    → ip_headers_len packet ≤ n → lax_ip_packet_at (take n bytes) ≡ Ok (cut_ip n packet, None)
by_version found least true four six n bytes packet e f is_four is_six is enough = cc
by_version found least false true six n bytes packet e f is_four is_six is enough =
    ipv4_case found n bytes (ipv4_packet_at bytes) packet (grind (arith, nat_tests)) refl is enough
by_version found least false false true n bytes packet e f is_four is_six is enough =
    ipv6_case found least n bytes (ipv6_packet_at bytes) packet (grind (arith, nat_tests)) refl is enough
by_version found least false false false n bytes packet e f is_four is_six is enough = cc

pub cut_either : IsFound → HasLeast → (n : ℕ) (bytes : List ℕ) (packet : IpSlice)
    → ip_packet_at bytes ≡ Ok packet → ip_headers_len packet ≤ n
    → lax_ip_packet_at (take n bytes) ≡ Ok (cut_ip n packet, None)
cut_either found least n bytes packet is enough =
    by_version found least (length bytes == 0) (version_of bytes == 4) (version_of bytes == 6) n bytes
    packet _ _ refl refl is enough
