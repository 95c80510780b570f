-- What is read of a message that was cut off after its header.
use Rattle.std.proofs.Common.{◌≡◌, ◌∙◌, sym, ap, subst, ℕ, zero, suc, [], ◌∷◌, ◌*◌, ◌≤◌, ◌<◌, ◌==◌, ◌&&◌, ◌||◌, not, Bool, true, false, List, length}
use Rattle.std.proofs.Common.{get_or, take, Result, Ok, Err, refl, arith}
use Rattle.std.proofs.lemmas.Bool.Decides.{nat_tests}
use Rattle.std.proofs.lemmas.List.{get_or-take, length-take, take_all}
use Rattle.std.specs.Prelude.{if◌then◌else◌, nat_lt}
use Rattle.std.specs.Result.{result_map_both}
use Rattle.ep_base.specs.LenError.{too_few_bytes}
use Rattle.ep_base.specs.declared.err.layer.Layer.TheVariants.{Icmpv4, Icmpv4Timestamp, Icmpv4TimestampReply}
use Rattle.ep_base.specs.declared.err.layer.Layer.TheVariants.{TcpHeader, UdpHeader, UdpPayload}
use Rattle.ep_base.specs.declared.err.len_error.LenError.{LenError}
use Rattle.ep_base.specs.declared.len_source.LenSource.TheVariants.{UdpHeaderLen}
use Rattle.ep_base.specs.declared.err.slice_error.SliceError.TheVariants.{Len, Content}
use Rattle.ep_base.specs.declared.err.slice_error.SliceError.{SliceError as HeaderSliceError}
use Rattle.ep_icmp.specs.Icmpv4.{is_timestamp, is_timestamp_reply, is_timestamp_request}
use Rattle.ep_icmp.specs.Icmpv4Fault as icmpv4_fault
use Rattle.ep_icmp.specs.Icmpv6Fault as icmpv6_fault
use Rattle.ep_packet.specs.LaxCut.{cut_message, message_header_len}
use Rattle.ep_packet.specs.LaxSliced.{lax_message_at}
use Rattle.ep_packet.specs.Readable as number
use Rattle.ep_packet.specs.Readable.{ReadMessage, message_at, tcp_fault}
use Rattle.ep_packet.specs.declared.err.packet.slice_error.SliceError.{SliceError}
use Rattle.ep_packet.specs.declared.err.packet.slice_error.SliceError.TheVariants as fault
use Rattle.ep_tcpudp.specs.Tcp.{data_offset_of}
use Rattle.ep_tcpudp.specs.TcpFault.{segment_at}
use Rattle.ep_tcpudp.specs.Udp.{lax_summed_udp, length_of, summed_udp}
use Rattle.ep_tcpudp.specs.UdpFault.{lax_udp_at, udp_at}
use Rattle.ep_tcpudp.specs.declared.err.tcp.header_error.HeaderError.TheVariants.{DataOffsetTooSmall}
use Rattle.ep_tcpudp.specs.declared.err.tcp.header_error.HeaderError.{HeaderError as TcpFault}

-- a byte of the first n
byte_at : (n : ℕ) (bytes : List ℕ) (i : ℕ) → i < n → get_or (take n bytes) i 0 ≡ get_or bytes i 0
byte_at n bytes i lt = get_or-take n bytes i 0 lt

-- refusals that don't apply
passed : {E : Type 0} (a b c : Bool) (e f g : E) (v m : List ℕ)
    → (if a then Err e else (if b then Err f else (if c then Err g else Ok v))) ≡ Ok m
    → (a ≡ false) × (b ≡ false) × (c ≡ false) × (m ≡ v)
passed true b c e f g v m is = cc
passed false true c e f g v m is = cc
passed false false true e f g v m is = cc
passed false false false e f g v m is = (refl, refl, refl, grind arith)

pub passes : {E : Type 0} (a b c : Bool) (e f g : E) (bytes : List ℕ) → a ≡ false → b ≡ false → c ≡ false →
    ◌≡◌ {A = Result (List ℕ) E}
    (if a then Err e else (if b then Err f else (if c then Err g else Ok bytes))) (Ok bytes)
passes a b c e f g bytes x y z = rw (x, y, z) refl

pub tcp_taken : (bytes m : List ℕ) → segment_at bytes ≡ Ok m → (nat_lt (length bytes) 20 ≡ false)
    × (nat_lt (data_offset_of bytes) 5 ≡ false)
    × (nat_lt (length bytes) (4 * data_offset_of bytes) ≡ false) × (m ≡ bytes)
tcp_taken bytes m is = passed (nat_lt (length bytes) 20) (nat_lt (data_offset_of bytes) 5)
    (nat_lt (length bytes) (4 * data_offset_of bytes)) (Len (too_few_bytes TcpHeader 20 (length bytes)))
    (Content (DataOffsetTooSmall (data_offset_of bytes)))
    (Len (too_few_bytes TcpHeader (4 * data_offset_of bytes) (length bytes))) bytes m is

-- TCP: the data offset stands in the first 20 bytes
tcp_cut : (n : ℕ) (bytes m : List ℕ) → segment_at bytes ≡ Ok m → 4 * data_offset_of m ≤ n
    → segment_at (take n bytes) ≡ Ok (take n m)
tcp_cut n bytes m is fits =
    let tests = tcp_taken bytes m is in
    let least : 5 ≤ data_offset_of bytes = grind (arith, nat_tests) in
    let header : 4 * data_offset_of bytes ≤ n = rw tests.3 at fits in
    let size = length-take n bytes in
    let offset : data_offset_of (take n bytes) ≡ data_offset_of bytes =
    grind (arith, byte_at n bytes 12 (omega (arith, least, header))) in
    passes (nat_lt (length (take n bytes)) 20) (nat_lt (data_offset_of (take n bytes)) 5)
    (nat_lt (length (take n bytes)) (4 * data_offset_of (take n bytes)))
    (Len (too_few_bytes TcpHeader 20 (length (take n bytes))))
    (Content (DataOffsetTooSmall (data_offset_of (take n bytes))))
    (Len (too_few_bytes TcpHeader (4 * data_offset_of (take n bytes)) (length (take n bytes))))
    (take n bytes)
    (grind (arith, nat_tests)) (grind (arith, nat_tests)) (grind (arith, nat_tests))
    ∙ ap (λ (xs : List ℕ). Ok (take n xs)) (sym tests.3)

pub icmpv4_taken : (bytes m : List ℕ) → icmpv4_fault.message_at bytes ≡ Ok m
    → (nat_lt (length bytes) 8 ≡ false)
    × ((is_timestamp_request bytes && not (length bytes == 20)) ≡ false)
    × ((is_timestamp_reply bytes && not (length bytes == 20)) ≡ false) × (m ≡ bytes)
icmpv4_taken bytes m is = passed (nat_lt (length bytes) 8)
    (is_timestamp_request bytes && not (length bytes == 20))
    (is_timestamp_reply bytes && not (length bytes == 20)) (too_few_bytes Icmpv4 8 (length bytes))
    (too_few_bytes Icmpv4Timestamp 20 (length bytes))
    (too_few_bytes Icmpv4TimestampReply 20 (length bytes)) bytes m is

-- ICMP over IPv4: a timestamp message is its header
alike : (n : ℕ) (bytes : List ℕ) → 8 ≤ n
    → (is_timestamp_request (take n bytes) ≡ is_timestamp_request bytes)
    × (is_timestamp_reply (take n bytes) ≡ is_timestamp_reply bytes)
alike n bytes least =
    let kind = byte_at n bytes 0 (omega (arith, least)) in
    let code = byte_at n bytes 1 (omega (arith, least)) in
    (grind (arith, kind, code), grind (arith, kind, code))

whole_timestamp : (q r long : Bool) → (q || r) ≡ true → (q && not long) ≡ false
    → (r && not long) ≡ false → long ≡ true
whole_timestamp q r long either one two = grind arith

icmpv4_case : (timestamp : Bool) (n : ℕ) (bytes m : List ℕ) → is_timestamp bytes ≡ timestamp
    → icmpv4_fault.message_at bytes ≡ Ok m → (if timestamp then 20 else 8) ≤ n
    → icmpv4_fault.message_at (take n bytes) ≡ Ok (take n m)
icmpv4_case true n bytes m kind is fits =
    let tests = icmpv4_taken bytes m is in
    let long = whole_timestamp (is_timestamp_request bytes) (is_timestamp_reply bytes)
    (length bytes == 20) kind tests.1 tests.2 in
    let size : length bytes ≡ 20 = grind (arith, nat_tests) in
    let whole : take n bytes ≡ bytes = take_all n bytes (omega (arith, size, fits)) in
    rw (tests.3, whole) (is ∙ ap Ok tests.3)
icmpv4_case false n bytes m kind is fits =
    let tests = icmpv4_taken bytes m is in
    let size = length-take n bytes in
    let same = alike n bytes fits in
    let request : is_timestamp_request bytes ≡ false = grind arith in
    let reply : is_timestamp_reply bytes ≡ false = grind arith in
    passes (nat_lt (length (take n bytes)) 8)
    (is_timestamp_request (take n bytes) && not (length (take n bytes) == 20))
    (is_timestamp_reply (take n bytes) && not (length (take n bytes) == 20))
    (too_few_bytes Icmpv4 8 (length (take n bytes)))
    (too_few_bytes Icmpv4Timestamp 20 (length (take n bytes)))
    (too_few_bytes Icmpv4TimestampReply 20 (length (take n bytes))) (take n bytes)
    (grind (arith, nat_tests)) (rw (same.0, request) refl) (rw (same.1, reply) refl)
    ∙ ap (λ (xs : List ℕ). Ok (take n xs)) (sym tests.3)

icmpv4_cut : (n : ℕ) (bytes m : List ℕ) → icmpv4_fault.message_at bytes ≡ Ok m
    → (if is_timestamp m then 20 else 8) ≤ n
    → icmpv4_fault.message_at (take n bytes) ≡ Ok (take n m)
icmpv4_cut n bytes m is fits =
    let tests = icmpv4_taken bytes m is in
    icmpv4_case (is_timestamp bytes) n bytes m refl is (rw tests.3 at fits)

-- ICMP over IPv6
icmpv6_cut : (n : ℕ) (bytes m : List ℕ) → icmpv6_fault.message_at bytes ≡ Ok m → 8 ≤ n
    → icmpv6_fault.message_at (take n bytes) ≡ Ok (take n m)
icmpv6_cut n bytes m is fits =
    let size = length-take n bytes in grind (arith, nat_tests)

-- UDP: a length field that counts a header counts no more than the bytes
length_same : (n : ℕ) (bytes : List ℕ) → 8 ≤ n → length_of (take n bytes) ≡ length_of bytes
length_same n bytes least = grind (
  arith,
  byte_at n bytes 4 (omega (arith, least)),
  byte_at n bytes 5 (omega (arith, least)),
)

both_taken : (n m : ℕ) (bytes : List ℕ) → take m (take n bytes) ≡ take n (take m bytes)
both_taken zero zero bytes = refl
both_taken zero (suc m) bytes = refl
both_taken (suc n) zero bytes = refl
both_taken (suc n) (suc m) [] = refl
both_taken (suc n) (suc m) (b ∷ bytes) = ap (λ (xs : List ℕ). b ∷ xs) (both_taken n m bytes)

udp_taken : (bytes m : List ℕ) → udp_at bytes ≡ Ok m → (nat_lt (length bytes) 8 ≡ false)
    × (nat_lt (length bytes) (length_of bytes) ≡ false)
    × ((not (length_of bytes == 0) && nat_lt (length_of bytes) 8) ≡ false) × (m ≡ summed_udp bytes)
udp_taken bytes m is = passed (nat_lt (length bytes) 8) (nat_lt (length bytes) (length_of bytes))
    (not (length_of bytes == 0) && nat_lt (length_of bytes) 8)
    (too_few_bytes UdpHeader 8 (length bytes))
    (too_few_bytes UdpPayload (length_of bytes) (length bytes))
    (record (too_few_bytes UdpHeader 8 (length_of bytes)) { len_source = UdpHeaderLen })
    (summed_udp bytes) m is

udp_case : (none small : Bool) (stated n : ℕ) (bytes : List ℕ) → (stated == 0) ≡ none
    → nat_lt stated 8 ≡ small → (not none && small) ≡ false →
    (if small then take n bytes else take stated (take n bytes))
    ≡ take n (if none then bytes else take stated bytes)
udp_case true true stated n bytes none least fits = refl
udp_case true false stated n bytes none least fits = grind (arith, nat_tests)
udp_case false true stated n bytes none least fits = cc
udp_case false false stated n bytes none least fits = both_taken n stated bytes

udp_cut : (n : ℕ) (bytes m : List ℕ) → udp_at bytes ≡ Ok m → 8 ≤ n
    → lax_udp_at (take n bytes) ≡ Ok (take n m)
udp_cut n bytes m is least =
    let tests = udp_taken bytes m is in
    let size = length-take n bytes in
    let whole : nat_lt (length (take n bytes)) 8 ≡ false = grind (arith, nat_tests) in
    let stated : ℕ = length_of bytes in
    ap (λ (b : Bool). if b then Err (too_few_bytes UdpHeader 8 (length (take n bytes))) else Ok (lax_summed_udp (take n bytes))) whole
    ∙ ap Ok (ap (λ (l : ℕ). if nat_lt l 8 then take n bytes else take l (take n bytes))
    (length_same n bytes least)
    ∙ udp_case (stated == 0) (nat_lt stated 8) stated n bytes refl refl tests.2
    ∙ ap (take n) (sym tests.3))

-- messages of each protocol
abbrev Fits : ℕ → ReadMessage → Type 0
Fits n m = message_header_len m ≤ n

icmpv4_read : (n : ℕ) (bytes : List ℕ) (r : Result (List ℕ) LenError) (m : ReadMessage)
    → icmpv4_fault.message_at bytes ≡ r
    → result_map_both (λ x. number.Icmpv4 x) (λ e. fault.Len e) r ≡ Ok m → Fits n m
    → result_map_both (λ x. number.Icmpv4 x) (λ e. fault.Len e) (icmpv4_fault.message_at (take n bytes))
    ≡ Ok (cut_message n m)
icmpv4_read n bytes (Err e) m at is fits = cc
icmpv4_read n bytes (Ok x) m at is fits =
    let same : number.Icmpv4 x ≡ m = grind arith in
    rw (icmpv4_cut n bytes x at (rw (← same) at fits)) (ap (λ (k : ReadMessage). Ok (cut_message n k)) same)

icmpv6_read : (n : ℕ) (bytes : List ℕ) (r : Result (List ℕ) LenError) (m : ReadMessage)
    → icmpv6_fault.message_at bytes ≡ r
    → result_map_both (λ x. number.Icmpv6 x) (λ e. fault.Len e) r ≡ Ok m → Fits n m
    → result_map_both (λ x. number.Icmpv6 x) (λ e. fault.Len e) (icmpv6_fault.message_at (take n bytes))
    ≡ Ok (cut_message n m)
icmpv6_read n bytes (Err e) m at is fits = cc
icmpv6_read n bytes (Ok x) m at is fits =
    let same : number.Icmpv6 x ≡ m = grind arith in
    rw (icmpv6_cut n bytes x at (rw (← same) at fits)) (ap (λ (k : ReadMessage). Ok (cut_message n k)) same)

tcp_read : (n : ℕ) (bytes : List ℕ) (r : Result (List ℕ) (HeaderSliceError TcpFault))
    (m : ReadMessage) → segment_at bytes ≡ r → result_map_both (λ x. number.Tcp x) tcp_fault r ≡ Ok m
    → Fits n m
    → result_map_both (λ x. number.Tcp x) tcp_fault (segment_at (take n bytes)) ≡ Ok (cut_message n m)
tcp_read n bytes (Err e) m at is fits = cc
tcp_read n bytes (Ok x) m at is fits =
    let same : number.Tcp x ≡ m = grind arith in
    rw (tcp_cut n bytes x at (rw (← same) at fits)) (ap (λ (k : ReadMessage). Ok (cut_message n k)) same)

udp_read : (n : ℕ) (bytes : List ℕ) (r : Result (List ℕ) LenError) (m : ReadMessage)
    → udp_at bytes ≡ r → result_map_both (λ x. number.Udp x) (λ e. fault.Len e) r ≡ Ok m → Fits n m
    → result_map_both (λ x. number.Udp x) (λ e. fault.Len e) (lax_udp_at (take n bytes)) ≡ Ok (cut_message n m)
udp_read n bytes (Err e) m at is fits = cc
udp_read n bytes (Ok x) m at is fits =
    let same : number.Udp x ≡ m = grind arith in
    rw (udp_cut n bytes x at (rw (← same) at fits)) (ap (λ (k : ReadMessage). Ok (cut_message n k)) same)

other_cases : (a b d : Bool) (n : ℕ) (bytes : List ℕ) (m : ReadMessage) →
    (if a then result_map_both (λ x. number.Icmpv4 x) (λ e. fault.Len e) (icmpv4_fault.message_at bytes)
    else (if b then result_map_both (λ x. number.Tcp x) tcp_fault (segment_at bytes)
    else (if d then result_map_both (λ x. number.Icmpv6 x) (λ e. fault.Len e)
    (icmpv6_fault.message_at bytes) else Ok (number.Raw bytes)))) ≡ Ok m → Fits n m →
    (if a then result_map_both (λ x. number.Icmpv4 x) (λ e. fault.Len e) (icmpv4_fault.message_at (take n bytes))
    else (if b then result_map_both (λ x. number.Tcp x) tcp_fault (segment_at (take n bytes))
    else (if d then result_map_both (λ x. number.Icmpv6 x) (λ e. fault.Len e)
    (icmpv6_fault.message_at (take n bytes)) else Ok (number.Raw (take n bytes))))) ≡ Ok (cut_message n m)
other_cases true b d n bytes m is fits =
    icmpv4_read n bytes (icmpv4_fault.message_at bytes) m refl is fits
other_cases false true d n bytes m is fits = tcp_read n bytes (segment_at bytes) m refl is fits
other_cases false false true n bytes m is fits =
    icmpv6_read n bytes (icmpv6_fault.message_at bytes) m refl is fits
other_cases false false false n bytes m is fits = grind arith

-- without UDP
abbrev pub rest_at : Bool → ℕ → List ℕ → Result ReadMessage SliceError
rest_at c k bytes =
    if k == number.icmpv4 then result_map_both (λ x. number.Icmpv4 x) (λ e. fault.Len e) (icmpv4_fault.message_at bytes)
    else (if k == number.tcp then result_map_both (λ x. number.Tcp x) tcp_fault (segment_at bytes)
    else (if c then result_map_both (λ x. number.Udp x) (λ e. fault.Len e) (udp_at bytes)
    else (if k == number.icmpv6 then result_map_both (λ x. number.Icmpv6 x) (λ e. fault.Len e)
    (icmpv6_fault.message_at bytes) else Ok (number.Raw bytes))))

message_case : (c : Bool) (k n : ℕ) (bytes : List ℕ) (m : ReadMessage) → (k == number.udp) ≡ c
    → message_at k bytes ≡ Ok m → Fits n m
    → lax_message_at k (take n bytes) ≡ Ok (cut_message n m)
message_case true k n bytes m here is fits =
    let named : k ≡ 17 = grind (arith, nat_tests) in
    subst (λ (j : ℕ). message_at j bytes ≡ Ok m → lax_message_at j (take n bytes) ≡ Ok (cut_message n m))
    (sym named) (λ at. udp_read n bytes (udp_at bytes) m refl at fits) is
message_case false k n bytes m not is fits =
    ap (λ (c : Bool). if c then result_map_both (λ x. number.Udp x) (λ e. fault.Len e) (lax_udp_at (take n bytes))
    else message_at k (take n bytes)) not
    ∙ ap (λ (c : Bool). rest_at c k (take n bytes)) not
    ∙ other_cases (k == number.icmpv4) (k == number.tcp) (k == number.icmpv6) n bytes m
    (sym (ap (λ (c : Bool). rest_at c k bytes) not) ∙ is) fits

pub message_cut : (k n : ℕ) (bytes : List ℕ) (m : ReadMessage) → message_at k bytes ≡ Ok m
    → message_header_len m ≤ n
    → lax_message_at k (take n bytes) ≡ Ok (cut_message n m)
message_cut k n bytes m is fits = message_case (k == number.udp) k n bytes m refl is fits
