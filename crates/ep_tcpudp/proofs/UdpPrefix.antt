-- The UDP header, and the datagram, at the start of bytes.
use Rattle.std.proofs.Common.{◌≡◌, ℕ, ◌≤◌, List, ◌++◌, length, take, drop, Result, Ok, Err, IfOk, arith, sym}
use Rattle.std.proofs.Common.{refl, ap, ◌∙◌}
use Rattle.std.proofs.lemmas.Bool.{le-ltb, ltb-false}
use Rattle.std.proofs.lemmas.Bool.Decides.{nat_tests}
use Rattle.std.proofs.lemmas.List.{length-take-le, take-append-drop, take_at, length-append}
use Rattle.ep_base.specs.declared.err.len_error.LenError.{LenError}
use Rattle.ep_base.specs.Prefixes.{TakesPrefix}
use Rattle.ep_base.proofs.Prefixes.{guard_ok, ok_same, takes}
use Rattle.ep_tcpudp.specs.Udp.{IsUdpHeader, ReadableUdp, summed_udp}
use Rattle.ep_tcpudp.specs.UdpFault.{header_at, udp_at}

header_at-ok : (bytes : List ℕ) → 8 ≤ length bytes → header_at bytes ≡ Ok (take 8 bytes)
header_at-ok bytes least = rw (le-ltb (length bytes) 8 least) refl

prefix_takes : (bytes prefix : List ℕ) → header_at bytes ≡ Ok prefix
    → IsUdpHeader prefix × ((rest : List ℕ) × (bytes ≡ prefix ++ rest))
prefix_takes bytes prefix e =
    let least = guard_ok _ _ _ _ e in
    let fits : 8 ≤ length bytes = ltb-false (length bytes) 8 least.0 in
    let same : take 8 bytes ≡ prefix = ok_same _ _ least.1 in
    rw (← same) (
      record { whole = length-take-le 8 bytes fits },
      (drop 8 bytes, sym (take-append-drop 8 bytes)),
    )

-- a header is taken, whatever follows it
prefix_again : (prefix rest : List ℕ) → IsUdpHeader prefix → header_at (prefix ++ rest) ≡ Ok prefix
prefix_again prefix rest header =
    let len = length-append prefix rest in
    header_at-ok (prefix ++ rest) (omega (arith, header.whole))
    ∙ ap Ok (take_at prefix rest 8 header.whole)

pub takes_header : (bytes : List ℕ) (taken : Result (List ℕ) LenError)
    → taken ≡ header_at bytes → TakesPrefix IsUdpHeader bytes taken
takes_header = takes IsUdpHeader header_at prefix_takes prefix_again

-- what is taken is readable, and is the datagram
taken : (bytes datagram : List ℕ) → udp_at bytes ≡ Ok datagram
    → ReadableUdp bytes × (datagram ≡ summed_udp bytes)
taken bytes datagram e = grind arith

datagram_by : (bytes : List ℕ) (r : Result (List ℕ) LenError) → udp_at bytes ≡ r
    → IfOk r (λ datagram. ReadableUdp bytes × (datagram ≡ summed_udp bytes))
datagram_by bytes (Ok datagram) is = taken bytes datagram is
datagram_by bytes (Err e) is = tt

pub datagram_found : (bytes : List ℕ)
    → IfOk (udp_at bytes) (λ datagram. ReadableUdp bytes × (datagram ≡ summed_udp bytes))
datagram_found bytes = datagram_by bytes (udp_at bytes) refl

pub datagram-ok : (bytes : List ℕ) → ReadableUdp bytes → udp_at bytes ≡ Ok (summed_udp bytes)
datagram-ok bytes readable = grind (arith, nat_tests)
