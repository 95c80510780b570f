-- The IPv6 header at the start of bytes.
use Rattle.std.proofs.Common.{◌≡◌, ℕ, ◌≤◌, List, ◌++◌, length, take, drop, Result, Ok, arith, sym, ap, ◌∙◌}
use Rattle.std.proofs.lemmas.Bool.{not-false, ltb-false, eqb-true}
use Rattle.std.proofs.lemmas.List.{get_or-take, length-take-le, take-append-drop, take_at, get_or_append_left}
use Rattle.std.proofs.lemmas.List.{length-append}
use Rattle.ep_base.specs.Bytes.{num}
use Rattle.ep_base.specs.declared.err.slice_error.SliceError.{SliceError}
use Rattle.ep_ip.specs.declared.err.ipv6.header_error.HeaderError.{HeaderError}
use Rattle.ep_ip.specs.Ipv6.{IsIpv6Header}
use Rattle.ep_ip.specs.Ipv6Fault.{header_at}
use Rattle.ep_ip.specs.Ipv4.{version_of}
use Rattle.ep_base.specs.Prefixes.{TakesPrefix}
use Rattle.ep_base.proofs.Prefixes.{guard_ok, ok_same, takes}

pub header_at-ok : (bytes : List ℕ) → 40 ≤ length bytes → version_of bytes ≡ 6
    → header_at bytes ≡ Ok (take 40 bytes)
header_at-ok bytes least version = grind arith

-- 40 bytes of version 6 are a header
pub prefix_is : (bytes : List ℕ) → 40 ≤ length bytes → version_of bytes ≡ 6
    → IsIpv6Header (take 40 bytes)
prefix_is bytes least version =
    let first : num (take 40 bytes) 0 1 ≡ num bytes 0 1 = get_or-take 40 bytes 0 0 (omega arith) in
    record { version = rw first version; whole = length-take-le 40 bytes least }

-- what is taken is a header, and a prefix of the bytes
prefix_takes : (bytes prefix : List ℕ) → header_at bytes ≡ Ok prefix
    → IsIpv6Header prefix × ((rest : List ℕ) × (bytes ≡ prefix ++ rest))
prefix_takes bytes prefix e =
    let least = guard_ok _ _ _ _ e in
    let version = guard_ok _ _ _ _ least.1 in
    let is_six : version_of bytes ≡ 6 = eqb-true (version_of bytes) 6 (not-false _ version.0) in
    let fits : 40 ≤ length bytes = ltb-false (length bytes) 40 least.0 in
    let same : take 40 bytes ≡ prefix = ok_same _ _ version.1 in
    rw (← same) (prefix_is bytes fits is_six, (drop 40 bytes, sym (take-append-drop 40 bytes)))

-- a header is taken, whatever follows it
pub prefix_again : (prefix rest : List ℕ) → IsIpv6Header prefix → header_at (prefix ++ rest) ≡ Ok prefix
prefix_again prefix rest header =
    let first : num (prefix ++ rest) 0 1 ≡ num prefix 0 1 =
    get_or_append_left prefix rest 0 0 (omega (arith, header.whole)) in
    let len = length-append prefix rest in
    header_at-ok (prefix ++ rest) (omega (arith, header.whole)) (rw first header.version)
    ∙ ap Ok (take_at prefix rest 40 header.whole)

pub takes_header : (bytes : List ℕ) (taken : Result (List ℕ) (SliceError HeaderError))
    → taken ≡ header_at bytes → TakesPrefix IsIpv6Header bytes taken
takes_header = takes IsIpv6Header header_at prefix_takes prefix_again
