-- The header at the start of bytes.
use Rattle.std.proofs.Common.{◌≡◌, ℕ, ◌+◌, ◌*◌, ◌/◌, ◌<◌, ◌≤◌, List, ◌++◌, length, take, drop, Result, Ok, arith, sym}
use Rattle.std.proofs.lemmas.Bool.{not-false, ltb-false, eqb-true}
use Rattle.std.proofs.lemmas.List.{get_or-take, length-take-le, take-append-drop, take_at, get_or_append_left}
use Rattle.std.proofs.lemmas.List.{length-append}
use Rattle.ep_base.specs.Bytes.{num}
use Rattle.ep_base.specs.declared.err.slice_error.SliceError.{SliceError}
use Rattle.ep_ip.specs.declared.err.ipv4.header_error.HeaderError.{HeaderError}
use Rattle.ep_ip.specs.Ipv4.{IsIpv4Header, version_of, ihl_of, options_of}
use Rattle.ep_ip.specs.Ipv4Fault.{header_at}
use Rattle.ep_base.specs.Prefixes.{TakesPrefix}
use Rattle.ep_base.proofs.Prefixes.{guard_ok, ok_same, takes}

pub header_at-ok : (bytes : List ℕ) → 20 ≤ length bytes → version_of bytes ≡ 4 → 5 ≤ ihl_of bytes
    → 4 * ihl_of bytes ≤ length bytes → header_at bytes ≡ Ok (take (4 * ihl_of bytes) bytes)
header_at-ok bytes least version minimum whole = grind arith

none_empty : (n : ℕ) → 5 ≤ n → 0 < 4 * n
none_empty n h = omega arith

-- what is taken is a header, and a prefix of the bytes
prefix_takes : (bytes prefix : List ℕ) → header_at bytes ≡ Ok prefix
    → IsIpv4Header prefix × ((rest : List ℕ) × (bytes ≡ prefix ++ rest))
prefix_takes bytes prefix e =
    let least = guard_ok _ _ _ _ e in
    let version = guard_ok _ _ _ _ least.1 in
    let minimum = guard_ok _ _ _ _ version.1 in
    let whole = guard_ok _ _ _ _ minimum.1 in
    let is_four : version_of bytes ≡ 4 = eqb-true (version_of bytes) 4 (not-false _ version.0) in
    let at_least : 5 ≤ ihl_of bytes = ltb-false (ihl_of bytes) 5 minimum.0 in
    let fits : 4 * ihl_of bytes ≤ length bytes =
    ltb-false (length bytes) (4 * ihl_of bytes) whole.0 in
    let same : take (4 * ihl_of bytes) bytes ≡ prefix = ok_same _ _ whole.1 in
    let first : num (take (4 * ihl_of bytes) bytes) 0 1 ≡ num bytes 0 1 =
    get_or-take (4 * ihl_of bytes) bytes 0 0 (none_empty (ihl_of bytes) at_least) in
    rw (← same) (
      record {
        version = rw first is_four;
        minimum = rw first at_least;
        whole = rw first (length-take-le (4 * ihl_of bytes) bytes fits);
      },
      (drop (4 * ihl_of bytes) bytes, sym (take-append-drop (4 * ihl_of bytes) bytes)),
    )

-- a header is taken, whatever follows it
prefix_again : (prefix rest : List ℕ) → IsIpv4Header prefix → header_at (prefix ++ rest) ≡ Ok prefix
prefix_again prefix rest header =
    grind (arith, get_or_append_left, length-append, header_at-ok, take_at)

pub takes_header : (bytes : List ℕ) (taken : Result (List ℕ) (SliceError HeaderError))
    → taken ≡ header_at bytes → TakesPrefix IsIpv4Header bytes taken
takes_header = takes IsIpv4Header header_at prefix_takes prefix_again

-- the length field counts the options' words after five
pub options_words : (bytes options : List ℕ) → IsIpv4Header bytes → options ≡ options_of bytes
    → 5 + length options / 4 ≡ ihl_of bytes
options_words bytes options header e = grind arith

pub options_len : (bytes options : List ℕ) → IsIpv4Header bytes → options ≡ options_of bytes
    → 20 + length options ≡ length bytes
options_len bytes options header e = grind arith
