-- The TCP header at the start of bytes.
use Rattle.std.proofs.Common.{◌≡◌, ℕ, ◌+◌, ◌*◌, ◌/◌, ◌≤◌, List, ◌++◌, length, take, drop, Result, Ok, Err, IfOk}
use Rattle.std.proofs.Common.{ap, arith, refl, sym, ◌∙◌}
use Rattle.std.proofs.lemmas.Bool.{le-ltb, ltb-false}
use Rattle.std.proofs.lemmas.List.{get_or-take, length-take-le, take-append-drop, take_at, take_rest}
use Rattle.std.proofs.lemmas.List.{get_or_append_left, length-append, length-drop}
use Rattle.ep_base.specs.Bytes.{num}
use Rattle.ep_base.specs.Prefixes.{TakesPrefix}
use Rattle.ep_base.proofs.Prefixes.{guard_ok, ok_same, takes}
use Rattle.ep_tcpudp.specs.Tcp.{IsTcpHeader, ReadableTcp, data_offset_of, header_bytes, options_of}
use Rattle.ep_tcpudp.specs.TcpFault.{header_at, header_of_segment, segment_at}
use Rattle.ep_tcpudp.specs.TcpOptions.{IsTcpOptions}
use Rattle.ep_base.specs.declared.err.slice_error.SliceError.{SliceError}
use Rattle.ep_tcpudp.specs.declared.err.tcp.header_error.HeaderError.{HeaderError}

twenty : (n : ℕ) → 5 ≤ n → 20 ≤ 4 * n
twenty n h = omega arith

pub segment-ok : (bytes : List ℕ) → ReadableTcp bytes → segment_at bytes ≡ Ok bytes
segment-ok bytes readable =
    let least : 20 ≤ length bytes = omega (arith, readable.minimum, readable.header) in
    rw (
      le-ltb (length bytes) 20 least,
      le-ltb (data_offset_of bytes) 5 readable.minimum,
      le-ltb
          (length bytes) (4 * data_offset_of bytes) readable.header,
    ) refl

-- what is taken is taken of readable bytes
taken : (bytes segment : List ℕ) → segment_at bytes ≡ Ok segment
    → ReadableTcp bytes × (bytes ≡ segment)
taken bytes segment e =
    let least = guard_ok _ _ _ _ e in
    let minimum = guard_ok _ _ _ _ least.1 in
    let whole = guard_ok _ _ _ _ minimum.1 in (
      record {
        minimum = ltb-false (data_offset_of bytes) 5 minimum.0;
        header = ltb-false (length bytes) (4 * data_offset_of bytes) whole.0;
      },
      ok_same
          _ _ whole.1,
    )

pub header_is : (bytes : List ℕ) → ReadableTcp bytes
    → IsTcpHeader (take (4 * data_offset_of bytes) bytes)
header_is bytes readable =
    let first : num (take (4 * data_offset_of bytes) bytes) 12 1 ≡ num bytes 12 1 =
    grind (arith, get_or-take, twenty) in
    grind (arith, length-take-le)

-- the segment whose header was taken
segment_of : (r : Result (List ℕ) (SliceError HeaderError)) (prefix : List ℕ)
    → header_of_segment r ≡ Ok prefix
    → (segment : List ℕ) × (r ≡ Ok segment) × (header_bytes segment ≡ prefix)
segment_of (Ok segment) prefix e = (segment, refl, ok_same _ _ e)
segment_of (Err fault) prefix e = cc

prefix_takes : (bytes prefix : List ℕ) → header_at bytes ≡ Ok prefix
    → IsTcpHeader prefix × ((rest : List ℕ) × (bytes ≡ prefix ++ rest))
prefix_takes bytes prefix e =
    let size = 4 * data_offset_of bytes in
    let of = segment_of (segment_at bytes) prefix e in
    let is = taken bytes of.0 of.1 in
    let same : take size bytes ≡ prefix = ap header_bytes is.1 ∙ of.2 in
    rw (← same) (header_is bytes is.0, (drop size bytes, sym (take-append-drop size bytes)))

-- a header is taken, whatever follows it
prefix_again : (prefix rest : List ℕ) → IsTcpHeader prefix → header_at (prefix ++ rest) ≡ Ok prefix
prefix_again prefix rest header =
    let first : num (prefix ++ rest) 12 1 ≡ num prefix 12 1 =
    get_or_append_left prefix rest 0 12 (omega (arith, header.minimum, header.whole)) in
    let len = length-append prefix rest in
    grind (arith, segment-ok, take_at)

pub takes_header : (bytes : List ℕ) (taken : Result (List ℕ) (SliceError HeaderError))
    → taken ≡ header_at bytes → TakesPrefix IsTcpHeader bytes taken
takes_header = takes IsTcpHeader header_at prefix_takes prefix_again

segment_by : (bytes : List ℕ) (r : Result (List ℕ) (SliceError HeaderError)) → segment_at bytes ≡ r
    → IfOk r (λ segment. ReadableTcp bytes × (segment ≡ bytes))
segment_by bytes (Ok segment) is = let found = taken bytes segment is in (found.0, sym found.1)
segment_by bytes (Err e) is = tt

pub segment_found : (bytes : List ℕ)
    → IfOk (segment_at bytes) (λ segment. ReadableTcp bytes × (segment ≡ bytes))
segment_found bytes = segment_by bytes (segment_at bytes) refl

-- the options of a header are all after its fixed fields
pub options_rest : (bytes : List ℕ) → IsTcpHeader bytes → options_of bytes ≡ drop 20 bytes
options_rest bytes header = rw (← header.whole) (take_rest bytes 20)

-- the options fit
pub options_fit : (bytes options : List ℕ) → ReadableTcp bytes → data_offset_of bytes ≤ 15
    → options ≡ options_of bytes → IsTcpOptions options
options_fit bytes options readable small e = grind (arith, length-take-le, length-drop)

pub options_len : (bytes options : List ℕ) → ReadableTcp bytes → options ≡ options_of bytes
    → 20 + length options ≡ 4 * data_offset_of bytes
options_len bytes options readable e = grind (arith, length-take-le, length-drop)

pub options_offset : (bytes options : List ℕ) → ReadableTcp bytes → options ≡ options_of bytes
    → 5 + length options / 4 ≡ data_offset_of bytes
options_offset bytes options readable e = omega (arith, options_len bytes options readable e)

pub readable_header : (bytes : List ℕ) → IsTcpHeader bytes → ReadableTcp bytes
readable_header bytes header =
    record { minimum = header.minimum; header = omega (arith, header.whole) }
