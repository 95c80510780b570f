-- Two VLAN tags at the start of bytes, and their bytes against their fields.
use Rattle.std.proofs.Common.{◌≡◌, ℕ, ◌+◌, ◌≤◌, Bool, true, false, not, refl, List, ◌++◌, length, take, drop, get_or, Result, Ok, arith, sym, ap, ◌∙◌}
use Rattle.std.proofs.lemmas.Bool.{ltb-false}
use Rattle.std.proofs.lemmas.List.{get_or-take, get_or-drop, get_or_append_left, length-take-le, length-append, take-append-drop}
use Rattle.std.proofs.lemmas.List.{drop_at, length-drop, take_at}
use Rattle.ep_base.specs.Bytes.{IsBytes}
use Rattle.ep_base.specs.declared.err.slice_error.SliceError.{SliceError}
use Rattle.ep_base.specs.Prefixes.{TakesPrefix}
use Rattle.ep_base.proofs.Prefixes.{guard_ok, ok_same, prefix_fits, takes}
use Rattle.ep_tag.specs.DoubleVlan.{IsDoubleVlanHeader, double_vlan_at, double_vlan_header_of, double_vlan_len}
use Rattle.ep_tag.specs.DoubleVlan.{inner_of, outer_of}
use Rattle.ep_tag.specs.Vlan.{double_encoding, encoding, is_vlan_type, next_type_of, single_vlan_header_of, vlan_len}
use Rattle.ep_tag.specs.declared.err.double_vlan.header_error.HeaderError.{HeaderError}
use Rattle.ep_tag.specs.declared.link.double_vlan_header.DoubleVlanHeader.{DoubleVlanHeader}
use Rattle.ep_tag.specs.declared.link.single_vlan_header.SingleVlanHeader.{SingleVlanHeader}
use Rattle.ep_tag.proofs.VlanEncoding.{encoding-single_vlan_header_of}

not_not : (b : Bool) → not b ≡ false → b ≡ true
not_not true h = refl
not_not false h = cc

-- the first bytes of a header say what the header says
pub prefix_is : (bytes : List ℕ) → double_vlan_len ≤ length bytes
    → is_vlan_type (next_type_of bytes) ≡ true → IsDoubleVlanHeader (take double_vlan_len bytes)
prefix_is bytes least inner = grind (arith, get_or-take, length-take-le)

header_found : (bytes prefix : List ℕ) → double_vlan_at bytes ≡ Ok prefix
    → IsDoubleVlanHeader prefix × ((rest : List ℕ) × (bytes ≡ prefix ++ rest))
header_found bytes prefix e =
    let least = guard_ok _ _ _ _ e in
    let inner = guard_ok _ _ _ _ least.1 in
    let fits : double_vlan_len ≤ length bytes = ltb-false (length bytes) double_vlan_len least.0 in
    let same : take double_vlan_len bytes ≡ prefix = ok_same _ _ inner.1 in
    rw (← same) (
      prefix_is bytes fits (not_not (is_vlan_type (next_type_of bytes)) inner.0),
      (drop double_vlan_len bytes, sym (take-append-drop double_vlan_len bytes)),
    )

double_vlan_at-ok : (bytes : List ℕ) → double_vlan_len ≤ length bytes
    → is_vlan_type (next_type_of bytes) ≡ true
    → double_vlan_at bytes ≡ Ok (take double_vlan_len bytes)
double_vlan_at-ok bytes least inner = grind arith

-- a header is taken, whatever follows it
header_again : (header rest : List ℕ) → IsDoubleVlanHeader header
    → double_vlan_at (header ++ rest) ≡ Ok header
header_again header rest is =
    let second : get_or (header ++ rest) 2 0 ≡ get_or header 2 0 =
    get_or_append_left header rest 0 2 (omega (arith, is.whole)) in
    let third : get_or (header ++ rest) 3 0 ≡ get_or header 3 0 =
    get_or_append_left header rest 0 3 (omega (arith, is.whole)) in
    let len = length-append header rest in
    double_vlan_at-ok (header ++ rest) (omega (arith, is.whole)) (rw (second, third) is.inner)
    ∙ ap Ok (take_at header rest 8 is.whole)

pub takes_header : (bytes : List ℕ) (taken : Result (List ℕ) (SliceError HeaderError))
    → taken ≡ double_vlan_at bytes → TakesPrefix IsDoubleVlanHeader bytes taken
takes_header = takes IsDoubleVlanHeader double_vlan_at header_found header_again

-- a part of bytes consists of bytes
outer_fits : (header : List ℕ) → IsBytes header → IsBytes (outer_of header)
outer_fits header = prefix_fits header (outer_of header) (inner_of header)
    (sym (take-append-drop vlan_len header))

inner_fits : (header : List ℕ) → IsBytes header → IsBytes (inner_of header)
inner_fits header fits i = rw (get_or-drop vlan_len header i 0) (fits (vlan_len + i))

-- the fields that are read from two tags encode them
pub encoding-double_vlan_header_of : (header : List ℕ) → IsDoubleVlanHeader header → IsBytes header
    → double_encoding (double_vlan_header_of header) ≡ header
encoding-double_vlan_header_of header is fits =
    let outer_len : length (outer_of header) ≡ vlan_len =
    length-take-le vlan_len header (omega (arith, is.whole)) in
    let inner_len : length (inner_of header) ≡ vlan_len =
    omega (arith, length-drop vlan_len header, is.whole) in
    let outer = encoding-single_vlan_header_of (outer_of header) outer_len (outer_fits header fits) in
    let inner = encoding-single_vlan_header_of (inner_of header) inner_len (inner_fits header fits) in
    (λ i. outer i ++ inner i) ∙ take-append-drop vlan_len header

-- the fields of two tags are read again
pub double_vlan_header_of-encoding : (h : DoubleVlanHeader) → length (encoding h.outer) ≡ vlan_len
    → single_vlan_header_of (encoding h.outer) ≡ h.outer
    → single_vlan_header_of (encoding h.inner) ≡ h.inner
    → double_vlan_header_of (double_encoding h) ≡ h
double_vlan_header_of-encoding h len outer inner =
    let first = take_at (encoding h.outer) (encoding h.inner) vlan_len len in
    let second = drop_at (encoding h.outer) (encoding h.inner) vlan_len len in
    let outer_is : single_vlan_header_of (outer_of (double_encoding h)) ≡ h.outer =
    ap single_vlan_header_of first ∙ outer in
    let inner_is : single_vlan_header_of (inner_of (double_encoding h)) ≡ h.inner =
    ap single_vlan_header_of second ∙ inner in
    λ i. record { outer = outer_is i; inner = inner_is i }

-- two tags are a header where the outer one's ether type says so
pub encoding_is_header : (h : DoubleVlanHeader) → length (encoding h.outer) ≡ vlan_len
    → length (encoding h.inner) ≡ vlan_len → single_vlan_header_of (encoding h.outer) ≡ h.outer
    → is_vlan_type h.outer.ether_type ≡ true → IsDoubleVlanHeader (double_encoding h)
encoding_is_header h outer_len inner_len outer names = record {
  whole = omega (arith, length-append (encoding h.outer) (encoding h.inner), outer_len, inner_len);
  inner = ap is_vlan_type (ap (λ (t : SingleVlanHeader). t.ether_type) outer) ∙ names;
}
