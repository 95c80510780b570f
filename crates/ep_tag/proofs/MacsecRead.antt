-- A MACsec header and its payload at the start of bytes.
use Rattle.std.proofs.Common.{◌≡◌, ℕ, ◌<◌, ◌≤◌, ◌==◌, nat_lt, Bool, true, false, cond, List, [], ◌++◌, length, take}
use Rattle.std.proofs.Common.{drop, Result, Ok, Err, IfOk, arith, refl, sym, subst, length-append, append_assoc}
use Rattle.std.proofs.lemmas.Bool.{le-ltb, ltb-false, eq-eqb, eqb-true}
use Rattle.std.proofs.lemmas.Bool.Decides.{nat_tests}
use Rattle.std.proofs.lemmas.List.{take-append-drop, append-nil, length-take-le, take_at, drop_at}
use Rattle.ep_base.specs.declared.err.slice_error.SliceError.{SliceError}
use Rattle.ep_tag.specs.declared.err.macsec.header_error.HeaderError.{HeaderError}
use Rattle.ep_tag.specs.Macsec.{header_len_of, short_len_of}
use Rattle.ep_tag.specs.MacsecFault.{header_at}
use Rattle.ep_tag.specs.MacsecPayload.{IsMacsec, Macsec, bytes_under, macsec_at, payload_len_of, payload_under}
use Rattle.ep_base.proofs.Prefixes.{guard_ok, guard_through, ok_same}
use Rattle.ep_tag.proofs.MacsecPrefix.{header_again, header_takes}

positive : (n : ℕ) → (n == 0) ≡ false → 0 < n
positive n h = grind (arith, nat_tests)

-- the payload and what the short length leaves out
cut_found : (header rest : List ℕ) (b : Bool) → (short_len_of header == 0) ≡ b
    → payload_len_of header ≤ length rest
    → (beyond : List ℕ) × (rest ≡ cond b rest (take (payload_len_of header) rest) ++ beyond)
    × (short_len_of header ≡ 0 → beyond ≡ [])
    × (0 < short_len_of header → length (cond b rest (take (payload_len_of header) rest))
    ≡ payload_len_of header)
cut_found header rest true zero_is fits = grind (arith, eqb-true, append-nil)
cut_found header rest false zero_is fits = (
  drop (payload_len_of header) rest,
  sym (take-append-drop (payload_len_of header) rest),
  λ none. let same : (short_len_of header == 0) ≡ true = eq-eqb (short_len_of header) 0 none in cc,
  λ _. length-take-le (payload_len_of header) rest fits,
)

with_found : (bytes header : List ℕ) (m : Macsec) → header_at bytes ≡ Ok header
    → macsec_at bytes ≡ Ok m → IsMacsec bytes m
with_found bytes header m e f =
    let rest = drop (length header) bytes in
    let prefix = header_takes bytes header e in
    let read = rw e at f in
    let enough = guard_ok (nat_lt (length rest) (payload_len_of header)) _ _ _ read in
    let fits : payload_len_of header ≤ length rest =
    ltb-false (length rest) (payload_len_of header) enough.0 in
    let cut = cut_found header rest (short_len_of header == 0) refl fits in
    let n = header_len_of bytes in
    let size : length header ≡ n = grind (arith, length-take-le) in
    let same : bytes ≡ header ++ rest =
    grind (arith, take-append-drop) in
    let inside : IsMacsec bytes
    (record { header = header; payload = payload_under header (bytes_under header rest) }) =
    grind (arith, append_assoc) in
    subst (IsMacsec bytes) (ok_same _ _ enough.1) inside

by_header : (bytes : List ℕ) (r : Result (List ℕ) (SliceError HeaderError)) (m : Macsec)
    → header_at bytes ≡ r → macsec_at bytes ≡ Ok m → IsMacsec bytes m
by_header bytes (Ok header) m e f = with_found bytes header m e f
by_header bytes (Err x) m e f = let none = rw e at f in cc

pub macsec_takes : (bytes : List ℕ) (m : Macsec) → macsec_at bytes ≡ Ok m → IsMacsec bytes m
macsec_takes bytes m e = by_header bytes (header_at bytes) m refl e

pub macsec_found : (bytes : List ℕ) (r : Result Macsec (SliceError HeaderError))
    → r ≡ macsec_at bytes → IfOk r (λ m. IsMacsec bytes m)
macsec_found bytes r e = grind (arith, macsec_takes)

cut_only : (header payload beyond : List ℕ) (b : Bool) → (short_len_of header == 0) ≡ b
    → (short_len_of header ≡ 0 → beyond ≡ [])
    → (0 < short_len_of header → length payload ≡ payload_len_of header)
    → (cond b (payload ++ beyond) (take (payload_len_of header) (payload ++ beyond)) ≡ payload)
    × (payload_len_of header ≤ length (payload ++ beyond))
cut_only header payload beyond b zero_is all size =
    grind (arith, eqb-true, append-nil, positive, length-append, take_at)

-- a header and payload at the start of the bytes are read
pub macsec_only : (bytes : List ℕ) (m : Macsec) → IsMacsec bytes m → macsec_at bytes ≡ Ok m
macsec_only bytes m is =
    grind (
      arith,
      nat_tests,
      append_assoc,
      cut_only,
      drop_at,
      le-ltb,
      header_again,
      guard_through,
    )
