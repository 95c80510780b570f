-- The MACsec header at the start of bytes.
use Rattle.std.proofs.lemmas.Bool.Decides.{nat_tests}
use Rattle.std.proofs.Common.{◌≡◌, ℕ, ◌+◌, ◌≤◌, Bool, false, cond, List, ◌++◌, length, take, drop, Result, Ok, arith}
use Rattle.std.proofs.Common.{sym, subst}
use Rattle.std.proofs.lemmas.Bool.{ltb-false}
use Rattle.std.proofs.lemmas.List.{get_or-take, get_or_append_left, length-take-le, length-append, take-append-drop}
use Rattle.std.proofs.lemmas.List.{take_at}
use Rattle.ep_base.specs.declared.err.slice_error.SliceError.{SliceError}
use Rattle.ep_tag.specs.declared.err.macsec.header_error.HeaderError.{HeaderError}
use Rattle.ep_base.specs.Prefixes.{TakesPrefix}
use Rattle.ep_tag.specs.Macsec.{IsMacsecHeader, version_of, has_no_room, header_len_of}
use Rattle.ep_tag.specs.MacsecFault.{header_at}
use Rattle.ep_base.proofs.Prefixes.{guard_ok, ok_same, takes}

header_len-least : (a b : Bool) → 6 ≤ 6 + cond a 8 0 + cond b 2 0
header_len-least a b = omega arith

pub header_at-ok : (bytes : List ℕ) → 6 ≤ length bytes → version_of bytes ≡ false
    → has_no_room bytes ≡ false → header_len_of bytes ≤ length bytes
    → header_at bytes ≡ Ok (take (header_len_of bytes) bytes)
header_at-ok bytes least version room whole = grind arith

-- the first bytes of a header say what the header says
pub prefix_is : (bytes : List ℕ) → 6 ≤ length bytes → version_of bytes ≡ false
    → has_no_room bytes ≡ false → header_len_of bytes ≤ length bytes
    → IsMacsecHeader (take (header_len_of bytes) bytes)
prefix_is bytes least version room whole =
    grind (arith, header_len-least, get_or-take, length-take-le)

-- the same with the length as it was computed
pub taken : (bytes : List ℕ) (n : ℕ) → 6 ≤ length bytes → version_of bytes ≡ false
    → has_no_room bytes ≡ false → n ≡ header_len_of bytes → n ≤ length bytes
    → Ok (take n bytes) ≡ header_at bytes
taken bytes n least version room counted whole = grind arith

pub prefix_at : (bytes : List ℕ) (n : ℕ) → 6 ≤ length bytes → version_of bytes ≡ false
    → has_no_room bytes ≡ false → n ≡ header_len_of bytes → n ≤ length bytes
    → IsMacsecHeader (take n bytes)
prefix_at bytes n least version room counted whole = grind (arith, nat_tests, prefix_is)

-- what is taken is a header, and a prefix of the bytes
pub header_takes : (bytes header : List ℕ) → header_at bytes ≡ Ok header
    → IsMacsecHeader header × (header ≡ take (header_len_of bytes) bytes)
    × (header_len_of bytes ≤ length bytes)
header_takes bytes header e =
    let least = guard_ok _ _ _ _ e in
    let version = guard_ok (version_of bytes) _ _ _ least.1 in
    let room = guard_ok (has_no_room bytes) _ _ _ version.1 in
    let whole = guard_ok _ _ _ _ room.1 in
    let six : 6 ≤ length bytes = ltb-false (length bytes) 6 least.0 in
    let fits : header_len_of bytes ≤ length bytes =
    ltb-false (length bytes) (header_len_of bytes) whole.0 in
    let same : take (header_len_of bytes) bytes ≡ header = ok_same _ _ whole.1 in
    (subst IsMacsecHeader same (prefix_is bytes six version.0 room.0 fits), sym same, fits)

pub header_found : (bytes header : List ℕ) → header_at bytes ≡ Ok header
    → IsMacsecHeader header × ((rest : List ℕ) × (bytes ≡ header ++ rest))
header_found bytes header e =
    let found = header_takes bytes header e in
    let n = header_len_of bytes in (
      found.0,
      (
        drop n bytes,
        grind (arith, take-append-drop),
      ),
    )

-- a header is taken, whatever follows it
pub header_again : (header rest : List ℕ) → IsMacsecHeader header
    → header_at (header ++ rest) ≡ Ok header
header_again header rest is =
    grind (arith, get_or_append_left, length-append, header_at-ok, take_at)

pub takes_header : (bytes : List ℕ) (taken : Result (List ℕ) (SliceError HeaderError))
    → taken ≡ header_at bytes → TakesPrefix IsMacsecHeader bytes taken
takes_header = takes IsMacsecHeader header_at header_found header_again
