-- An authentication header that is parsed from bytes is encoded by them again, reserved bytes aside.
use Rattle.std.proofs.Common.{◌≡◌, ℕ, ◌+◌, ◌/◌, List, length, drop, get_or, arith}
use Rattle.std.proofs.lemmas.List.{length-drop}
use Rattle.ep_base.specs.Bytes.{IsBytes}
use Rattle.ep_base.proofs.Numbers.{digits_of}
use Rattle.ep_ext.specs.Auth.{IsAuth, auth_of, auth_encoding, auth_cleared}

pub auth_encoded : (bytes : List ℕ) → IsAuth bytes → IsBytes bytes
    → auth_encoding (auth_of bytes) ≡ auth_cleared bytes
auth_encoded bytes header fits =
    let words : length (drop 12 bytes) / 4 + 1 ≡ get_or bytes 1 0 =
    omega (arith, length-drop 12 bytes, header.least, header.whole) in
    let spi = digits_of (get_or bytes 4 0) (get_or bytes 5 0) (get_or bytes 6 0) (get_or bytes 7 0)
    (fits 4) (fits 5) (fits 6) (fits 7) in
    let sequence = digits_of (get_or bytes 8 0) (get_or bytes 9 0) (get_or bytes 10 0)
    (get_or bytes 11 0) (fits 8) (fits 9) (fits 10) (fits 11) in
    grind arith
