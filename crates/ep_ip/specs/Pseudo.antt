-- Pseudo headers: what a transport checksum covers beside the message. Over IPv4: RFC 768 and RFC
-- 9293, section 3.1. Over IPv6: RFC 8200, section 8.1. The number is that of the transport
-- protocol, len the message's length in bytes.
use Rattle.std.specs.Prelude.{ℕ, List, [], ◌∷◌, ◌++◌}
use Rattle.std.specs.Int.{w16, w32, to_be_bytes}

-- over IPv4: two addresses of 4 bytes, a zero byte, the number, and the length modulo 2 to the 16
-- in 2 bytes, high byte first
abbrev pub pseudo_v4 : List ℕ → List ℕ → ℕ → ℕ → List ℕ
pseudo_v4 source destination number len = source ++ destination ++ 0 ∷ number ∷ to_be_bytes w16 len

-- over IPv6: two addresses of 16 bytes, the length modulo 2 to the 32 in 4 bytes, high byte first,
-- three zero bytes, and the number
abbrev pub pseudo_v6 : List ℕ → List ℕ → ℕ → ℕ → List ℕ
pseudo_v6 source destination number len = source ++ destination ++ to_be_bytes w32 len
    ++ 0 ∷ 0 ∷ 0 ∷ number ∷ []
