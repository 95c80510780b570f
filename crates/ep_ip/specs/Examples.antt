-- Bytes of headers from outside, at which laws state the definitions' values.
use Rattle.std.specs.Prelude.{ℕ, List, [], ◌∷◌, ◌++◌, replicate}

-- an IPv4 header with one word of options: code point 8, notification 1, total length 30,
-- identification 7, more fragments, offset 5, time to live 64, UDP, checksum 439f, from 10.0.0.1 to
-- 10.0.0.2
abbrev pub ipv4_with_options : List ℕ
ipv4_with_options = 70 ∷ 33 ∷ 0 ∷ 30 ∷ 0 ∷ 7 ∷ 32 ∷ 5 ∷ 64 ∷ 17 ∷ 67 ∷ 159 ∷ 10 ∷ 0 ∷ 0 ∷ 1 ∷ 10 ∷
    0 ∷ 0 ∷ 2 ∷ 1 ∷ 1 ∷ 1 ∷ 0 ∷ []

-- the same with the reserved bit set
abbrev pub ipv4_with_reserved_bit : List ℕ
ipv4_with_reserved_bit = 70 ∷ 33 ∷ 0 ∷ 30 ∷ 0 ∷ 7 ∷ 160 ∷ 5 ∷ 64 ∷ 17 ∷ 67 ∷ 159 ∷ 10 ∷ 0 ∷ 0 ∷ 1 ∷
    10 ∷ 0 ∷ 0 ∷ 2 ∷ 1 ∷ 1 ∷ 1 ∷ 0 ∷ []

-- one whose other words sum to all ones, so that its checksum is 0
abbrev pub ipv4_of_all_ones : List ℕ
ipv4_of_all_ones = 69 ∷ 0 ∷ 0 ∷ 20 ∷ 102 ∷ 215 ∷ 0 ∷ 0 ∷ 64 ∷ 17 ∷ 0 ∷ 0 ∷ 10 ∷ 0 ∷ 0 ∷
    1 ∷ 10 ∷ 0 ∷ 0 ∷ 2 ∷ []

-- an IPv6 header: traffic class ab, flow label cdef1, payload length 1234, UDP, hop limit 64, from
-- fd00::1 to fd00::2
abbrev pub ipv6_example : List ℕ
ipv6_example =
    106 ∷ 188 ∷ 222 ∷ 241 ∷ 18 ∷ 52 ∷ 17 ∷ 64 ∷ 253 ∷
    (replicate 14 0 ++ 1 ∷ 253 ∷ (replicate 14 0 ++ 2 ∷ []))

-- extension headers in a row, hop-by-hop options and destination options of 8 bytes each, and
-- after them the number 17 and two bytes
abbrev pub two_headers : List (List ℕ)
two_headers = (60 ∷ replicate 7 0) ∷ (17 ∷ replicate 7 0) ∷ []
