-- Literal messages, at which laws state the definitions' values.
use Rattle.std.specs.Prelude.{ℕ, List, [], ◌∷◌, ◌++◌, replicate}

-- the data of an echo request, as `ping` of Windows sends it: 23 letters of the alphabet and nine
-- again
abbrev pub letters : List ℕ
letters =
    97 ∷ 98 ∷ 99 ∷ 100 ∷ 101 ∷ 102 ∷ 103 ∷ 104 ∷ 105 ∷ 106 ∷ 107 ∷ 108 ∷ 109 ∷ 110 ∷ 111 ∷ 112 ∷
    113 ∷ 114 ∷ 115 ∷ 116 ∷ 117 ∷ 118 ∷ 119 ∷ 97 ∷ 98 ∷ 99 ∷ 100 ∷ 101 ∷
    102 ∷ 103 ∷ 104 ∷ 105 ∷ []

-- the header before it: an echo request with identifier and sequence number 1, checksum 4d5a
abbrev pub ping : List ℕ
ping = 8 ∷ 0 ∷ 77 ∷ 90 ∷ 0 ∷ 1 ∷ 0 ∷ 1 ∷ []

-- a timestamp request with identifier 1234, sequence number 1, checksum bca0
abbrev pub timestamp : List ℕ
timestamp = 13 ∷ 0 ∷ 188 ∷ 160 ∷ 18 ∷ 52 ∷ 0 ∷ 1 ∷ 1 ∷ 2 ∷ 3 ∷ 4 ∷ 5 ∷ 6 ∷ 7 ∷
    8 ∷ 9 ∷ 10 ∷ 11 ∷ 12 ∷ []

-- fe80::1 and ff02::1
abbrev pub source : List ℕ
source = 254 ∷ 128 ∷ (replicate 13 0 ++ 1 ∷ [])

abbrev pub destination : List ℕ
destination = 255 ∷ 2 ∷ (replicate 13 0 ++ 1 ∷ [])

-- between them the header of a packet too big message for 1500 bytes, with three bytes of payload
abbrev pub too_big : List ℕ
too_big = 2 ∷ 0 ∷ 152 ∷ 87 ∷ 0 ∷ 0 ∷ 5 ∷ 220 ∷ []

abbrev pub three_bytes : List ℕ
three_bytes = 96 ∷ 1 ∷ 2 ∷ []
