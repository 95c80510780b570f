-- Literal messages, at which laws state the definitions' values.
use Rattle.std.specs.Prelude.{ℕ, List, [], ◌∷◌, ◌++◌, replicate}

-- the payload 1 to 8
abbrev pub one_to_eight : List ℕ
one_to_eight = 1 ∷ 2 ∷ 3 ∷ 4 ∷ 5 ∷ 6 ∷ 7 ∷ 8 ∷ []

-- a UDP header from port 1 to port 2 before it, over IPv4 with the checksum dbb4
abbrev pub udp_prefix : List ℕ
udp_prefix = 0 ∷ 1 ∷ 0 ∷ 2 ∷ 0 ∷ 16 ∷ 219 ∷ 180 ∷ []

-- the addresses 10.0.0.1 and 10.0.0.2, fd00::1 and fd00::2
abbrev pub source_v4 : List ℕ
source_v4 = 10 ∷ 0 ∷ 0 ∷ 1 ∷ []

abbrev pub destination_v4 : List ℕ
destination_v4 = 10 ∷ 0 ∷ 0 ∷ 2 ∷ []

abbrev pub source_v6 : List ℕ
source_v6 = 253 ∷ (replicate 14 0 ++ 1 ∷ [])

abbrev pub destination_v6 : List ℕ
destination_v6 = 253 ∷ (replicate 14 0 ++ 2 ∷ [])

-- the first segment of a connection between ports 1 and 2: number 3, window 1024, over IPv4 with
-- the checksum 97da
abbrev pub first_segment : List ℕ
first_segment = 0 ∷ 1 ∷ 0 ∷ 2 ∷ 0 ∷ 0 ∷ 0 ∷ 3 ∷ 0 ∷ 0 ∷ 0 ∷ 0 ∷ 80 ∷ 2 ∷ 4 ∷
    0 ∷ 151 ∷ 218 ∷ 0 ∷ 0 ∷ []

-- the same with the three reserved bits set, and the checksum 89da
abbrev pub reserved_segment : List ℕ
reserved_segment = 0 ∷ 1 ∷ 0 ∷ 2 ∷ 0 ∷ 0 ∷ 0 ∷ 3 ∷ 0 ∷ 0 ∷ 0 ∷ 0 ∷ 94 ∷ 2 ∷ 4 ∷
    0 ∷ 137 ∷ 218 ∷ 0 ∷ 0 ∷ []

-- a header with each field its own number, one word of options, the flags ns, cwr, ack and fin, and
-- the reserved bits set
abbrev pub tcp_prefix : List ℕ
tcp_prefix = 0 ∷ 1 ∷ 0 ∷ 2 ∷ 0 ∷ 0 ∷ 0 ∷ 3 ∷ 0 ∷ 0 ∷ 0 ∷ 4 ∷ 111 ∷ 145 ∷ 0 ∷ 5 ∷ 0 ∷ 6 ∷
    0 ∷ 7 ∷ 1 ∷ 1 ∷ 1 ∷ 0 ∷ []

-- the same with them 0
abbrev pub tcp_prefix_as_written : List ℕ
tcp_prefix_as_written = 0 ∷ 1 ∷ 0 ∷ 2 ∷ 0 ∷ 0 ∷ 0 ∷ 3 ∷ 0 ∷ 0 ∷ 0 ∷ 4 ∷ 97 ∷ 145 ∷ 0 ∷ 5 ∷ 0 ∷ 6 ∷
    0 ∷ 7 ∷ 1 ∷ 1 ∷ 1 ∷ 0 ∷ []

-- options of a first segment: size 1460, selective acknowledgements, timestamps, a no-operation,
-- scale 7
abbrev pub first_options : List ℕ
first_options = 2 ∷ 4 ∷ 5 ∷ 180 ∷ 4 ∷ 2 ∷ 8 ∷ 10 ∷ 0 ∷ 0 ∷ 0 ∷ 1 ∷ 0 ∷ 0 ∷
    0 ∷ 0 ∷ 1 ∷ 3 ∷ 3 ∷ 7 ∷ []
