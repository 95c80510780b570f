-- The short length of a MACsec header (IEEE 802.1AE, section 9.7), by what it counts.
use Rattle.std.specs.Prelude.{ℕ, nat_lt, if◌then◌else◌}

-- the short length that counts so many bytes: from 48 on none does
abbrev pub short_len_for : ℕ → ℕ
short_len_for len = if nat_lt len 48 then len else 0
