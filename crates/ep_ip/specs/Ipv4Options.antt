-- The options of an IPv4 header (RFC 791, section 3.1): what the header's length in words of 4
-- bytes, from 5 to 15, leaves after the 20 bytes of the fixed fields.
use Rattle.std.specs.Prelude.{◌≡◌, ℕ, ◌%◌, ◌≤◌, List, length, Result, Ok, Err}
use Rattle.ep_ip.specs.declared.err.ipv4.bad_options_len.BadOptionsLen.{BadOptionsLen}

-- whole words, at most ten
pub record IsIpv4Options (bytes : List ℕ) : Type 0 where
  pub fits : length bytes ≤ 40
  pub words : length bytes % 4 ≡ 0

-- `Ok` of the bytes where they are options, and else an error with their length
abbrev pub IsIpv4OptionsOf : List ℕ → Result (List ℕ) BadOptionsLen → Type 0
IsIpv4OptionsOf bytes (Ok options) = IsIpv4Options bytes × (options ≡ bytes)
IsIpv4OptionsOf bytes (Err e) = (¬ IsIpv4Options bytes) × (e.bad_len ≡ length bytes)
