-- The options of a TCP header (RFC 9293, section 3.1): what the data offset, in words of 4 bytes
-- from 5 to 15, leaves after the 20 bytes of the fixed fields.
use Rattle.std.specs.Prelude.{◌≡◌, ℕ, ◌-◌, ◌%◌, ◌≤◌, nat_lt, if◌then◌else◌, List, ◌++◌, length, replicate, Result, Ok}
use Rattle.std.specs.Prelude.{Err}
use Rattle.ep_tcpudp.specs.declared.transport.tcp_option_write_error.TcpOptionWriteError.{TcpOptionWriteError}
use Rattle.ep_tcpudp.specs.declared.transport.tcp_option_write_error.TcpOptionWriteError.TheVariants.{NotEnoughSpace}

-- whole words, at most ten
pub record IsTcpOptions (bytes : List ℕ) : Type 0 where
  pub fits : length bytes ≤ 40
  pub words : length bytes % 4 ≡ 0

-- bytes filled up to whole words with the option that ends the list, 0
abbrev pub whole_options : List ℕ → List ℕ
whole_options bytes = bytes ++ replicate ((4 - length bytes % 4) % 4) 0

-- the options that these bytes are, filled up; more than 40 bytes are refused with their number
abbrev pub options_of_bytes : List ℕ → Result (List ℕ) TcpOptionWriteError
options_of_bytes bytes = if nat_lt 40 (length bytes) then Err (NotEnoughSpace (length bytes))
    else Ok (whole_options bytes)
