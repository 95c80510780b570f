-- Sequence numbers, which count modulo 2 to the 32 (RFC 9293, section 3.4).
use Rattle.std.specs.Prelude.{ℕ, ◌+◌, ◌-◌, ◌%◌, ◌^◌, nat_lt, if◌then◌else◌}
use Rattle.tcp_streams.specs.declared.sequence_numbers.Distance.{Distance}
use Rattle.tcp_streams.specs.declared.sequence_numbers.Distance.TheVariants.{After, Before}

-- how far a number lies from the one that is expected, the shorter way round
abbrev pub distance : (expected number : ℕ) → Distance
distance expected number =
    let after = (number + (2 ^ 32 - expected)) % 2 ^ 32 in
    if nat_lt after (2 ^ 31) then After after else Before (2 ^ 32 - after)
