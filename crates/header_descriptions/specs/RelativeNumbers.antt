-- Numbers of TCP segments, counted from the initial ones of their connection.
use Rattle.std.specs.Prelude.{ℕ, ◌+◌, ◌-◌, ◌%◌, ◌^◌}

-- how far a number is from the initial one, modulo 2 to the 32 (RFC 9293, section 3.4)
abbrev pub relative : (number initial : ℕ) → ℕ
relative number initial = (number + (2 ^ 32 - initial)) % 2 ^ 32
