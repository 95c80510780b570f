-- Why bytes are no ICMPv6 message (RFC 4443, section 2.1).
use Rattle.std.specs.Prelude.{ℕ, List, length, nat_lt, if◌then◌else◌, Result, Ok, Err}
use Rattle.ep_base.specs.LenError.{too_few_bytes}
use Rattle.ep_base.specs.declared.err.layer.Layer.TheVariants.{Icmpv6}
use Rattle.ep_base.specs.declared.err.len_error.LenError.{LenError}

-- the bytes as a message, or that they are too few
abbrev pub message_at : List ℕ → Result (List ℕ) LenError
message_at bytes = if nat_lt (length bytes) 8
    then Err (too_few_bytes Icmpv6 8 (length bytes)) else Ok bytes
