-- Why bytes are no ICMPv4 message (RFC 792).
use Rattle.std.specs.Prelude.{ℕ, List, length, nat_lt, ◌==◌, ◌&&◌, not, Result, ◌∷◌, []}
use Rattle.ep_base.specs.LenError.{too_few_bytes}
use Rattle.ep_base.specs.Refusals.{unless_refused}
use Rattle.ep_base.specs.declared.err.layer.Layer.TheVariants.{Icmpv4, Icmpv4Timestamp, Icmpv4TimestampReply}
use Rattle.ep_base.specs.declared.err.len_error.LenError.{LenError}
use Rattle.ep_icmp.specs.Icmpv4.{is_timestamp_request, is_timestamp_reply}

-- the bytes as a message, or the first fault: too few for any kind, or not the 20 of a timestamp
-- message
abbrev pub message_at : List ℕ → Result (List ℕ) LenError
message_at bytes = unless_refused (
    (nat_lt (length bytes) 8, too_few_bytes Icmpv4 8 (length bytes))
    ∷ (
      is_timestamp_request bytes && not (length bytes == 20),
      too_few_bytes Icmpv4Timestamp 20 (length bytes),
    )
    ∷ (
      is_timestamp_reply bytes && not (length bytes == 20),
      too_few_bytes Icmpv4TimestampReply 20 (length bytes),
    )
    ∷ []) bytes
