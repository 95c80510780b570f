-- How many bytes packets had on the wire, and how many of them were captured.
use Rattle.std.specs.Prelude.{◌≡◌, ℕ, nat_lt, Bool, List, sum_by}
use Rattle.captures.specs.Numbers.{capped}
use Rattle.packets.specs.Tally.{tally_of}
use Rattle.packets.specs.declared.outline.Outline.{Outline}
use Rattle.packets.specs.declared.summary.lengths.Lengths.{Lengths}

-- whether a packet was cut as it was captured: fewer bytes were captured than were on the wire
abbrev pub is_cut : (captured_len wire_len : ℕ) → Bool
is_cut captured_len wire_len = nat_lt captured_len wire_len

-- the packets that were cut, and the bytes of all packets on the wire and in the capture
pub record CountsLengths (lengths : Lengths) (packets : List Outline) : Type 0 where
  pub cut : lengths.cut ≡ tally_of (λ packet. is_cut packet.captured_len packet.wire_len) packets
  pub wire : lengths.wire ≡ capped (sum_by (λ packet. packet.wire_len) packets)
  pub captured : lengths.captured ≡ capped (sum_by (λ packet. packet.captured_len) packets)
