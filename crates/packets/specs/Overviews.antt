-- What a report on captures counts.
use Rattle.std.specs.Prelude.{ℕ, if◌then◌else◌, Bool, List, is_some}
use Rattle.packets.specs.Counts.{CountsAll}
use Rattle.packets.specs.Flows.{outlines}
use Rattle.packets.specs.Rate.{CountsSpans}
use Rattle.packets.specs.declared.flows.conversation.Conversation.{Conversation}
use Rattle.packets.specs.declared.flows.transfer.Transfer.{Transfer}
use Rattle.packets.specs.declared.outline.Outline.{Outline}
use Rattle.packets.specs.declared.reason.Reason.{Reason}
use Rattle.packets.specs.declared.report.overview.Overview.{Overview}
use Rattle.packets.specs.declared.summary.verified.Verified.{Verified}

-- one of a packet that is refused
abbrev pub refused_count : Outline → ℕ
refused_count packet = if is_some packet.refusal then 1 else 0

-- the summary of these packets, and of each span of time their bytes on the wire, and how many of them
-- are refused
pub record CountsOverview {S H : Type 0} (same_reason : Reason → Reason → Bool)
    (same : Conversation → Conversation → Bool) (same_verified : Verified → Verified → Bool)
    (overview : Overview S H) (packets : List Transfer) : Type 0 where
  pub summary : CountsAll same_reason same same_verified overview.summary packets
  pub bytes : CountsSpans (λ packet. packet.wire_len) overview.bytes (outlines packets)
  pub refused : CountsSpans refused_count overview.refused (outlines packets)
