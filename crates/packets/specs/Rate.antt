-- How many packets there are in each span of time, or how much of something they have.
use Rattle.std.specs.Prelude.{◌≡◌, ◌⊎◌, ℕ, ◌<◌, ◌*◌, ◌^◌, ◌-◌, ◌/◌, ◌==◌, nat_le, if◌then◌else◌, Bool, true, List, [], ◌∷◌, sum_by}
use Rattle.std.specs.Prelude.{slice_index, Option, Some, None, All}
use Rattle.std.specs.List.{list_any}
use Rattle.captures.specs.Numbers.{capped}
use Rattle.packets.specs.declared.outline.Outline.{Outline}
use Rattle.packets.specs.declared.summary.rate.Rate.{Rate}
use Rattle.packets.specs.declared.summary.rate.TheConstants.{SHORTEST, SPAN_COUNT}

-- when the first of the packets was captured
abbrev pub begin_of : List Outline → Option ℕ
begin_of [] = None
begin_of (packet ∷ packets) = Some packet.time

abbrev pub start_of : List Outline → ℕ
start_of [] = 0
start_of (packet ∷ packets) = packet.time

-- in which span after a start a packet of this time comes: one with an earlier time in the first
abbrev pub span_at : (span start time : ℕ) → ℕ
span_at span start time = (time - start) / span

-- what a packet counts in the span at this position: nothing where it comes in another one
abbrev pub count_at : (Outline → ℕ) → (span start position : ℕ) → Outline → ℕ
count_at count_of span start position packet =
    if span_at span start packet.time == position then count_of packet else 0

-- what the packets of each span count is added up, and none comes after the last span
pub record CountsBySpan (count_of : Outline → ℕ) (rate : Rate) (packets : List Outline) : Type 0 where
  pub begin : rate.begin ≡ begin_of packets
  pub doubled : (times : ℕ) × (rate.span ≡ SHORTEST * 2 ^ times)
  pub counted : (position : ℕ) → position < SPAN_COUNT → slice_index rate.counts position ≡ capped
      (sum_by (count_at count_of rate.span (start_of packets) position) packets)
  pub within : All (λ packet. span_at rate.span (start_of packets) packet.time < SPAN_COUNT) packets

-- a packet comes after the last of spans of this length
abbrev pub is_past_spans : (span start : ℕ) → Outline → Bool
is_past_spans span start packet = nat_le SPAN_COUNT (span_at span start packet.time)

-- the spans are the shortest ones, or a packet comes after the last of spans half as long
pub record CountsSpans (count_of : Outline → ℕ) (rate : Rate) (packets : List Outline) : Type 0 where
  pub by_span : CountsBySpan count_of rate packets
  pub least : (rate.span ≡ SHORTEST)
      ⊎ (list_any (is_past_spans (rate.span / 2) (start_of packets)) packets ≡ true)
