use Rattle.std.proofs.Common.{◌≡◌, ◌⊎◌, ◌≤◌, ◌/◌, ℕ, List, length}
use Rattle.packets.specs.Rate.{CountsBySpan}
use Rattle.packets.specs.declared.outline.Outline.{Outline}
use Rattle.packets.proofs.summary.rate.Rate.add.Given as goal

abbrev pub invariant-spans : goal.invariant-spans
invariant-spans l = record {
  begin : l.self.begin ≡ l.initial.self.begin;
  size : length l.self.counts ≡ 64;
  counted : (count_of : Outline → ℕ) (packets : List Outline)
      → CountsBySpan count_of l.initial.self packets → CountsBySpan count_of l.self packets;
  least : (l.self.span ≡ l.initial.self.span) ⊎ (64 ≤ l.since / (l.self.span / 2));
}

abbrev pub decreases-spans : goal.decreases-spans
decreases-spans l = l.since / l.self.span
