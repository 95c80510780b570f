use Rattle.std.proofs.Common.{◌≡◌, ◌<◌, ◌*◌, ◌≤◌, ◌+◌, ℕ, length}
use Rattle.std.specs.List.{slice_index}
use Rattle.captures.specs.Numbers.{capped}
use Rattle.packets.proofs.summary.rate.joined.Given as goal

abbrev pub invariant-pairs : goal.invariant-pairs
invariant-pairs l = record {
  pairs : (k : ℕ) → k < l.position → slice_index l.joined k
      ≡ capped (slice_index l.counts (2 * k) + slice_index l.counts (2 * k + 1));
  size : length l.joined ≡ 64;
  rest : (k : ℕ) → l.position ≤ k → slice_index l.joined k ≡ 0;
}
