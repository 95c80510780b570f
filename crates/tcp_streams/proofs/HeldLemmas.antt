-- Positions at which a byte is held.
use Rattle.std.proofs.Common.{◌≡◌, ℕ, ◌+◌, ◌-◌, ◌^◌, ◌<◌, ◌≤◌, Bool, true, false, cond, not, Option, Some, None, is_some, min}
use Rattle.std.proofs.Common.{arith, refl}
use Rattle.tcp_streams.specs.Gaps.{AreRunsIn, is_missing}
use Rattle.tcp_streams.specs.PlacedSegments.{count_from}
use Rattle.tcp_streams.specs.SparseBytes.{IsSparse, Sparse, byte_in, held_end}
use Rattle.tcp_streams.proofs.CountLemmas.{count_from-none, count_from-not, count_from-split}
use Rattle.tcp_streams.proofs.RunLemmas.{runs_of_gaps, runs_weaker}
use Rattle.tcp_streams.proofs.SegmentLemmas.{byte_from-here, byte_from-none}

some_by : (missing : Bool) (b : ℕ) → is_some (cond missing None (Some b)) ≡ not missing
some_by true b = refl
some_by false b = refl

none_by : (missing : Bool) (o : Option ℕ) → o ≡ None → is_some (cond missing None o) ≡ false
none_by true o is = refl
none_by false o is = rw is

module _ (held : Sparse) where
  held_at : (p : ℕ) → held.taken ≤ p → p < held_end held
      → is_some (byte_in held p) ≡ not (is_missing held.gaps p)
  held_at p low below =
      rw (byte_from-here held.taken held.bytes p low below) (some_by (is_missing held.gaps p) _)

  held_past : (p : ℕ) → held_end held ≤ p → is_some (byte_in held p) ≡ false
  held_past p above = none_by (is_missing held.gaps p) _ (byte_from-none held.taken held.bytes p above)

  pub none_past : (position count end : ℕ) → end ≡ min (position + count) (held_end held) → end ≤ position
      → 0 ≡ count_from (λ p. is_some (byte_in held p)) position count
  none_past position count end end_is past =
      let none = count_from-none (λ p. is_some (byte_in held p)) position count
      (λ q low high. held_past q (omega arith)) in rw none

  pub counted_held : (position count end missing : ℕ) → held.taken ≤ position
      → end ≡ min (position + count) (held_end held) → position < end
      → missing ≡ count_from (is_missing held.gaps) position (end - position)
      → end - position - missing ≡ count_from (λ p. is_some (byte_in held p)) position count
  counted_held position count end missing after end_is some missing_is =
      let size : end - position + (count - (end - position)) ≡ count = omega arith in
      let at : position + (end - position) ≡ end = omega arith in
      let parts = count_from-split (λ p. is_some (byte_in held p)) position (end - position) (count - (end - position)) in
      let parts = rw (size, at) at parts in
      let rest = count_from-none (λ p. is_some (byte_in held p)) end (count - (end - position))
      (λ q low high. held_past q (omega arith)) in
      let all = count_from-not (λ p. is_some (byte_in held p)) (is_missing held.gaps) position (end - position)
      (λ q low high. held_at q (omega arith) (omega arith)) in
      omega (arith, parts, rest, all, missing_is)

pub sparse_runs : (held : Sparse) → IsSparse held → AreRunsIn 0 (2 ^ 64) held.gaps
sparse_runs held sound =
    runs_weaker held.taken 0 (held_end held) (2 ^ 64) held.gaps (omega arith) (omega (arith, sound.short))
    (runs_of_gaps held.taken (held_end held) held.gaps sound.gaps)
