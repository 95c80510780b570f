-- Counts that stop at a limit.
use Rattle.std.proofs.Common.{◌≡◌, ℕ, ◌+◌, arith}
use Rattle.std.specs.Prelude.{min}

pub capped_more : (limit m n : ℕ) → min (min m limit + n) limit ≡ min (m + n) limit
capped_more limit m n = omega arith
