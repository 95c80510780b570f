use Rattle.std.proofs.Common.{◌≡◌, ◌++◌, ℕ, List, length}
use Rattle.device_runs.specs.Writes.{Written}
use Rattle.device_runs.proofs.writes.write_whole.Given as goal

-- A prefix is written, and the rest is left.
abbrev pub invariant-writes : goal.invariant-writes
invariant-writes g l = (prefix : List ℕ) × (l.bytes ≡ prefix ++ l.rest)
    × Written g.D.Device.transition l.initial.device prefix l.device

abbrev pub decreases-writes : goal.decreases-writes
decreases-writes g l = length l.rest
