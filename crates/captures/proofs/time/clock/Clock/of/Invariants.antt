use Rattle.std.proofs.Common.{◌≡◌, ◌≤◌, ℕ, length}
use Rattle.captures.specs.Times.{clock_by, clock_of}
use Rattle.captures.proofs.time.clock.Clock.of.Given as goal

abbrev pub invariant-options : goal.invariant-options
invariant-options l = (n : ℕ) × (length l.rest ≤ n)
    × (clock_by n l.fn.order l.rest l.clock ≡ clock_of l.fn.order l.fn.options)

abbrev pub decreases-options : goal.decreases-options
decreases-options l = length l.rest
