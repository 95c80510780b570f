use Rattle.std.proofs.Common.{◌≤◌}
use Rattle.netlines_rows.proofs.main.Given as goal

abbrev pub invariant-loop-name : goal.invariant-loop-name
invariant-loop-name l = l.differing ≤ l.name-index
