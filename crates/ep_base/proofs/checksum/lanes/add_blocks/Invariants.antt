use Rattle.std.proofs.Common.{◌≡◌, ◌+◌, length}
use Rattle.std.specs.List.{sum_by}
use Rattle.ep_base.specs.Sum.{accumulator_sum, fold, total}
use Rattle.ep_base.proofs.checksum.lanes.add_blocks.Given as goal

abbrev pub invariant-loop-left : goal.invariant-loop-left
invariant-loop-left l = fold (accumulator_sum l.sum + sum_by total l.left)
    ≡ fold (accumulator_sum l.start + sum_by total l.blocks)

abbrev pub decreases-loop-left : goal.decreases-loop-left
decreases-loop-left l = length l.left
