use Rattle.std.proofs.Common.{ap, sym, ◌∙◌}
use Rattle.std.specs.List.{sum_by}
use Rattle.ep_base.specs.Sum.{accumulator_sum, total_low}
use Rattle.ep_base.proofs.Blocks.{blocks_more, none_left}
use Rattle.ep_base.proofs.checksum.lanes.add_blocks.Goals as goal

pub loop-left-preserved : goal.loop-left-preserved
loop-left-preserved c =
    let cut = c.split_at.ensures in
    blocks_more _ (accumulator_sum c.loop-left.sum) _ _ c.loop-left.left.now _ c.min.result
    c.loop-left.invariant
    (c.from.ensures ∙ c.sum_blocks.ensures ∙ ap (sum_by total_low) cut.front) cut.back
    c.add_carrying-sum.ensures

pub returns : goal.returns
returns c = none_left _ c.loop-left.sum c.loop-left.left.now
    (sym c.is_empty.ensures ∙ c.loop-left-test.false) c.loop-left.invariant
