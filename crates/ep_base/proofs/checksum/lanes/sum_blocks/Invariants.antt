use Rattle.ep_base.proofs.LaneSums.{LanesOf}
use Rattle.ep_base.proofs.checksum.lanes.sum_blocks.Given as goal

abbrev pub invariant-loop-block : goal.invariant-loop-block
invariant-loop-block l = LanesOf l.sums l.block-index l.blocks
