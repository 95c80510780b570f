use Rattle.std.proofs.Common.{arith, w32}
use Rattle.std.proofs.lemmas.Simd.{sum_fits, fold-sum}
use Rattle.ep_base.proofs.LaneSums.{lanes_fit, lanes_more, lanes_all}
use Rattle.ep_base.proofs.checksum.lanes.sum_blocks.Goals as goal

pub overflow_add-sums : goal.overflow_add-sums
overflow_add-sums c = lanes_fit c.loop-block.block-index _ _ (omega (arith, c.requires))
    c.loop-block.invariant.1 c.words_of-sums.ensures.small

pub loop-block-preserved : goal.loop-block-preserved
loop-block-preserved c = lanes_more _ _ _ _ c.loop-block-test.true c.loop-block.invariant
    c.words_of-sums.ensures.len c.words_of-sums.ensures.small c.words_of-sums.ensures.sum

pub overflow_add-result : goal.overflow_add-result
overflow_add-result c =
    let all = lanes_all c.loop-block.sums c.args.blocks.now c.loop-block.block-index
    c.loop-block.auto.block-index-end c.loop-block-test.false c.requires c.loop-block.invariant in
    sum_fits w32 0 c.loop-block.sums (omega (arith, all.0))

pub returns : goal.returns
returns c =
    let all = lanes_all c.loop-block.sums c.args.blocks.now c.loop-block.block-index
    c.loop-block.auto.block-index-end c.loop-block-test.false c.requires c.loop-block.invariant in
    omega (arith, fold-sum 0 c.loop-block.sums, all.1)
