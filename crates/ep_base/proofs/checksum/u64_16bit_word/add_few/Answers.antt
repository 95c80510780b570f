use Rattle.std.proofs.Common.{◌*◌, refl, sym, ◌∙◌, arith}
use Rattle.ep_base.specs.Sum.{accumulator_sum}
use Rattle.ep_base.proofs.Blocks.{block_more, blocks_all}
use Rattle.ep_base.proofs.Folds.{fold_plus_none}
use Rattle.ep_base.proofs.checksum.u64_16bit_word.add_few.Goals as goal

pub loop-block-init : goal.loop-block-init
loop-block-init c = sym (fold_plus_none (256 * c.args.start) 0 refl)

pub loop-block-preserved : goal.loop-block-preserved
loop-block-preserved c = block_more _ _ _ _ _ c.loop-block-test.true c.loop-block.invariant
    c.add_8bytes-sum.ensures

pub returns : goal.returns
returns c =
    let cut = c.as_chunks.ensures in
    c.add_rest.ensures
    ∙ blocks_all 8 (accumulator_sum c.args.start)
    (accumulator_sum c.loop-block.sum) c.args.slice.now c.as_chunks.result.0.now
    c.as_chunks.result.1.now c.loop-block.block-index
    (omega arith) refl cut.front cut.back c.loop-block-test.false c.loop-block.invariant
