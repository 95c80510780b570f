use Rattle.std.proofs.Common.{◌*◌, refl, sym, ap, ◌∙◌, arith}
use Rattle.ep_base.specs.Sum.{accumulator_sum}
use Rattle.ep_base.proofs.Blocks.{block_more, blocks_all}
use Rattle.ep_base.proofs.Folds.{fold_plus_none}
use Rattle.ep_base.proofs.checksum.u64_16bit_word.add_many.Goals as goal

pub loop-block-init : goal.loop-block-init
loop-block-init c = (
  ap accumulator_sum c.from-sum.ensures ∙ sym (fold_plus_none (256 * c.args.start) 0 refl),
  omega (arith, c.from-sum.ensures, c.ranges.start.fits),
)

pub loop-block-preserved : goal.loop-block-preserved
loop-block-preserved c =
    let inv = c.loop-block.invariant in (
      block_more _ _ _ _ _ c.loop-block-test.true inv.0 c.add_wide-sum.ensures.sum,
      omega (arith, inv.1, c.add_wide-sum.ensures.less),
    )

pub returns : goal.returns
returns c =
    let cut = c.as_chunks.ensures in
    c.add_rest.ensures
    ∙ blocks_all 8 (accumulator_sum c.args.start)
    (accumulator_sum c.narrowed.result) c.args.slice.now c.as_chunks.result.0.now
    c.as_chunks.result.1.now c.loop-block.block-index
    (omega arith) refl cut.front cut.back c.loop-block-test.false
    (c.narrowed.ensures ∙ c.loop-block.invariant.0)
