use Rattle.ep_base.proofs.Folds.{accumulator_sum_carry_64}
use Rattle.ep_base.proofs.checksum.u64_16bit_word.add_carrying.Goals as goal

pub returns : goal.returns
returns c = accumulator_sum_carry_64 _ _ _ _ c.ranges.start.fits c.ranges.word.fits
    c.overflowing_add-sum.ensures.value c.overflowing_add-sum.ensures.overflow
