use Rattle.std.proofs.lemmas.Nat.{and_mask}
use Rattle.ep_base.proofs.Folds.{fold_of_halves}
use Rattle.ep_base.proofs.checksum.u64_16bit_word.to_word.Goals as goal

pub returns : goal.returns
returns c = fold_of_halves c.args.sum _ _ _ _ _ _ c.ranges.sum.fits (and_mask c.args.sum 32)
    c.overflowing_add-half.ensures.value c.overflowing_add-half.ensures.overflow (and_mask _ 16)
    c.overflowing_add-word.ensures.value c.overflowing_add-word.ensures.overflow
