use Rattle.std.proofs.Common.{refl}
use Rattle.std.proofs.lemmas.Nat.{and_mask}
use Rattle.ep_base.proofs.Folds.{accumulator_sum_wide_halves}
use Rattle.ep_base.proofs.checksum.u64_16bit_word.narrowed.Goals as goal

pub returns : goal.returns
returns c = accumulator_sum_wide_halves c.args.sum _ _ _ (and_mask c.args.sum 64) refl
    c.add_carrying.ensures
