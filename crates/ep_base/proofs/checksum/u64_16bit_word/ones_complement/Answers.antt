use Rattle.std.proofs.Common.{◌-◌, ap, ◌∙◌}
use Rattle.ep_base.proofs.Folds.{complement_of_accumulator_sum}
use Rattle.ep_base.proofs.checksum.u64_16bit_word.ones_complement.Goals as goal

pub returns : goal.returns
returns c = ap (λ f. 65535 - f) c.to_word.ensures ∙ complement_of_accumulator_sum c.args.sum
