use Rattle.std.proofs.Common.{ap, ◌∙◌, rules}
use Rattle.ep_base.specs.Sum.{accumulator_sum}
use Rattle.ep_base.proofs.Folds.{accumulator_sum-add}
use Rattle.ep_base.proofs.Totals.{accumulator_sum_8, word_more}
use Rattle.ep_base.proofs.checksum.u64_16bit_word.add_wide.Goals as goal

pub returns-clause-sum : goal.returns-clause-sum
returns-clause-sum c =
    word_more _ _ _ c.args.value (accumulator_sum-add c.args.sum c.from.result)
    (ap accumulator_sum (c.from.ensures ∙ c.from_le_bytes.ensures)
    ∙ accumulator_sum_8 c.args.value (search rules))
