use Rattle.std.proofs.Common.{ap, ◌∙◌, rules}
use Rattle.ep_base.specs.Sum.{accumulator_sum}
use Rattle.ep_base.proofs.Totals.{accumulator_sum_2, word_more}
use Rattle.ep_base.proofs.checksum.u32_16bit_word.add_2bytes.Goals as goal

pub returns : goal.returns
returns c =
    word_more _ _ _ c.args.value c.add_carrying.ensures
    (ap accumulator_sum (c.from.ensures ∙ c.from_le_bytes.ensures)
    ∙ accumulator_sum_2 c.args.value (search rules))
