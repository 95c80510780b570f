use Rattle.std.proofs.Common.{◌≡◌, ◌+◌, ◌/◌, ◌%◌, ℕ, bit_and, ap, ◌∙◌}
use Rattle.std.proofs.lemmas.Nat.{and_mask}
use Rattle.ep_base.specs.Sum.{accumulator_sum, fold, total}
use Rattle.ep_base.proofs.Folds.{accumulator_sum_halves}
use Rattle.ep_base.proofs.checksum.u32_16bit_word.add_slice.Goals as goal

pub returns : goal.returns
returns c =
    let n : ℕ = c.add_slice-sum.result in
    let low : bit_and n 4294967295 ≡ n % 4294967296 = and_mask n 32 in
    c.add_carrying.ensures
    ∙ ap (λ k. fold (accumulator_sum k + accumulator_sum (n / 4294967296))) low
    ∙ accumulator_sum_halves n
    ∙ c.add_slice-sum.ensures
    ∙ ap (λ k. fold (accumulator_sum k + total c.args.slice.now)) c.from.ensures
