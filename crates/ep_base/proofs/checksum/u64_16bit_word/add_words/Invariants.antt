use Rattle.std.proofs.Common.{◌≡◌, ◌+◌, take}
use Rattle.std.specs.List.{sum_by}
use Rattle.ep_base.specs.Sum.{accumulator_sum, fold, total}
use Rattle.ep_base.proofs.checksum.u64_16bit_word.add_words.Given as goal

abbrev pub invariant-loop-word : goal.invariant-loop-word
invariant-loop-word l = accumulator_sum l.sum
    ≡ fold (accumulator_sum l.start + sum_by total (take l.word-index l.words))
