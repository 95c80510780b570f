use Rattle.std.proofs.Common.{◌≡◌, ◌+◌, ◌*◌, ◌<◌, ◌^◌, take}
use Rattle.std.specs.List.{sum_by}
use Rattle.ep_base.specs.Sum.{accumulator_sum, fold, total}
use Rattle.ep_base.proofs.checksum.u64_16bit_word.add_many.Given as goal

abbrev pub invariant-loop-block : goal.invariant-loop-block
invariant-loop-block l = (accumulator_sum l.sum
    ≡ fold (accumulator_sum l.start + sum_by total (take l.block-index l.blocks)))
    × (l.sum < (l.block-index + 1) * 2 ^ 64)
