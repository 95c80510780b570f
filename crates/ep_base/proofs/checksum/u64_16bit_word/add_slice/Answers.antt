use Rattle.std.proofs.Common.{◌∙◌, refl, arith}
use Rattle.ep_base.specs.Sum.{accumulator_sum}
use Rattle.ep_base.proofs.Blocks.{blocks_before}
use Rattle.ep_base.proofs.checksum.u64_16bit_word.add_slice.Goals as goal

pub returns : goal.returns
returns c =
    let cut = c.as_chunks.ensures in
    c.add_few-2.ensures
    ∙ blocks_before 32 (accumulator_sum c.args.start) _ c.args.slice.now _ _ (omega arith) refl
    cut.front cut.back c.add_blocks.ensures
