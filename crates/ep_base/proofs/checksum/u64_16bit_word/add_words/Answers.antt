use Rattle.std.proofs.Common.{◌*◌, ◌+◌, ap, refl, sym, ◌∙◌, arith}
use Rattle.ep_base.specs.Sum.{accumulator_sum, fold, total}
use Rattle.ep_base.proofs.Blocks.{block_more, blocks_all, total_one, total_none}
use Rattle.ep_base.proofs.Folds.{fold_plus_none}
use Rattle.ep_base.proofs.checksum.u64_16bit_word.add_words.Goals as goal

pub loop-word-init : goal.loop-word-init
loop-word-init c = sym (fold_plus_none (256 * c.args.start) 0 refl)

pub loop-word-preserved : goal.loop-word-preserved
loop-word-preserved c = block_more _ _ _ _ _ c.loop-word-test.true c.loop-word.invariant
    c.add_2bytes-sum.ensures

pub returns-in-len1 : goal.returns-in-len1
returns-in-len1 c =
    let cut = c.as_chunks.ensures in
    let all = blocks_all 2 (accumulator_sum c.args.start)
    (accumulator_sum c.loop-word.sum) c.args.slice.now c.as_chunks.result.0.now
    c.as_chunks.result.1.now c.loop-word.word-index
    (omega arith) refl cut.front cut.back c.loop-word-test.false c.loop-word.invariant in
    c.add_2bytes.ensures ∙ ap (λ n. fold (accumulator_sum c.loop-word.sum + n))
    (total_one c.as_chunks.result.1.now (omega arith)) ∙ all

pub returns-in_default : goal.returns-in_default
returns-in_default c =
    let cut = c.as_chunks.ensures in
    let all = blocks_all 2 (accumulator_sum c.args.start)
    (accumulator_sum c.loop-word.sum) c.args.slice.now c.as_chunks.result.0.now
    c.as_chunks.result.1.now c.loop-word.word-index
    (omega arith) refl cut.front cut.back c.loop-word-test.false c.loop-word.invariant in
    sym (fold_plus_none (256 * c.loop-word.sum) (total c.as_chunks.result.1.now)
    (total_none c.as_chunks.result.1.now (omega arith))) ∙ all
