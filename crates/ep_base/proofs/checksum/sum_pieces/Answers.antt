use Rattle.std.proofs.Common.{Bor, List, ℕ, sym, ap, ◌∙◌}
use Rattle.std.specs.List.{sum_by, flat_map}
use Rattle.std.proofs.lemmas.List.{take_all}
use Rattle.ep_base.specs.Sum.{fold, total, whole_words}
use Rattle.ep_base.proofs.Folds.{fold_zero}
use Rattle.ep_base.proofs.Chunks.{chunk_more, total-chunks}
use Rattle.ep_base.proofs.checksum.sum_pieces.Goals as goal

pub loop-chunk-init : goal.loop-chunk-init
loop-chunk-init c = c.new-sum.ensures.value ∙ sym fold_zero

pub loop-chunk-preserved : goal.loop-chunk-preserved
loop-chunk-preserved c =
    chunk_more (λ (p : Bor (List ℕ)). total p.now) _ _ _ _ _ c.loop-chunk-test.true
    c.loop-chunk.invariant c.add_slice-sum.ensures.sum

pub returns : goal.returns
returns c =
    let whole = sym (total-chunks (λ chunk. chunk.now) c.args.chunks.now) in
    let all = ap (sum_by (λ chunk. total chunk.now))
    (take_all c.loop-chunk.chunk-index c.args.chunks.now c.loop-chunk-test.false) in
    c.ones_complement.ensures.text (flat_map (λ chunk. whole_words chunk.now) c.args.chunks.now)
    (c.loop-chunk.invariant ∙ ap fold (all ∙ whole))
