use Rattle.std.proofs.Common.{◌≡◌, take}
use Rattle.std.specs.List.{sum_by}
use Rattle.ep_base.specs.Sum.{fold, total}
use Rattle.ep_base.proofs.checksum.sum_pieces.Given as goal

abbrev pub invariant-loop-chunk : goal.invariant-loop-chunk
invariant-loop-chunk l =
    l.sum ≡ fold (sum_by (λ chunk. total chunk.now) (take l.chunk-index l.chunks))
