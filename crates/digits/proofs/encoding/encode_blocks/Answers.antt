use Rattle.std.proofs.Common.{arith}
use Rattle.digits.proofs.Blocks.{block_encoded, all_encoded}
use Rattle.digits.proofs.encoding.encode_blocks.Goals as goal

pub loop-at-preserved : goal.loop-at-preserved
loop-at-preserved c = (
  omega arith,
  block_encoded _ _ _ c.loop-at.at c.min-start.result (omega arith) (omega arith)
      (omega arith) c.digits_of.ensures.len c.digits_of.ensures.high
      c.digits_of.ensures.low c.loop-at.invariant.1,
)

pub returns : goal.returns
returns c = all_encoded c.args.bytes.now c.loop-at.digits (omega arith)
    (λ k h. c.loop-at.invariant.1 k (omega arith))
