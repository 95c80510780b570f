use Rattle.std.proofs.Common.{length, arith}
use Rattle.std.proofs.lemmas.Simd.{length-put_chunk}
use Rattle.digits.proofs.Blocks.{block_decoded, block_values}
use Rattle.digits.proofs.Vectors.{zero_values}
use Rattle.digits.proofs.decoding.decode_blocks.Goals as goal

pub loop-at-init : goal.loop-at-init
loop-at-init c =
    record {
      within = omega arith;
      decoded = λ h k l. absurd (omega arith);
      digits = λ all. zero_values;
    }

pub loop-at-preserved : goal.loop-at-preserved
loop-at-preserved c =
    let both = c.maximum-largest.ensures in
    let reads = c.values_of-values.ensures in record {
      within = simp length-put_chunk (omega arith);
      decoded = λ h.
          let small = both.0 h in
          block_decoded _ _ c.values_of-values.result _ c.loop-at.at c.min-start.result
          (omega arith) (omega arith) c.bytes_of.ensures.len reads small.1
          (c.bytes_of.ensures.bytes small.1) (c.loop-at.invariant.decoded small.0);
      digits = λ all. both.1 (
        c.loop-at.invariant.digits all,
        block_values c.args.digits.now c.values_of-values.result
            (length c.args.bytes.now) c.min-start.result (omega arith) c.requires.twice reads all,
      );
    }

pub returns-clause-decoded : goal.returns-clause-decoded
returns-clause-decoded c t k h = c.loop-at.invariant.decoded
    (c.are_digit_values.ensures.0 t) k (omega arith)

pub returns-clause-refused : goal.returns-clause-refused
returns-clause-refused c f all = let t =
    c.are_digit_values.ensures.1 (c.loop-at.invariant.digits all) in cc
