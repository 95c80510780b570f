use Rattle.std.proofs.Common.{arith}
use Rattle.digits.proofs.Blocks.{decode_answer}
use Rattle.digits.proofs.decoding.decode.Goals as goal

pub returns-then-bytes-lt-BLOCK_LEN-clause-value : goal.returns-then-bytes-lt-BLOCK_LEN-clause-value
returns-then-bytes-lt-BLOCK_LEN-clause-value c =
    decode_answer _ c.decode_short.new.bytes _ c.decode_short.result (omega arith) (omega arith)
    (omega arith) c.decode_short.ensures.decoded c.decode_short.ensures.refused

pub returns-clause-value : goal.returns-clause-value
returns-clause-value c = decode_answer _ c.decode_blocks.new.bytes _ c.decode_blocks.result
    (omega arith) (omega arith) (omega arith) c.decode_blocks.ensures.decoded
    c.decode_blocks.ensures.refused
