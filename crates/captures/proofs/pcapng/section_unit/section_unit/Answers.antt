use Rattle.std.proofs.Common.{arith, refl}
use Rattle.captures.proofs.BlockLemmas.{whole_block, refused_at}
use Rattle.captures.proofs.OffsetLemmas.{stands_prefix}
use Rattle.captures.proofs.pcapng.section_unit.section_unit.Goals as goal

pub returns-in-Ok-clause-found : goal.returns-in-Ok-clause-found
returns-in-Ok-clause-found c =
    let bytes = c.args.bytes.now in
    let block = c.split_at.result.0.now in
    let rest = c.split_at.result.1.now in
    let order = c.in-Some.order in
    let parts = c.split_at.ensures.by_index.0 in
    let whole = whole_block c.args.section.now.order order bytes block rest parts (omega arith)
    (omega arith) (omega arith) (omega arith) c.in-Some.ensures
    (rw c.word-len.ensures at c.is_taken.ensures.0 c.if-not-is_taken.false) in
    record {
      has_unit = record {
        unit = block;
        parts = parts;
        is_unit = record {
          order = order;
          has_order = whole.0;
          block = whole.1;
          fits = whole.2;
          next = c.read_block.new.section;
          reads = c.in-Ok.ensures.reads;
          becomes = refl;
        };
      };
      is_on = λ some. (order, whole.0, c.in-Ok.ensures.on some);
    }

pub returns-in-Ok-clause-at : goal.returns-in-Ok-clause-at
returns-in-Ok-clause-at c =
    stands_prefix c.args.bytes.now c.split_at.result.0.now c.split_at.result.1.now _ _
    c.split_at.ensures.by_index.0 c.in-Ok.ensures.at

pub returns-in-Err-clause-refused : goal.returns-in-Err-clause-refused
returns-in-Err-clause-refused c =
    let bytes = c.args.bytes.now in
    let block = c.split_at.result.0.now in
    let rest = c.split_at.result.1.now in
    let order = c.in-Some.order in
    let parts = c.split_at.ensures.by_index.0 in
    let whole = whole_block c.args.section.now.order order bytes block rest parts (omega arith)
    (omega arith) (omega arith) (omega arith) c.in-Some.ensures
    (rw c.word-len.ensures at c.is_taken.ensures.0 c.if-not-is_taken.false) in (
      refused_at c.args.section.now order bytes block rest c.in-Err.error parts
          whole.2 whole.0 whole.1 (omega arith) c.in-Err.ensures.refused.0,
      c.in-Err.ensures.refused.1,
    )
