use Rattle.std.proofs.Common.{refl, arith, rules}
use Rattle.line_grammar.proofs.HeadLemmas.{head_read, no_head}
use Rattle.line_grammar.proofs.line_head.frame_head.Goals as goal
use Rattle.line_grammar.proofs.line_head.frame_head.Goals.{then-byte-ne32-via-then-byte-ne32}
use Rattle.line_grammar.proofs.line_head.frame_head.Goals.{then-byte-ne32-via-else-byte-ne32+then-number-eq0}

pub returns-then-byte-ne32-clause-reads : goal.returns-then-byte-ne32-clause-reads
returns-then-byte-ne32-clause-reads c prefix frame reads other =
    no_head prefix c.args.number reads c.args.byte other
    (λ space some fits. elim c.then-byte-ne32.branch [
      | then-byte-ne32-via-then-byte-ne32 w ↦ w.if-byte-ne32.true space
      | then-byte-ne32-via-else-byte-ne32+then-number-eq0 w ↦
          let none = w.if-number-eq0.true in omega arith
    ])

pub returns-in_default-clause-reads : goal.returns-in_default-clause-reads
returns-in_default-clause-reads c prefix frame reads other =
    no_head prefix c.args.number reads c.args.byte other
    (λ space some fits. search rules)

pub returns-clause-reads : goal.returns-clause-reads
returns-clause-reads c prefix frame reads other =
    let space = c.if-byte-ne32.false in
    let some = c.if-number-eq0.false in
    head_read prefix c.args.number reads c.args.byte (search rules) (search rules) c.requires
    (search rules) _ (search rules) (omega arith) refl refl frame
