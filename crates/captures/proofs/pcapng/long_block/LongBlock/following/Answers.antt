use Rattle.std.proofs.Common.{rules, ◌∙◌, sym}
use Rattle.captures.proofs.SkipLemmas.{held_after, refused_after, passed_here, no_origin}
use Rattle.captures.proofs.pcapng.long_block.LongBlock.following.Goals as goal

pub returns-then-rest-lt-SECOND_LEN-clause-comes : goal.returns-then-rest-lt-SECOND_LEN-clause-comes
returns-then-rest-lt-SECOND_LEN-clause-comes c state dropped d =
    held_after state c.args.self c.min-dropped.result _ dropped c.args.bytes.now
    c.split_at.result.0.now c.split_at.result.1.now d c.split_at.ensures.by_index.0
    c.split_at.ensures.front_len (search rules) (search rules)
    c.if-rest-lt-SECOND_LEN.true

pub returns-then-word-self-clause-comes : goal.returns-then-word-self-clause-comes
returns-then-word-self-clause-comes c state dropped d =
    refused_after state c.args.self c.min-dropped.result _ dropped c.args.bytes.now
    c.split_at.result.0.now c.split_at.result.1.now d c.split_at.ensures.by_index.0
    c.split_at.ensures.front_len (search rules) (search rules)
    c.if-rest-lt-SECOND_LEN.false (λ e. c.if-word-self.true (c.word.ensures ∙ e))

pub returns-clause-comes : goal.returns-clause-comes
returns-clause-comes c state dropped d =
    let passed = passed_here state c.args.self c.min-dropped.result _ dropped c.args.bytes.now
    c.split_at.result.0.now c.split_at.result.1.now d c.split_at.ensures.by_index.0
    c.split_at.ensures.front_len (search rules) c.if-rest-lt-SECOND_LEN.false
    (sym c.word.ensures ∙ c.if-word-self.false) (search rules) in
    (no_origin, passed.0, passed.1)
