use Rattle.std.proofs.Common.{rules, subst, ◌++◌}
use Rattle.line_grammar.specs.Prefixes.{IsWrong}
use Rattle.line_grammar.proofs.HeadLemmas.{head_and_rest, head_ends, head_goes, line_and_more, no_line}
use Rattle.line_grammar.proofs.line_head.take_line.Goals as goal

pub returns-in_default-clause-reads : goal.returns-in_default-clause-reads
returns-in_default-clause-reads c prefix frame reads =
    no_line prefix c.args.bytes.now c.args.number reads
    (c.in_default.ensures.reads reads.digits reads.reads)

pub returns-then-is_empty-clause-reads : goal.returns-then-is_empty-clause-reads
returns-then-is_empty-clause-reads c prefix frame reads =
    let run = c.in-Some.run' in
    let goes = c.in-Some.ensures.reads reads.digits reads.reads in
    head_ends _ prefix c.args.bytes.now run.rest.now c.args.number run.number reads goes.0
    (search rules)

pub returns-else-is_empty-clause-reads : goal.returns-else-is_empty-clause-reads
returns-else-is_empty-clause-reads c prefix frame reads =
    let run = c.in-Some.run' in
    let goes = c.in-Some.ensures.reads reads.digits reads.reads in
    let head = head_goes _ prefix c.args.bytes.now run.rest.now c.args.number run.number reads goes.0
    in
    subst IsWrong
    (head_and_rest _ prefix c.args.bytes.now run.rest.now c.args.number run.number reads goes.0)
    (line_and_more (prefix ++ goes.0.more) run.number run.rest.now head goes.1 (λ none. search rules))
