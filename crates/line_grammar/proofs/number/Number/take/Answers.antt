use Rattle.std.proofs.Common.{◌++◌}
use Rattle.line_grammar.proofs.NumberLemmas.{goes_too_far}
use Rattle.line_grammar.proofs.number.Number.take.Goals as goal

pub returns-in_default-with_digit-clause-reads : goal.returns-in_default-with_digit-clause-reads
returns-in_default-with_digit-clause-reads c digits reads =
    let goes = c.digits.invariant.reads digits reads in
    goes_too_far digits c.args.bytes.now c.digits.number c.digits.rest.now goes
    c.in-Some.byte.now c.in-Some.later.now c.in-Some.ensures.cases.0 c.args.most
    (c.in_default-with_digit.ensures.reads (digits ++ goes.more) goes.reads c.in-Some.later.now)
