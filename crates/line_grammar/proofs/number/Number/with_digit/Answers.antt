use Rattle.std.proofs.Common.{arith}
use Rattle.line_grammar.proofs.NumberLemmas.{none_is, number_more, some_is, too_great, too_many}
use Rattle.line_grammar.proofs.number.Number.with_digit.Goals as goal

pub returns-then-self-most-clause-reads : goal.returns-then-self-most-clause-reads
returns-then-self-most-clause-reads c digits reads rest =
    too_many digits c.args.self reads c.args.digit c.requires c.args.most c.if-self-most.true rest

pub returns-in_default-clause-reads : goal.returns-in_default-clause-reads
returns-in_default-clause-reads c digits reads rest =
    too_great digits c.args.self reads c.args.digit c.requires c.args.most
    (λ fits. none_is c.checked_mul.result _ c.checked_mul.ensures c.in_default.is (omega arith))
    rest

pub returns-in_default-checked_add-clause-reads : goal.returns-in_default-checked_add-clause-reads
returns-in_default-checked_add-clause-reads c digits reads rest =
    let tens = some_is _ c.checked_mul.result _ c.in-Some.tens c.checked_mul.ensures c.in-Some.is in
    let digit = c.from.ensures in
    too_great digits c.args.self reads c.args.digit c.requires c.args.most
    (λ fits. none_is c.checked_add.result _ c.checked_add.ensures c.in_default-checked_add.is
    (omega arith))
    rest

pub returns-clause-reads : goal.returns-clause-reads
returns-clause-reads c digits reads =
    let tens = some_is _ c.checked_mul.result _ c.in-Some.tens c.checked_mul.ensures c.in-Some.is in
    let value = some_is _ c.checked_add.result _ c.in-Some-checked_add.value c.checked_add.ensures
    c.in-Some-checked_add.is in
    let digit = c.from.ensures in
    number_more digits c.args.self reads c.args.digit c.requires _ (omega arith) (omega arith)
