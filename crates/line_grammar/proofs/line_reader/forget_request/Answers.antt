use Rattle.std.proofs.Common.{sym, rules}
use Rattle.line_grammar.proofs.HeadLemmas.{no_number_requests, number_requests}
use Rattle.line_grammar.proofs.line_reader.forget_request.Goals as goal

pub returns-then-number-eq0-clause-command : goal.returns-then-number-eq0-clause-command
returns-then-number-eq0-clause-command c prefix reads =
    sym (no_number_requests prefix c.args.number reads c.if-number-eq0.true)

pub returns-else-number-eq0-clause-command : goal.returns-else-number-eq0-clause-command
returns-else-number-eq0-clause-command c prefix reads =
    sym (number_requests prefix c.args.number reads c.if-number-eq0.false c.requires (search rules))
