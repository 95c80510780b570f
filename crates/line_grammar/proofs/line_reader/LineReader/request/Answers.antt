use Rattle.std.proofs.Common.{sym, ap, subst, arith, length}
use Rattle.line_grammar.specs.Prefixes.{StateFits, ReadsAt}
use Rattle.line_grammar.specs.declared.state.State.{State}
use Rattle.line_grammar.proofs.PrefixLemmas.{wrong_line}
use Rattle.line_grammar.proofs.HeadLemmas.{channel_requests}
use Rattle.line_grammar.proofs.WordLemmas.{short_prefix}
use Rattle.line_grammar.proofs.line_reader.LineReader.request.Goals as goal

pub returns-in-Word-clause-command : goal.returns-in-Word-clause-command
returns-in-Word-clause-command c prefix reads =
    let self = c.args.self.now in
    let at = subst (λ (p : State). ReadsAt prefix p self.frame.items) c.in-Word.is reads in
    let fits = subst StateFits c.in-Word.is self.state_fits in
    sym (short_prefix prefix (omega (arith, ap length at, fits.0)))

pub returns-in-Channel-clause-command : goal.returns-in-Channel-clause-command
returns-in-Channel-clause-command c prefix reads =
    sym (channel_requests prefix c.in-Channel.field-0
    (subst (λ (p : State). ReadsAt prefix p c.args.self.now.frame.items) c.in-Channel.is reads))

pub returns-in-Wrong-clause-command : goal.returns-in-Wrong-clause-command
returns-in-Wrong-clause-command c prefix reads =
    sym (wrong_line prefix
    (subst (λ (p : State). ReadsAt prefix p c.args.self.now.frame.items) c.in-Wrong.is reads))
