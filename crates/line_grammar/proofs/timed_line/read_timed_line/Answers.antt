use Rattle.std.proofs.Common.{rules}
use Rattle.std.proofs.lemmas.List.{take_rest}
use Rattle.line_grammar.proofs.TimedLemmas.{after_frame, other_start}
use Rattle.line_grammar.proofs.timed_line.read_timed_line.Goals as goal

pub returns-then-not-starts_with-clause-frame : goal.returns-then-not-starts_with-clause-frame
returns-then-not-starts_with-clause-frame c = other_start c.args.line.now (search rules)

pub returns-clause-frame : goal.returns-clause-frame
returns-clause-frame c =
    rw (after_frame c.args.line.now _ (search rules) (take_rest c.args.line.now 6))
    c.channel_and_digits.ensures.frame
