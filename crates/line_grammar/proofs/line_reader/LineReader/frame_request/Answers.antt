use Rattle.std.proofs.Common.{refl, ◌∙◌, sym, ap, arith, ℕ, ◌<◌, ◌≤◌, List, take, length}
use Rattle.line_grammar.specs.Commands.Command.{Frame}
use Rattle.line_grammar.proofs.DigitLemmas.{frame_requested, half_requested, no_pair_requested, positive}
use Rattle.line_grammar.proofs.line_reader.LineReader.frame_request.Goals as goal

pub returns-then-digits-eq0-clause-command : goal.returns-then-digits-eq0-clause-command
returns-then-digits-eq0-clause-command c prefix reads =
    sym (no_pair_requested prefix c.args.digits c.args.self.now.frame.items reads c.requires
    (omega arith) c.args.digits.half refl)

pub returns-in-Some-clause-command : goal.returns-in-Some-clause-command
returns-in-Some-clause-command c prefix reads =
    sym (half_requested prefix c.args.digits c.args.self.now.frame.items reads c.requires
    c.in-Some.field-0 c.in-Some.is)

pub returns-in-None-clause-command : goal.returns-in-None-clause-command
returns-in-None-clause-command c prefix reads =
    let digits = c.args.digits in
    let frame = c.args.self.now.frame.items in
    let some : 0 < digits.pairs = positive digits.pairs c.if-digits-eq0.false in
    let room : digits.pairs ≤ length frame = omega (arith, c.requires, c.as_slice.ensures.len) in
    ap (λ (l : List ℕ). Frame digits.channel (take digits.pairs l)) c.as_slice.ensures.value
    ∙ sym (frame_requested prefix digits frame reads c.requires some room c.in-None.is)
