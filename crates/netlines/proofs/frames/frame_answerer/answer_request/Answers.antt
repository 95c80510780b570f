use Rattle.std.proofs.Common.{sym, ap, subst}
use Rattle.line_grammar.specs.Commands.{Command}
use Rattle.line_grammar.specs.Request.{as_command}
use Rattle.netlines.specs.PoolAnswers.{AnswersCommand}
use Rattle.netlines.proofs.frames.frame_answerer.answer_request.Goals as goal

pub returns-in-Frame-clause-answers : goal.returns-in-Frame-clause-answers
returns-in-Frame-clause-answers g c =
    subst (λ (k : Command). AnswersCommand c.args.pool.now c.answer_frame.new.pool c.args.number
    k c.answer_frame.new.out c.answer_frame.result) (ap as_command (sym c.in-Frame.is))
    c.answer_frame.ensures.answers
