use Rattle.std.proofs.Common.{◌∙◌}
use Rattle.std.proofs.lemmas.Result.{err_from_is_err_and}
use Rattle.netlines.proofs.AnswerLemmas.{answered_lists, answered_memory, answered_line}
use Rattle.netlines.proofs.frames.frame_answerer.FrameAnswererAnswerer.end.Goals as goal

pub returns-in_err-end-clause-answers : goal.returns-in_err-end-clause-answers
returns-in_err-end-clause-answers g c earlier line shows numbered =
    let exit = err_from_is_err_and c.from_residual.result c.from_residual.ensures.1 in
    let memory_errors = answered_memory c.args.self.now.pool c.answer_request.new.pool c.args.number _ line
    earlier shows.0 numbered (c.request.ensures.command line shows.1)
    c.in_err-end.ensures.answers in
    rw (exit.1) memory_errors

pub returns-clause-answers : goal.returns-clause-answers
returns-clause-answers g c earlier line shows numbered =
    let answers = c.in_ok-end.ensures.answers in
    let command = c.request.ensures.command line shows.1 in (
      c.append.ensures.text
          ∙ answered_line c.args.self.now.pool c.answer_request.new.pool c.args.number _ line
          earlier shows.0 numbered command _ (λ lists shows. (answers lists shows).0),
      (
        answered_lists c.args.self.now.pool c.answer_request.new.pool c.args.number _ line earlier
            shows.0 numbered command (λ lists shows. (answers lists shows).1),
        c.restart.ensures,
      ),
    )
