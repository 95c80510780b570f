use Rattle.std.proofs.Common.{◌∙◌, ap, inr, sym, ◌++◌}
use Rattle.lines.specs.Sessions.{answers}
use Rattle.lines.proofs.SessionLemmas.{started_more, waits_more, runs_out_of_memory}
use Rattle.lines.proofs.session.Session.take.Goals as goal

pub returns-in-Ok-clause-took : goal.returns-in-Ok-clause-took
returns-in-Ok-clause-took g c text returned took =
    let chunk = c.args.chunk.now in
    let m = g.A.Answerer.meaning in
    let going = c.requires.going in
    let law = c.text_goes_on.ensures in
    let prefix = took.goes_on going in
    record {
      goes_on = λ still. started_more _ _ _ text chunk (law.rest text chunk) (law.ended text chunk)
          (c.in-Ok.ensures.keeps _ _ prefix);
      waits = ap (λ b. answers m b (text ++ chunk)) going
          ∙ waits_more _ _ _ returned _ _ (c.in-Ok.ensures.serves _ _ prefix)
          (ap (λ b. answers m b text) (sym going) ∙ took.waits) (law.answers m text chunk);
    }

pub returns-in-Err-clause-err : goal.returns-in-Err-clause-err
returns-in-Err-clause-err g c text returned took =
    inr (runs_out_of_memory g.A.Answerer.meaning c.args.self.now _ _ _ c.in-Err.field-0
    (c.in-Err.ensures.serves _ _ (took.goes_on c.requires.going)))
