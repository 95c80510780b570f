use Rattle.std.proofs.Common.{◌∙◌, ap, inr, sym}
use Rattle.lines.specs.Sessions.{answers}
use Rattle.lines.proofs.SessionLemmas.{waits_more, runs_out_of_memory}
use Rattle.lines.proofs.session.Session.finish.Goals as goal

pub returns-in-Ok-clause-took : goal.returns-in-Ok-clause-took
returns-in-Ok-clause-took g c text returned took =
    let m = g.A.Answerer.meaning in
    let going = c.requires.going in
    record {
      goes_on = λ still. absurd (cc);
      waits = waits_more _ _ _ returned _ _ (c.in-Ok.ensures _ _ (took.goes_on going))
          (ap (λ b. answers m b text) (sym going) ∙ took.waits) (c.text_goes_on.ensures.end m text);
    }

pub returns-in-Err-clause-err : goal.returns-in-Err-clause-err
returns-in-Err-clause-err g c text returned took =
    inr (runs_out_of_memory g.A.Answerer.meaning c.args.self.now _ _ _ c.in-Err.field-0
    (c.in-Err.ensures _ _ (took.goes_on c.requires.going)))
