use Rattle.std.proofs.Common.{◌∙◌, ap, length}
use Rattle.netlines_c.proofs.FrameSessionLemmas.{answers_ended, taken_took, taken_written, ended_alike, took_of}
use Rattle.netlines_c.proofs.session.netlines_feed.Goals as goal

pub returns-then-has_ended-clause-session : goal.returns-then-has_ended-clause-session
returns-then-has_ended-clause-session c is_open = (
  _,
  c.put.ensures.held,
  taken_written c.args.session.now _ c.requires c.if-not-session.false
      c.taken-frame_session.ensures.frame_session,
)

pub returns-in-Ok-clause-answered : goal.returns-in-Ok-clause-answered
returns-in-Ok-clause-answered c text returned took zero =
    let is = c.take.ensures.going in
    let taken = taken_took _ _ _ text returned took c.taken-frame_session.ensures.frame_session in
    let went = c.in-Ok.ensures.took text returned (took_of _ _ text returned c.deref_mut.ensures.value
    taken) in
    let out = c.return_answers.ensures.answered _ returned went zero in
    (out.0, ended_alike _ _ _ _ _ is out.1, out.2 ∙ answers_ended _ _ _ is)

pub returns-in-Ok-clause-no_room : goal.returns-in-Ok-clause-no_room
returns-in-Ok-clause-no_room c text returned took one =
    let is = c.take.ensures.going in
    let taken = taken_took _ _ _ text returned took c.taken-frame_session.ensures.frame_session in
    let went = c.in-Ok.ensures.took text returned (took_of _ _ text returned c.deref_mut.ensures.value
    taken) in
    let out = c.return_answers.ensures.no_room _ returned went one in
    (out.0, out.1, ended_alike _ _ _ _ _ is out.2, out.3 ∙ ap length (answers_ended _ _ _ is))
