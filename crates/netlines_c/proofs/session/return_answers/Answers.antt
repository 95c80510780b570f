use Rattle.std.proofs.Common.{◌∙◌, ap, length}
use Rattle.netlines_c.proofs.FrameSessionLemmas.{ended_of, put_took, answers_ended, took_of, written_of}
use Rattle.netlines_c.proofs.session.return_answers.Goals as goal

pub returns-then-is_out-clause-session : goal.returns-then-is_out-clause-session
returns-then-is_out-clause-session c is_open = (
  _,
  c.put.ensures.held,
  c.return_answers-is_out.ensures.written (written_of _ _
      c.deref_mut.ensures.value c.requires),
)

pub returns-then-is_out-clause-answered : goal.returns-then-is_out-clause-answered
returns-then-is_out-clause-answered c text returned took zero =
    let is = c.return_answers-is_out.ensures.going ∙ ended_of _ _ c.deref_mut.ensures.value in
    let out = c.return_answers-is_out.ensures.room c.if-is_out.true in
    let now = out.1 text returned (took_of _ _ text returned c.deref_mut.ensures.value took) in (
      out.0,
      put_took _ _ _ text _ c.put.ensures.held c.put.ensures.opened is now.0,
      now.1 ∙ answers_ended _ _ text is,
    )

pub returns-else-is_out-clause-session : goal.returns-else-is_out-clause-session
returns-else-is_out-clause-session c is_open = (
  _,
  c.put.ensures.held,
  c.return_answers-is_out.ensures.written (written_of _ _
      c.deref_mut.ensures.value c.requires),
)

pub returns-else-is_out-clause-no_room : goal.returns-else-is_out-clause-no_room
returns-else-is_out-clause-no_room c text returned took one =
    let is = c.return_answers-is_out.ensures.going ∙ ended_of _ _ c.deref_mut.ensures.value in
    let none = c.return_answers-is_out.ensures.none c.if-is_out.false in
    let now = none.2 text returned (took_of _ _ text returned c.deref_mut.ensures.value took) in (
      none.0,
      none.1,
      put_took _ _ _ text _ c.put.ensures.held c.put.ensures.opened is now.0,
      now.1 ∙ ap length (answers_ended _ _ text is),
    )
