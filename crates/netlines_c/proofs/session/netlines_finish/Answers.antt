use Rattle.std.proofs.Common.{◌∙◌, ap, length, sym}
use Rattle.netlines_c.proofs.FrameSessionLemmas.{ended_of, nothing_left, answers_ended, taken_took, ended_alike}
use Rattle.netlines_c.proofs.FrameSessionLemmas.{took_of}
use Rattle.netlines_c.proofs.session.netlines_finish.Goals as goal

pub returns-then-has_ended-clause-answered : goal.returns-then-has_ended-clause-answered
returns-then-has_ended-clause-answered c ended text returned took zero =
    let is = sym (ended_of _ _ c.deref.ensures) ∙ sym c.has_ended.ensures ∙ c.if-has_ended.true in
    let taken = taken_took _ ended _ text returned took c.taken-frame_session.ensures.frame_session in
    let out = c.return_answers.ensures.answered text returned taken zero in
    (out.0, ended_alike _ _ _ text _ is out.1, out.2 ∙ answers_ended _ _ text is)

pub returns-then-has_ended-clause-no_room : goal.returns-then-has_ended-clause-no_room
returns-then-has_ended-clause-no_room c ended text returned took one =
    let is = sym (ended_of _ _ c.deref.ensures) ∙ sym c.has_ended.ensures ∙ c.if-has_ended.true in
    let taken = taken_took _ ended _ text returned took c.taken-frame_session.ensures.frame_session in
    let out = c.return_answers.ensures.no_room text returned taken one in
    (out.0, out.1, ended_alike _ _ _ text _ is out.2, out.3 ∙ ap length (answers_ended _ _ text is))

pub returns-in-Ok-clause-answered : goal.returns-in-Ok-clause-answered
returns-in-Ok-clause-answered c ended text returned took zero =
    let is = c.finish.ensures.ended in
    let taken = taken_took _ ended _ text returned took c.taken-frame_session.ensures.frame_session in
    let went = c.in-Ok.ensures.took text returned (took_of _ _ text returned c.deref_mut.ensures.value
    taken) in
    let out = c.return_answers-in-Ok.ensures.answered text returned went zero in
    (out.0, ended_alike _ _ _ text _ is out.1, out.2 ∙ answers_ended _ _ text is)

pub returns-in-Ok-clause-no_room : goal.returns-in-Ok-clause-no_room
returns-in-Ok-clause-no_room c ended text returned took one =
    let is = c.finish.ensures.ended in
    let taken = taken_took _ ended _ text returned took c.taken-frame_session.ensures.frame_session in
    let went = c.in-Ok.ensures.took text returned (took_of _ _ text returned c.deref_mut.ensures.value
    taken) in
    let out = c.return_answers-in-Ok.ensures.no_room text returned went one in
    (out.0, out.1, ended_alike _ _ _ text _ is out.2, out.3 ∙ ap length (answers_ended _ _ text is))

pub returns-then-has_ended-clause-again : goal.returns-then-has_ended-clause-again
returns-then-has_ended-clause-again c text took =
    let is = sym (ended_of _ _ c.deref.ensures) ∙ sym c.has_ended.ensures ∙ c.if-has_ended.true in
    let taken = taken_took _ _ _ text _ took c.taken-frame_session.ensures.frame_session in
    nothing_left _ _ _ _ _ (sym (answers_ended _ _ text is))
    (λ zero. let out = c.return_answers.ensures.answered text _ taken zero in (out.0, out.2))
    (λ one. let out = c.return_answers.ensures.no_room text _ taken one in (out.0, out.3))
    c.return_answers.ensures.codes
