use Rattle.std.proofs.Common.{List, ℕ, sym, subst}
use Rattle.netlines.specs.Answers.{answer_after}
use Rattle.netlines.specs.Letter.{name_of}
use Rattle.netlines.specs.PostedInput.{AnswersAgree}
use Rattle.netlines.proofs.AllPosted.{posted_fragment_answered, fragment_returned, uncut_agrees}
use Rattle.netlines.proofs.FirstCover.{first_cover}
use Rattle.netlines.proofs.laws.deliveries.cut_and_uncut_agree.Goals as goal

pub returns-clause-message : goal.returns-clause-message
returns-clause-message c sent earlier line name channel f all has =
    posted_fragment_answered sent c.built_frames_are_read.ensures.as_fragment c.built_frames_are_read.ensures.whole
    c.built_frames_are_read.ensures.refused c.equal_names.ensures.same name channel earlier line
    all f has

pub returns-clause-agree : goal.returns-clause-agree
returns-clause-agree c sent earlier others line uncut frame letter channel other f all has out
    posted frame_is =
    let whole = c.built_frames_are_read.ensures.whole in
    let refused = c.built_frames_are_read.ensures.refused in
    subst (λ (a : List ℕ). AnswersAgree a (answer_after others uncut))
    (sym (fragment_returned sent c.built_frames_are_read.ensures.as_fragment whole refused
    c.equal_names.ensures.same (name_of letter) channel earlier line all f has out))
    (uncut_agrees sent whole refused letter (sent (name_of letter) channel) frame posted others
    uncut other frame_is)

pub returns-clause-first : goal.returns-clause-first
returns-clause-first c letter message cuts channel others between lines came line last fits sent cut
    none is given last_has_frame cover =
    first_cover letter message cuts c.built_frames_are_read.ensures.as_fragment fits sent cut channel
    c.equal_names.ensures.same others between lines came line last none is given last_has_frame cover
