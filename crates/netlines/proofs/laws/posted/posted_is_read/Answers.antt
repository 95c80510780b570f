use Rattle.std.proofs.Common.{ap, [], ◌∷◌}
use Rattle.netlines.proofs.PostedFrames.{frame_is_refused, frame_is_whole}
use Rattle.netlines.proofs.PostedFragments.{posted_classes}
use Rattle.netlines.proofs.UnrefusedLemmas.{carried_whole}
use Rattle.netlines.proofs.laws.posted.posted_is_read.Goals as goal

pub returns-clause-whole : goal.returns-clause-whole
returns-clause-whole c =
    λ letter message read fit sent is.
    ap (λ class. class ∷ [])
    (frame_is_whole letter c.built_frames_are_read.ensures.whole fit message read
    (carried_whole letter message sent) is)

pub returns-clause-refused : goal.returns-clause-refused
returns-clause-refused c =
    λ letter message e fit sent is.
    ap (λ class. class ∷ [])
    (frame_is_refused letter c.built_frames_are_read.ensures.refused fit message e
    (carried_whole letter message sent) is)

pub returns-clause-cut : goal.returns-clause-cut
returns-clause-cut c =
    λ letter message cuts fit.
    posted_classes letter c.built_frames_are_read.ensures.as_fragment fit message cuts
