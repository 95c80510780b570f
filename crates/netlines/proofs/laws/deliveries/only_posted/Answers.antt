use Rattle.netlines.proofs.OnlyPosted.{only_posted_out}
use Rattle.netlines.proofs.laws.deliveries.only_posted.Goals as goal

pub returns : goal.returns
returns c sent earlier line number verdict text all out =
    only_posted_out sent c.built_frames_are_read.ensures.as_fragment c.built_frames_are_read.ensures.whole
    c.built_frames_are_read.ensures.refused c.equal_names.ensures.same earlier line all number
    verdict text out
