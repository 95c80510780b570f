use Rattle.captures.proofs.FramedLemmas.{found_back, found_frame}
use Rattle.captures.proofs.link.frame.framed.Goals as goal

pub returns-clause-back : goal.returns-clause-back
returns-clause-back c =
    found_back c.args.link c.args.packet.now c.frame_of.result c.frame_of.ensures

pub returns-clause-size : goal.returns-clause-size
returns-clause-size c =
    found_frame c.args.link c.args.packet.now c.frame_of.result c.frame_of.ensures
