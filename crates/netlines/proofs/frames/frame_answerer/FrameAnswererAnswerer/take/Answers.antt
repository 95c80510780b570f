use Rattle.netlines.proofs.frames.frame_answerer.FrameAnswererAnswerer.take.Goals as goal

pub returns : goal.returns
returns g c earlier prefix shows = (shows.0, c.take.ensures prefix shows.1)
