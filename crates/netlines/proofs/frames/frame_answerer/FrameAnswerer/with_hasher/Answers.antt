use Rattle.netlines.proofs.AnswerLemmas.{new_shows}
use Rattle.netlines.proofs.frames.frame_answerer.FrameAnswerer.with_hasher.Goals as goal

pub returns-clause-pool : goal.returns-clause-pool
returns-clause-pool g c =
    new_shows c.with_hasher.result c.a_new_pool_shows_no_lists.ensures c.with_hasher.ensures.reassemblies
