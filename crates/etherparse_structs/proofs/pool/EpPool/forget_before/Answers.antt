use Rattle.std.proofs.Common.{◌∙◌, ap}
use Rattle.etherparse_structs.specs.FramePool.{kept_of_message}
use Rattle.etherparse_structs.proofs.PoolLemmas.{put_keeps, taken_show}
use Rattle.etherparse_structs.proofs.pool.EpPool.forget_before.Goals as goal

pub returns-clause-retained : goal.returns-clause-retained
returns-clause-retained c lists kept keeps =
    let s = taken_show _ _ _ lists kept keeps c.taken-frames.ensures.frames
    c.deref_mut.ensures.value in
    put_keeps _ _ _ kept c.put.ensures.held c.put.ensures.opened (record {
      shows = c.forget_before.ensures.lists lists s.shows;
      is_kept = ap kept_of_message c.forget_before.ensures.kept ∙ s.is_kept;
    })
