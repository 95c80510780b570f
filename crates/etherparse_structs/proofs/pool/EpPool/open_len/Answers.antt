use Rattle.std.proofs.Common.{refl}
use Rattle.etherparse_structs.proofs.PoolLemmas.{put_keeps, taken_show}
use Rattle.etherparse_structs.proofs.pool.EpPool.open_len.Goals as goal

pub returns-clause-counted : goal.returns-clause-counted
returns-clause-counted c lists kept keeps =
    let held = c.taken-frames.ensures.frames in (
      put_keeps _ _ lists kept c.put.ensures.held c.put.ensures.opened
          (taken_show _ _ _ lists kept keeps held refl),
      c.open_len-count.ensures lists (taken_show _ _ _ lists kept keeps held c.deref.ensures).shows,
    )
