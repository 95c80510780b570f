use Rattle.std.proofs.Common.{None, Some, ap}
use Rattle.etherparse_structs.specs.FramePool.{kept_of_message}
use Rattle.etherparse_structs.proofs.PoolLemmas.{kept_none, put_keeps, taken_show}
use Rattle.etherparse_structs.proofs.pool.EpPool.take.Goals as goal

pub returns-clause-taken : goal.returns-clause-taken
returns-clause-taken c lists kept keeps =
    let s = taken_show _ _ _ lists (Some kept) keeps c.taken-frames.ensures.frames
    c.deref_mut.ensures.value in
    let out = c.take_kept-reported.ensures.taken kept s.is_kept in (
      put_keeps _ _ lists _ c.put.ensures.held c.put.ensures.opened (record {
        shows = c.take_kept-reported.ensures.lists lists s.shows;
        is_kept = out.0;
      }),
      out.1,
      out.2,
    )

pub returns-clause-none : goal.returns-clause-none
returns-clause-none c lists keeps =
    let s = taken_show _ _ _ lists None keeps c.taken-frames.ensures.frames
    c.deref_mut.ensures.value in
    let out = c.take_kept-reported.ensures.none (kept_none _ s.is_kept) in (
      put_keeps _ _ lists None c.put.ensures.held c.put.ensures.opened (record {
        shows = c.take_kept-reported.ensures.lists lists s.shows;
        is_kept = ap kept_of_message out.0;
      }),
      out.1,
      out.2,
    )
