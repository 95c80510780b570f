use Rattle.std.proofs.Common.{None, Some}
use Rattle.etherparse_structs.proofs.PoolLemmas.{answered_then, kept_none, kept_some, put_keeps, show_of, taken_show}
use Rattle.etherparse_structs.proofs.pool.EpPool.add.Goals as goal

pub returns-clause-answered : goal.returns-clause-answered
returns-clause-answered c lists keeps =
    let s = taken_show _ _ _ lists None keeps c.taken-frames.ensures.frames
    c.deref_mut.ensures.value in
    answered_then _ _ lists _ _ _ _ _ _ _ (λ l kept e.
    put_keeps _ _ l kept c.put.ensures.held c.put.ensures.opened
    (record { shows = e.0; is_kept = e.1 }))
    (c.take_frame-added.ensures.answered (kept_none _ s.is_kept) lists s.shows)

pub returns-clause-keeps : goal.returns-clause-keeps
returns-clause-keeps c lists kept keeps =
    let s = taken_show _ _ _ lists (Some kept) keeps c.taken-frames.ensures.frames
    c.deref_mut.ensures.value in
    let stays = c.take_frame-added.ensures.keeps (kept_some _ kept s.is_kept) in (
      put_keeps _ _ lists (Some kept) c.put.ensures.held c.put.ensures.opened
          (show_of _ _ lists (Some kept) stays.0 s),
      stays.1,
      stays.2,
    )
