use Rattle.std.proofs.Common.{[], ◌∷◌, refl}
use Rattle.tcp_streams.specs.Counting.{arrival}
use Rattle.tcp_streams.proofs.CountingLemmas.{counts_followed, counts_stopped}
use Rattle.tcp_streams.proofs.stream_counter.StreamCounter.add.Goals as goal

pub returns-in-None-clause-counts : goal.returns-in-None-clause-counts
returns-in-None-clause-counts c kept arrivals counted =
    counts_stopped kept c.args.self.now c.args.self.now arrivals
    (arrival c.args.direction c.args.sequence_number c.args.acknowledgment c.args.flags c.args.payload.now ∷ [])
    c.in-None.is refl refl counted

pub returns-in-Ok-clause-counts : goal.returns-in-Ok-clause-counts
returns-in-Ok-clause-counts c kept arrivals counted =
    rw c.count.ensures (counts_followed kept c.args.self.now c.follow.new.follower arrivals
    (arrival c.args.direction c.args.sequence_number c.args.acknowledgment c.args.flags c.args.payload.now)
    c.in-Some.follower c.in-Ok.followed.segment c.in-Ok.followed.missing c.in-Some.is c.follow.ensures.window
    c.in-Ok.ensures.followed counted)
