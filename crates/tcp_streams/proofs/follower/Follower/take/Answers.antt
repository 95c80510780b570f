use Rattle.tcp_streams.specs.Segments.{segment}
use Rattle.tcp_streams.proofs.FollowLemmas.{takes_higher, takes_lower}
use Rattle.tcp_streams.proofs.follower.Follower.take.Goals as goal

pub returns-in-FromLower-clause-taken : goal.returns-in-FromLower-clause-taken
returns-in-FromLower-clause-taken c connection was =
    let s = segment c.args.sequence_number c.args.flags c.args.payload.now in
    rw c.in-FromLower.is (takes_lower c.args.self.now c.take.new.buf connection s c.take.result was
    (c.take.ensures connection.from_lower was.from_lower))

pub returns-in-FromHigher-clause-taken : goal.returns-in-FromHigher-clause-taken
returns-in-FromHigher-clause-taken c connection was =
    let s = segment c.args.sequence_number c.args.flags c.args.payload.now in
    rw c.in-FromHigher.is (takes_higher c.args.self.now c.take-in-FromHigher.new.buf connection s
    c.take-in-FromHigher.result was (c.take-in-FromHigher.ensures connection.from_higher was.from_higher))
