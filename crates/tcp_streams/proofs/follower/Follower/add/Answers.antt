use Rattle.tcp_streams.specs.Following.{connection_segment}
use Rattle.tcp_streams.proofs.FollowLemmas.{follows_after}
use Rattle.tcp_streams.proofs.follower.Follower.add.Goals as goal

pub returns-clause-follows : goal.returns-clause-follows
returns-clause-follows c earlier was =
    follows_after c.add_in.result c.args.self.now.window c.add_in.new.self earlier
    (connection_segment c.args.direction c.args.sequence_number c.args.flags c.args.ack c.args.payload.now)
    (c.add_in.ensures.follows _ was)
