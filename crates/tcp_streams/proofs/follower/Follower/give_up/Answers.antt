use Rattle.tcp_streams.proofs.FollowLemmas.{follows_without}
use Rattle.tcp_streams.proofs.follower.Follower.give_up.Goals as goal

pub returns-clause-follows : goal.returns-clause-follows
returns-clause-follows c earlier was =
    follows_without c.args.self.now.window c.give_up_in.new.self earlier c.args.direction c.give_up_in.result
    (c.give_up_in.ensures.follows _ was)
