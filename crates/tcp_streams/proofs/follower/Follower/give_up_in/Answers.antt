use Rattle.tcp_streams.proofs.follower.Follower.give_up_in.Goals as goal

pub returns-in-FromLower-clause-follows : goal.returns-in-FromLower-clause-follows
returns-in-FromLower-clause-follows c connection was = rw c.in-FromLower.is record {
  state = was.state;
  from_lower = c.give_up.ensures.shows connection.from_lower was.from_lower;
  from_higher = was.from_higher;
}

pub returns-in-FromHigher-clause-follows : goal.returns-in-FromHigher-clause-follows
returns-in-FromHigher-clause-follows c connection was = rw c.in-FromHigher.is record {
  state = was.state;
  from_lower = was.from_lower;
  from_higher = c.give_up-in-FromHigher.ensures.shows connection.from_higher was.from_higher;
}
