use Rattle.tcp_streams.specs.Following.{connection_segment}
use Rattle.tcp_streams.proofs.FollowLemmas.{follows_with, kept_with_state}
use Rattle.tcp_streams.proofs.follower.Follower.take_counted.Goals as goal

pub returns-in-Ok-clause-follows : goal.returns-in-Ok-clause-follows
returns-in-Ok-clause-follows c earlier was ack is =
    let since = rw is at (c.begin-begins_anew.ensures.follows _ was) in
    let taken = c.in-Ok.ensures.taken _ since in
    let state = rw is at c.after-state.ensures in
    follows_with c.args.self.now.window c.begin-begins_anew.new.self c.take.new.self earlier
    (connection_segment c.args.direction c.args.sequence_number c.args.flags ack c.args.payload.now)
    c.after-state.result c.begin-begins_anew.ensures.window since taken.0 state

pub returns-in-Ok-clause-followed : goal.returns-in-Ok-clause-followed
returns-in-Ok-clause-followed c earlier was ack is =
    let since = rw is at (c.begin-begins_anew.ensures.follows _ was) in
    let taken = rw c.begin-begins_anew.ensures.window at (c.in-Ok.ensures.taken _ since).1 in record {
      anew = rw is at (c.begin-begins_anew.ensures.anew _ was);
      taken = record {
        position = taken.position;
        gap = taken.gap;
        conflicts = taken.conflicts;
        repeated = taken.repeated;
        refused = taken.refused;
      };
    }

pub returns-in-Ok-clause-kept : goal.returns-in-Ok-clause-kept
returns-in-Ok-clause-kept c earlier was =
    kept_with_state c.args.direction c.take.new.self c.after-state.result c.in-Ok.taken.position
    (c.in-Ok.ensures.taken _ (c.begin-begins_anew.ensures.follows _ was)).2
