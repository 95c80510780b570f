use Rattle.std.proofs.Common.{◌∙◌}
use Rattle.tcp_streams.specs.Following.{side_in}
use Rattle.tcp_streams.proofs.FollowLemmas.{anew_same}
use Rattle.tcp_streams.proofs.follower.Follower.begins_anew.Goals as goal

pub returns : goal.returns
returns c connection follows =
    c.begins_anew.ensures
    ∙ anew_same c.args.self.now.state connection.state c.start.result (side_in c.args.direction connection).start
    c.args.sequence_number c.args.control follows.state
    (c.start.ensures ∙ (c.buf.ensures.shows connection follows).start)
