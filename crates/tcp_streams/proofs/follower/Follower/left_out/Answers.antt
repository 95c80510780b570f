use Rattle.std.proofs.Common.{arith}
use Rattle.tcp_streams.specs.Following.{side_in}
use Rattle.tcp_streams.proofs.BufLemmas.{taken_in_text}
use Rattle.tcp_streams.proofs.follower.Follower.left_out.Goals as goal

pub returns-clause-kept : goal.returns-clause-kept
returns-clause-kept c connection follows =
    let side = side_in c.args.direction connection in
    let shows = (c.buf.ensures.shows connection follows).shows in
    let kept = rw c.buf.ensures.buf at (taken_in_text c.buf.result.now side.segments shows) in
    omega (arith, kept, c.available_end.ensures side.segments shows)
