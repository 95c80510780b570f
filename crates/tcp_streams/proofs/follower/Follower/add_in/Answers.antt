use Rattle.std.proofs.Common.{◌≡◌, ◌∙◌, ap, false, sym, true}
use Rattle.tcp_streams.specs.Following.{connection_segment, control_on, counts}
use Rattle.tcp_streams.proofs.FollowLemmas.{followed_if_ok, followed_left_out, follows_if_ok, follows_left_out}
use Rattle.tcp_streams.proofs.follower.Follower.add_in.Goals as goal

pub returns-then-counts-clause-follows : goal.returns-then-counts-clause-follows
returns-then-counts-clause-follows c earlier was =
    let s = connection_segment c.args.direction c.args.sequence_number c.args.flags c.args.ack c.args.payload.now in
    let does : counts (control_on s) ≡ true = ap counts (sym c.of_flags-control.ensures) ∙ sym c.counts.ensures ∙ c.if-counts.true in
    follows_if_ok c.take_counted.result c.args.self.now.window c.take_counted.new.self earlier s does
    (c.take_counted.ensures.follows _ was c.args.ack c.of_flags-control.ensures)

pub returns-then-counts-clause-followed : goal.returns-then-counts-clause-followed
returns-then-counts-clause-followed c earlier was =
    let s = connection_segment c.args.direction c.args.sequence_number c.args.flags c.args.ack c.args.payload.now in
    let does : counts (control_on s) ≡ true = ap counts (sym c.of_flags-control.ensures) ∙ sym c.counts.ensures ∙ c.if-counts.true in
    followed_if_ok c.take_counted.result c.args.self.now.window earlier s does
    (c.take_counted.ensures.followed _ was c.args.ack c.of_flags-control.ensures)

pub returns-then-counts-clause-err : goal.returns-then-counts-clause-err
returns-then-counts-clause-err c earlier was =
    rw c.of_flags-control.ensures at (c.take_counted.ensures.err _ was)

pub returns-else-counts-clause-follows : goal.returns-else-counts-clause-follows
returns-else-counts-clause-follows c earlier was =
    let s = connection_segment c.args.direction c.args.sequence_number c.args.flags c.args.ack c.args.payload.now in
    let does : counts (control_on s) ≡ false = ap counts (sym c.of_flags-control.ensures) ∙ sym c.counts.ensures ∙ c.if-counts.false in
    follows_left_out c.args.self.now.window c.args.self.now earlier s does was

pub returns-else-counts-clause-followed : goal.returns-else-counts-clause-followed
returns-else-counts-clause-followed c earlier was =
    let s = connection_segment c.args.direction c.args.sequence_number c.args.flags c.args.ack c.args.payload.now in
    let does : counts (control_on s) ≡ false = ap counts (sym c.of_flags-control.ensures) ∙ sym c.counts.ensures ∙ c.if-counts.false in
    followed_left_out c.left_out.result c.args.self.now.window earlier s does (c.left_out.ensures.nothing _ was)
