use Rattle.std.proofs.Common.{◌∙◌}
use Rattle.tcp_streams.proofs.FollowLemmas.{kept_after, lost_same, shows_without_lost}
use Rattle.tcp_streams.proofs.follower.give_up.Goals as goal

pub returns-clause-lost : goal.returns-clause-lost
returns-clause-lost c earlier was =
    let mid = c.forget.ensures.shows earlier was in
    let at = c.forget.ensures.taken earlier was in
    let found = c.give_up.ensures.lost earlier.segments mid.shows in
    (found.0, found.1, found.2 ∙ lost_same c.args.kept c.forget.new.buf earlier mid at found.0 c.args.number)

pub returns-clause-shows : goal.returns-clause-shows
returns-clause-shows c earlier was =
    let mid = c.forget.ensures.shows earlier was in
    let at = c.forget.ensures.taken earlier was in
    shows_without_lost c.args.kept c.forget.new.buf earlier mid at c.give_up.new.self c.give_up.result
    (c.give_up.ensures.shows earlier.segments mid.shows) c.give_up.ensures.start c.give_up.ensures.joined_late
    c.give_up.ensures.window c.give_up.ensures.taken

pub returns-clause-kept : goal.returns-clause-kept
returns-clause-kept c = kept_after c.give_up.result c.forget.new.buf.held.taken _ c.give_up.ensures.taken
