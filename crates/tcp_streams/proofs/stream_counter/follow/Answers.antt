use Rattle.tcp_streams.proofs.stream_counter.follow.Goals as goal

pub returns-in-Ok-clause-followed : goal.returns-in-Ok-clause-followed
returns-in-Ok-clause-followed c connection was =
    let given = rw (c.other.ensures, c.number_of-number.ensures) at (c.give_up_all-missing.ensures.lost connection was) in
    let follows = rw (c.give_up_all-missing.ensures.window, c.is_some-ack.ensures) at (c.in-Ok.ensures.follows _ given.2) in
    let followed = rw (c.give_up_all-missing.ensures.window, c.is_some-ack.ensures) at (c.in-Ok.ensures.followed _ given.2) in
    (given.0, (record { lost = given.1; followed = followed }, follows, given.3))
