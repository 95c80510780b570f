use Rattle.packets.proofs.run.rules.drop_idle.Goals as goal

pub returns-in_default-clause-datagrams : goal.returns-in_default-clause-datagrams
returns-in_default-clause-datagrams g c lists shows = rw c.in_default.is shows

pub returns-in_default-go_on-clause-datagrams : goal.returns-in_default-go_on-clause-datagrams
returns-in_default-go_on-clause-datagrams g c lists shows =
    rw (c.in-Some.is, ← c.go_on.ensures.passed, c.in_default-go_on.is) shows

pub returns-in_default-clause-order : goal.returns-in_default-clause-order
returns-in_default-clause-order g c lists order shows has = rw c.in_default.is has

pub returns-in_default-go_on-clause-order : goal.returns-in_default-go_on-clause-order
returns-in_default-go_on-clause-order g c lists order shows has =
    rw (c.in-Some.is, ← c.go_on.ensures.passed, c.in_default-go_on.is) has

pub returns-in-Some-go_on-clause-order : goal.returns-in-Some-go_on-clause-order
returns-in-Some-go_on-clause-order g c lists order shows has =
    rw (c.in-Some.is, ← c.go_on.ensures.passed, c.in-Some-go_on.is)
    (c.forget_before.ensures.order lists order shows has)
