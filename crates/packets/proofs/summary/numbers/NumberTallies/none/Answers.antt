use Rattle.packets.proofs.summary.numbers.NumberTallies.none.Goals as goal

pub returns : goal.returns
returns c = λ number small. c.no_tallies.ensures.none number
