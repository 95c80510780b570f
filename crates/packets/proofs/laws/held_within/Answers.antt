use Rattle.packets.proofs.CourseLemmas.{next_within, nothing_waits, tracked_after}
use Rattle.packets.proofs.laws.held_within.Goals as goal

pub returns-clause-bounded : goal.returns-clause-bounded
returns-clause-bounded c = next_within

pub returns-clause-tracked : goal.returns-clause-tracked
returns-clause-tracked c forget memory packets =
    tracked_after c.equal_names.ensures.same forget memory packets

pub returns-clause-nothing : goal.returns-clause-nothing
returns-clause-nothing c forget packets name channel =
    nothing_waits c.equal_names.ensures.same forget packets name channel
