use Rattle.std.proofs.Common.{refl, arith, inl, inr}
use Rattle.packets.proofs.laws.worked_limits.Goals as goal

pub returns-clause-in_time : goal.returns-clause-in_time
returns-clause-in_time c = λ packet time. rw (time 100, time 97, time 102) (refl, (refl, tt))

pub returns-clause-not_in_time : goal.returns-clause-not_in_time
returns-clause-not_in_time c = λ packet time are.
    let late = rw (time 100, time 102) at are.1.0 in absurd (cc late)

pub returns-clause-fewer : goal.returns-clause-fewer
returns-clause-fewer c packet = inr (omega arith)

pub returns-clause-not_fewer : goal.returns-clause-not_fewer
returns-clause-not_fewer c packet (inl none) = absurd (cc none)
returns-clause-not_fewer c packet (inr fewer) = omega (arith, fewer)
