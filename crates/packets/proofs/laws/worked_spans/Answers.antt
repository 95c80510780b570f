use Rattle.std.proofs.Common.{refl}
use Rattle.packets.proofs.laws.worked_spans.Goals as goal

pub returns-clause-first : goal.returns-clause-first
returns-clause-first c = λ packet memory time. rw (time 100, time 105) refl

pub returns-clause-second : goal.returns-clause-second
returns-clause-second c = λ packet memory time.
    rw (time 100, time 105, time 110, time 119, time 90) refl

pub returns-clause-third : goal.returns-clause-third
returns-clause-third c = λ packet memory time.
    rw (time 100, time 105, time 110, time 119, time 90, time 121) refl
