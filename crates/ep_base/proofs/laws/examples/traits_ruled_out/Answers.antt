use Rattle.std.proofs.Common.{arith, refl}
use Rattle.ep_base.proofs.laws.examples.traits_ruled_out.Goals as goal

pub returns-clause-copies : goal.returns-clause-copies
returns-clause-copies c = λ h. absurd (omega (arith, h 0 1 tt))

pub returns-clause-equals : goal.returns-clause-equals
returns-clause-equals c = λ h. absurd (omega (arith, (h 0 2).0 refl))

pub returns-clause-order : goal.returns-clause-order
returns-clause-order c = λ h. let turned_round = h 0 1 in cc

pub returns-clause-fails : goal.returns-clause-fails
returns-clause-fails c = λ h. absurd (omega (arith, h 1))

pub returns-clause-hash : goal.returns-clause-hash
returns-clause-hash c = λ h. let nothing_fed = h 0 in cc

pub returns-clause-default : goal.returns-clause-default
returns-clause-default c = λ h. absurd (omega (arith, h 1 tt))

pub returns-clause-variant : goal.returns-clause-variant
returns-clause-variant c = λ h. let no_index_fed = h 0 in cc
