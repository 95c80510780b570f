use Rattle.std.proofs.Common.{arith}
use Rattle.ep_base.proofs.laws.examples.numbers_by_offset.Goals as goal

pub returns-clause-no_bytes : goal.returns-clause-no_bytes
returns-clause-no_bytes c = λ h. absurd (omega (arith, h 0))
