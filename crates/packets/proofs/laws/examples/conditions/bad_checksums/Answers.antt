use Rattle.std.proofs.Common.{refl}
use Rattle.ep_base.specs.Sum.{total}
use Rattle.packets.proofs.laws.examples.conditions.bad_checksums.Goals as goal

pub returns-clause-completing : goal.returns-clause-completing
unfolding total
returns-clause-completing c = (refl, refl)
