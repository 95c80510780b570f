use Rattle.std.proofs.Common.{refl}
use Rattle.ep_base.specs.Sum.{total}
use Rattle.packets.proofs.laws.examples.header_verdicts.checksums_of_headers.Goals as goal

pub returns-clause-right : goal.returns-clause-right
unfolding total
returns-clause-right c = refl

pub returns-clause-wrong : goal.returns-clause-wrong
unfolding total
returns-clause-wrong c = refl
