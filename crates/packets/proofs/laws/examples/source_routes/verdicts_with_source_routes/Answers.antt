use Rattle.std.proofs.Common.{refl}
use Rattle.ep_base.specs.Sum.{total}
use Rattle.ep_ipslice.specs.Ipv6Walk.{pieces_within}
use Rattle.packets.proofs.laws.examples.source_routes.verdicts_with_source_routes.Goals as goal

pub returns-clause-ipv4 : goal.returns-clause-ipv4
unfolding total
returns-clause-ipv4 c = refl

pub returns-clause-over_ipv4 : goal.returns-clause-over_ipv4
unfolding total
returns-clause-over_ipv4 c = (refl, refl)

pub returns-clause-over_ipv6 : goal.returns-clause-over_ipv6
unfolding total pieces_within
returns-clause-over_ipv6 c = (refl, refl, refl)

pub returns-clause-unknown : goal.returns-clause-unknown
unfolding total
returns-clause-unknown c = (refl, refl, refl, refl, refl)
