use Rattle.std.proofs.Common.{refl}
use Rattle.ep_ipslice.specs.Ipv6Walk.{pieces_within}
use Rattle.packets.proofs.laws.examples.source_routes.addresses_of_packets.Goals as goal

pub returns-clause-ipv6 : goal.returns-clause-ipv6
unfolding pieces_within
returns-clause-ipv6 c = refl
