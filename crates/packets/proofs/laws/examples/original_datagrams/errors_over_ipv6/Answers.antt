use Rattle.std.proofs.Common.{refl}
use Rattle.ep_ipslice.specs.Ipv6Walk.{pieces_within}
use Rattle.packets.proofs.laws.examples.original_datagrams.errors_over_ipv6.Goals as goal

pub returns-clause-too_big : goal.returns-clause-too_big
unfolding pieces_within
returns-clause-too_big c = refl
