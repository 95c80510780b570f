use Rattle.std.proofs.Common.{refl}
use Rattle.ep_ipslice.specs.Ipv6Walk.{pieces_within}
use Rattle.packets.proofs.laws.examples.original_datagrams.errors_over_ipv4.Goals as goal

pub returns-clause-other_version : goal.returns-clause-other_version
unfolding pieces_within
returns-clause-other_version c = refl
