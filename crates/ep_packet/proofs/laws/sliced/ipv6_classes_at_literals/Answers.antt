use Rattle.std.proofs.Common.{refl}
use Rattle.ep_ipslice.specs.Ipv6Walk.{pieces_within}
use Rattle.ep_packet.specs.Tags.{tags_in}
use Rattle.ep_packet.proofs.laws.sliced.ipv6_classes_at_literals.Goals as goal

pub returns-clause-fragment : goal.returns-clause-fragment
unfolding tags_in pieces_within
returns-clause-fragment c = refl

pub returns-clause-later : goal.returns-clause-later
unfolding tags_in pieces_within
returns-clause-later c = refl
