use Rattle.std.proofs.Common.{refl}
use Rattle.ep_packet.specs.Tags.{tags_in}
use Rattle.ep_packet.proofs.laws.sliced.cooked_packets_at_literals.Goals as goal

pub returns-clause-ipv4 : goal.returns-clause-ipv4
unfolding tags_in
returns-clause-ipv4 c = refl

pub returns-clause-cut_off : goal.returns-clause-cut_off
unfolding tags_in
returns-clause-cut_off c = refl
