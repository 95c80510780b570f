use Rattle.std.proofs.Common.{refl}
use Rattle.ep_packet.specs.Tags.{tags_in}
use Rattle.packets.proofs.laws.examples.layers.frames_by_their_ether_types.Goals as goal

pub returns-clause-arp : goal.returns-clause-arp
unfolding tags_in
returns-clause-arp c = (refl, refl)

pub returns-clause-is_arp : goal.returns-clause-is_arp
unfolding tags_in
returns-clause-is_arp c = refl

pub returns-clause-made : goal.returns-clause-made
unfolding tags_in
returns-clause-made c = refl

pub returns-clause-is_made : goal.returns-clause-is_made
unfolding tags_in
returns-clause-is_made c = refl

pub returns-clause-other : goal.returns-clause-other
unfolding tags_in
returns-clause-other c = (refl, refl)

pub returns-clause-is_other : goal.returns-clause-is_other
unfolding tags_in
returns-clause-is_other c = refl

pub returns-clause-datagram : goal.returns-clause-datagram
unfolding tags_in
returns-clause-datagram c = refl

pub returns-clause-is_datagram : goal.returns-clause-is_datagram
unfolding tags_in
returns-clause-is_datagram c = refl
