use Rattle.std.proofs.Common.{refl}
use Rattle.ep_packet.specs.Tags.{tags_in}
use Rattle.ep_packet.proofs.laws.sliced.classes_at_literals.Goals as goal

pub returns-clause-whole : goal.returns-clause-whole
unfolding tags_in
returns-clause-whole c = refl

pub returns-clause-fragment : goal.returns-clause-fragment
unfolding tags_in
returns-clause-fragment c = refl

pub returns-clause-unknown : goal.returns-clause-unknown
unfolding tags_in
returns-clause-unknown c = refl

pub returns-clause-arp : goal.returns-clause-arp
unfolding tags_in
returns-clause-arp c = refl

pub returns-clause-cut_off : goal.returns-clause-cut_off
unfolding tags_in
returns-clause-cut_off c = refl

pub returns-clause-too_short : goal.returns-clause-too_short
unfolding tags_in
returns-clause-too_short c = refl
