use Rattle.std.proofs.Common.{refl}
use Rattle.ep_packet.specs.Tags.{tags_in}
use Rattle.ep_packet.proofs.laws.sliced.tags_at_literals.Goals as goal

pub returns-clause-four : goal.returns-clause-four
unfolding tags_in
returns-clause-four c = refl

pub returns-clause-modified : goal.returns-clause-modified
unfolding tags_in
returns-clause-modified c = refl

pub returns-clause-cut_off : goal.returns-clause-cut_off
unfolding tags_in
returns-clause-cut_off c = refl
