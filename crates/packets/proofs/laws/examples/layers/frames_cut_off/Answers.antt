use Rattle.std.proofs.Common.{refl}
use Rattle.ep_packet.specs.Tags.{tags_in}
use Rattle.packets.proofs.laws.examples.layers.frames_cut_off.Goals as goal

pub returns-clause-made : goal.returns-clause-made
unfolding tags_in
returns-clause-made c = refl

pub returns-clause-own : goal.returns-clause-own
unfolding tags_in
returns-clause-own c = refl
