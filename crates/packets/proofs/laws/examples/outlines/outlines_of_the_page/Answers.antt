use Rattle.std.proofs.Common.{refl}
use Rattle.ep_packet.specs.LaxTags.{lax_tags_in}
use Rattle.packets.proofs.laws.examples.outlines.outlines_of_the_page.Goals as goal

pub returns-clause-eighth : goal.returns-clause-eighth
unfolding lax_tags_in
returns-clause-eighth c = refl

pub returns-clause-seventh : goal.returns-clause-seventh
unfolding lax_tags_in
returns-clause-seventh c = refl
