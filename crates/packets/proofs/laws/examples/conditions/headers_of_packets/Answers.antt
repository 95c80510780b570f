use Rattle.std.proofs.Common.{refl}
use Rattle.ep_packet.specs.LaxTags.{lax_tags_in}
use Rattle.packets.proofs.laws.examples.conditions.headers_of_packets.Goals as goal

pub returns-clause-refused : goal.returns-clause-refused
unfolding lax_tags_in
returns-clause-refused c = (refl, refl, refl, refl, refl)
