use Rattle.std.proofs.Common.{refl}
use Rattle.ep_packet.specs.LaxTags.{lax_tags_in}
use Rattle.packets.proofs.laws.examples.lax_layers.frames_in_part.Goals as goal

pub returns-clause-datagram : goal.returns-clause-datagram
unfolding lax_tags_in
returns-clause-datagram c = (refl, refl, refl)

pub returns-clause-is_datagram : goal.returns-clause-is_datagram
unfolding lax_tags_in
returns-clause-is_datagram c = refl

pub returns-clause-made : goal.returns-clause-made
unfolding lax_tags_in
returns-clause-made c = refl

pub returns-clause-in_header : goal.returns-clause-in_header
unfolding lax_tags_in
returns-clause-in_header c = (refl, refl)

pub returns-clause-is_in_header : goal.returns-clause-is_in_header
unfolding lax_tags_in
returns-clause-is_in_header c = refl

pub returns-clause-stop_in_header : goal.returns-clause-stop_in_header
unfolding lax_tags_in
returns-clause-stop_in_header c = refl
