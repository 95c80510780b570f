use Rattle.std.proofs.Common.{refl}
use Rattle.ep_packet.specs.LaxTags.{lax_tags_in}
use Rattle.ep_packet.specs.Tags.{tags_in}
use Rattle.ep_packet.proofs.laws.stops.lengths_passed_over_at_literals.Goals as goal

pub returns-clause-short_refused : goal.returns-clause-short_refused
unfolding tags_in
returns-clause-short_refused c = refl

pub returns-clause-short : goal.returns-clause-short
unfolding lax_tags_in
returns-clause-short c = refl

pub returns-clause-total_refused : goal.returns-clause-total_refused
unfolding tags_in
returns-clause-total_refused c = refl

pub returns-clause-total : goal.returns-clause-total
unfolding lax_tags_in
returns-clause-total c = refl

pub returns-clause-datagram_refused : goal.returns-clause-datagram_refused
unfolding tags_in
returns-clause-datagram_refused c = refl

pub returns-clause-datagram : goal.returns-clause-datagram
unfolding lax_tags_in
returns-clause-datagram c = refl

pub returns-clause-udp_length : goal.returns-clause-udp_length
returns-clause-udp_length c = refl
