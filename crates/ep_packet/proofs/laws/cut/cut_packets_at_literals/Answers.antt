use Rattle.std.proofs.Common.{refl}
use Rattle.ep_packet.specs.Tags.{tags_in}
use Rattle.ep_packet.proofs.laws.cut.cut_packets_at_literals.Goals as goal

pub returns-clause-found : goal.returns-clause-found
unfolding tags_in
returns-clause-found c = refl

pub returns-clause-headers : goal.returns-clause-headers
returns-clause-headers c = refl

pub returns-clause-short : goal.returns-clause-short
returns-clause-short c = refl

pub returns-clause-whole : goal.returns-clause-whole
returns-clause-whole c = refl
