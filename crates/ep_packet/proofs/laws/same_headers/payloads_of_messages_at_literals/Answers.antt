use Rattle.std.proofs.Common.{refl}
use Rattle.ep_icmp.specs.Icmpv4.{kind_at}
use Rattle.ep_packet.proofs.laws.same_headers.payloads_of_messages_at_literals.Goals as goal

pub returns-clause-icmpv4 : goal.returns-clause-icmpv4
unfolding kind_at
returns-clause-icmpv4 c = refl

pub returns-clause-timestamp : goal.returns-clause-timestamp
unfolding kind_at
returns-clause-timestamp c = refl
