use Rattle.std.proofs.Common.{refl}
use Rattle.ep_base.specs.Sum.{total}
use Rattle.checksum_verdicts.proofs.laws.verdicts_at_literal_values.Goals as goal

-- the sums of literals
pub returns-clause-udp : goal.returns-clause-udp
unfolding total
returns-clause-udp c = refl

pub returns-clause-tcp : goal.returns-clause-tcp
unfolding total
returns-clause-tcp c = refl

pub returns-clause-icmpv6 : goal.returns-clause-icmpv6
unfolding total
returns-clause-icmpv6 c = refl

pub returns-clause-icmpv4 : goal.returns-clause-icmpv4
unfolding total
returns-clause-icmpv4 c = refl

pub returns-clause-zeros : goal.returns-clause-zeros
unfolding total
returns-clause-zeros c = refl
