use Rattle.ep_base.proofs.MessageSums.{checksum_sums, no_zero_sums}
use Rattle.ep_base.proofs.laws.sums.checksum_sums_to_all_ones.Goals as goal

pub returns-clause-complement : goal.returns-clause-complement
returns-clause-complement c = checksum_sums

pub returns-clause-no_zero : goal.returns-clause-no_zero
returns-clause-no_zero c = no_zero_sums
