use Rattle.packets.proofs.RateLemmas.{zeros-at}
use Rattle.packets.proofs.summary.rate.no_counts.Goals as goal

pub returns-clause-zero : goal.returns-clause-zero
returns-clause-zero c = λ k. zeros-at 64 k
