use Rattle.packets.proofs.BucketLemmas.{tallies-none}
use Rattle.packets.proofs.summary.numbers.no_tallies.Goals as goal

pub returns-clause-none : goal.returns-clause-none
returns-clause-none c = λ k. tallies-none 256 k
