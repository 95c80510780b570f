use Rattle.std.proofs.Common.{refl}
use Rattle.ep_base.specs.Sum.{fold, total}
use Rattle.ep_base.proofs.checksum.Sum16BitWords.new.Goals as goal

pub returns-clause-value : goal.returns-clause-value
unfolding fold
returns-clause-value c = refl

pub returns-clause-text : goal.returns-clause-text
unfolding fold total
returns-clause-text c = refl
