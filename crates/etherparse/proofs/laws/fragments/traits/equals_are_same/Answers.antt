use Rattle.etherparse.proofs.SameBuffers.{contents_same}
use Rattle.etherparse.proofs.laws.fragments.traits.equals_are_same.Goals as goal

pub returns : goal.returns
returns c = λ a b. contents_same a b
