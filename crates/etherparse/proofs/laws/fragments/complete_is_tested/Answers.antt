use Rattle.etherparse.proofs.Complete.{complete_Decides}
use Rattle.etherparse.proofs.laws.fragments.complete_is_tested.Goals as goal

pub returns : goal.returns
returns c = λ fs. ((complete_Decides fs).0, (complete_Decides fs).1)
