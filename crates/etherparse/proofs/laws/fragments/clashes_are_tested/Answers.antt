use Rattle.etherparse.proofs.Clash.{clashes_Decides, repeat_Decides}
use Rattle.etherparse.proofs.laws.fragments.clashes_are_tested.Goals as goal

pub returns-clause-repeat : goal.returns-clause-repeat
returns-clause-repeat c = λ fs f. repeat_Decides fs f

pub returns-clause-clash : goal.returns-clause-clash
returns-clause-clash c = λ fs f. clashes_Decides fs f
