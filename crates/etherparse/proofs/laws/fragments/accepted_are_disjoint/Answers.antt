use Rattle.etherparse.proofs.AcceptedLists.{accepted_are_disjoint}
use Rattle.etherparse.proofs.laws.fragments.accepted_are_disjoint.Goals as goal

pub returns : goal.returns
returns c = accepted_are_disjoint
