use Rattle.etherparse.proofs.AcceptedLists.{fragments_agree}
use Rattle.etherparse.proofs.laws.fragments.fragments_agree.Goals as goal

pub returns : goal.returns
returns c = fragments_agree
