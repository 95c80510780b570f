use Rattle.etherparse.proofs.Joining.{no_overlap}
use Rattle.etherparse.proofs.laws.fragments.no_overlap.Goals as goal

pub returns : goal.returns
returns c = no_overlap
