use Rattle.etherparse.proofs.Complete.{whole_iff}
use Rattle.etherparse.proofs.laws.fragments.cover.Goals as goal

pub returns : goal.returns
returns c = whole_iff
