use Rattle.etherparse.proofs.AcceptedOutcomes.{completed_accepted, completed_joined, held_accepted}
use Rattle.etherparse.proofs.laws.fragments.joined.lists_stay_accepted.Goals as goal

pub returns-clause-held : goal.returns-clause-held
returns-clause-held c = held_accepted

pub returns-clause-completed : goal.returns-clause-completed
returns-clause-completed c = λ rule fs f text. completed_accepted fs f text rule

pub returns-clause-joined : goal.returns-clause-joined
returns-clause-joined c = completed_joined
