use Rattle.etherparse.proofs.AcceptedLists.{last_byte_counts, uncovered_has_none}
use Rattle.etherparse.proofs.laws.fragments.last_byte_counts.Goals as goal

pub returns-clause-last : goal.returns-clause-last
returns-clause-last c = last_byte_counts

pub returns-clause-none : goal.returns-clause-none
returns-clause-none c = uncovered_has_none
