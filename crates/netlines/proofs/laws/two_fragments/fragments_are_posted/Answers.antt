use Rattle.netlines.proofs.TwoFragmentLemmas.{cover, first_posted, lines_posted, second_posted}
use Rattle.netlines.proofs.laws.two_fragments.fragments_are_posted.Goals as goal

pub returns-clause-first : goal.returns-clause-first
returns-clause-first c = first_posted 0

pub returns-clause-second : goal.returns-clause-second
returns-clause-second c = second_posted 0

pub returns-clause-lines : goal.returns-clause-lines
returns-clause-lines c = lines_posted

pub returns-clause-cover : goal.returns-clause-cover
returns-clause-cover c = cover
