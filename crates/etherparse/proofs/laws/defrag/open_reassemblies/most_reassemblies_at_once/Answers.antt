use Rattle.etherparse.proofs.OpenAtLiterals.{never_any, none_dropped, only_one}
use Rattle.etherparse.proofs.laws.defrag.open_reassemblies.most_reassemblies_at_once.Goals as goal

pub returns-clause-none : goal.returns-clause-none
returns-clause-none c = never_any

pub returns-clause-none_dropped : goal.returns-clause-none_dropped
returns-clause-none_dropped c = none_dropped

pub returns-clause-one : goal.returns-clause-one
returns-clause-one c = only_one c.equal_names.ensures.same
