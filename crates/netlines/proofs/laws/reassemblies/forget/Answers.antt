use Rattle.netlines.proofs.ArrivalLemmas.{forgotten, last_accepted, remembered}
use Rattle.netlines.proofs.laws.reassemblies.forget.Goals as goal

pub returns-clause-dropped : goal.returns-clause-dropped
returns-clause-dropped c earlier line number channel name is before =
    forgotten earlier line number channel name is before

pub returns-clause-kept : goal.returns-clause-kept
returns-clause-kept c earlier line number channel name is from =
    remembered earlier line number channel name is from

pub returns-clause-time : goal.returns-clause-time
returns-clause-time c lines name channel some =
    last_accepted c.equal_names.ensures.same name channel lines some
