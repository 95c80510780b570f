use Rattle.captures.proofs.translation.run_captures.run_over.Goals as goal

pub returns-in-Refuse-clause-runs : goal.returns-in-Refuse-clause-runs
returns-in-Refuse-clause-runs g c = rw c.in-Refuse.is c.run_by.ensures.runs

pub returns-in-Refuse-clause-passed : goal.returns-in-Refuse-clause-passed
returns-in-Refuse-clause-passed g c = rw c.in-Refuse.is c.run_by.ensures.passed

pub returns-in-Skip-clause-runs : goal.returns-in-Skip-clause-runs
returns-in-Skip-clause-runs g c = rw c.in-Skip.is c.run_by-in-Skip.ensures.runs

pub returns-in-Skip-clause-passed : goal.returns-in-Skip-clause-passed
returns-in-Skip-clause-passed g c = rw c.in-Skip.is c.run_by-in-Skip.ensures.passed
