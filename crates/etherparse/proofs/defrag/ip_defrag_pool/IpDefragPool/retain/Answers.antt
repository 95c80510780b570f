use Rattle.etherparse.proofs.defrag.ip_defrag_pool.IpDefragPool.retain.Goals as goal

pub retain-requires : goal.retain-requires
retain-requires g c = rw c.self.view_is c.requires

pub returns-clause-retained : goal.returns-clause-retained
returns-clause-retained g c = rw c.self.view_is at c.retain.ensures.retained

pub returns-clause-starts : goal.returns-clause-starts
returns-clause-starts g c = rw c.self.view_is at c.retain.ensures.starts
