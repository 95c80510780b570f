use Rattle.etherparse.proofs.defrag.ip_defrag_pool.IpDefragPool.forget_oldest.Goals as goal

pub returns-clause-some : goal.returns-clause-some
returns-clause-some g c = rw c.self.view_is at c.forget_oldest.ensures.some
