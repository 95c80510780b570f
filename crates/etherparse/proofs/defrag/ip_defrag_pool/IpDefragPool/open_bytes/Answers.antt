use Rattle.std.proofs.Common.{◌≡◌, subst}
use Rattle.etherparse.specs.IpDefragPool.{same_id}
use Rattle.etherparse.specs.ReassemblyTable.{Pool}
use Rattle.etherparse.specs.StartedBytes.{bytes_of}
use Rattle.etherparse.specs.declared.defrag.ip_frag_id.IpFragId.{IpFragId}
use Rattle.etherparse.proofs.defrag.ip_defrag_pool.IpDefragPool.open_bytes.Goals as goal

pub returns-clause-starts : goal.returns-clause-starts
returns-clause-starts g c =
    subst (λ (pool : Pool (IpFragId g.row.CustomChannelId.Denot) g.row.Timestamp.Denot). c.open_bytes.result
    ≡ bytes_of (same_id g.CustomChannelId.PartialEq.eq) pool pool.starts) c.self.view_is
    c.open_bytes.ensures.starts
