use Rattle.std.proofs.Common.{ap, map}
use Rattle.etherparse.specs.Timestamps.{pool_by, reassembly_by}
use Rattle.packets.specs.declared.datagrams.Received.{Received}
use Rattle.packets.proofs.datagrams.Datagrams.with_hasher.Goals as goal

pub returns-clause-lists : goal.returns-clause-lists
returns-clause-lists g c =
    c.a_new_pool_shows_no_lists.ensures (pool_by (λ (r : Received). r.last) c.with_hasher.result)
    (ap (map (λ e. (e.0, reassembly_by (λ (r : Received). r.last) e.1))) c.with_hasher.ensures.reassemblies)

pub returns-clause-started : goal.returns-clause-started
returns-clause-started g c name channel = rw c.with_hasher.ensures.reassemblies tt

pub returns-clause-order : goal.returns-clause-order
returns-clause-order g c = c.with_hasher.ensures.starts
