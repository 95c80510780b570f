use Rattle.std.proofs.Common.{arith}
use Rattle.etherparse.proofs.StartWrites.{newest_within, puts_last}
use Rattle.etherparse.proofs.defrag.start_order.put_last.Goals as goal

pub index_mut-requires : goal.index_mut-requires
index_mut-requires c =
    let w = newest_within _ _ _ c.requires.ring (omega arith) c.index-newest.ensures in
    omega (arith, w.1)

pub returns-clause-put : goal.returns-clause-put
returns-clause-put c =
    let w = newest_within _ _ _ c.requires.ring (omega arith) c.index-newest.ensures in
    let t = puts_last c.args.newer.now.items c.args.older.now.items c.len-node.result c.index-newest.result.now (omega arith) (omega (arith, c.requires.ring.same)) w.0 (omega (arith, w.1)) in
    rw (c.push_reserved.ensures.items, c.push_reserved-2.ensures.items, ← c.len-node.ensures) t
