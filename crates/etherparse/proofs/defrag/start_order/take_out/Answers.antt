use Rattle.std.proofs.Common.{arith}
use Rattle.etherparse.proofs.StartWrites.{neighbours, takes_out}
use Rattle.etherparse.proofs.defrag.start_order.take_out.Goals as goal

pub index_mut-requires : goal.index_mut-requires
index_mut-requires c =
    let n = neighbours _ _ c.args.node _ _ c.requires.ring c.requires.some (omega arith) c.index.ensures
    c.index-2.ensures in
    omega (arith, n.before_within)

pub index_mut-requires-2 : goal.index_mut-requires-2
index_mut-requires-2 c =
    let n = neighbours _ _ c.args.node _ _ c.requires.ring c.requires.some (omega arith) c.index.ensures
    c.index-2.ensures in
    omega (arith, n.after_within)

pub returns-clause-out : goal.returns-clause-out
returns-clause-out c =
    takes_out _ _ c.args.node _ _
    (neighbours _ _ c.args.node _ _ c.requires.ring c.requires.some (omega arith) c.index.ensures
    c.index-2.ensures)
