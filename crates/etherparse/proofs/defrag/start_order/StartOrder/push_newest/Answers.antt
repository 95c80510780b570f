use Rattle.std.proofs.Common.{arith, ap, ℕ, List, length}
use Rattle.etherparse.specs.StartOrder.{slots_of}
use Rattle.etherparse.proofs.StartWrites.{order_added, order_len}
use Rattle.etherparse.proofs.StartRings.{order_of}
use Rattle.etherparse.proofs.defrag.start_order.StartOrder.push_newest.Goals as goal

pub invariant_of-self : goal.invariant_of-self
invariant_of-self c =
    let put = c.put_last.ensures in
    (order_added c.self.inside.newer.items c.self.inside.older.items _ _ _ _ _ (omega arith) (omega arith) (omega (arith, put.len)) (omega (arith, put.len, put.older_len, c.begin.ensures.ring.same)) (omega (arith, c.begin.ensures.fits))
    c.begin.ensures.ring c.begin.ensures.nodes put.put).ring

pub returns-clause-order : goal.returns-clause-order
returns-clause-order c =
    let put = c.put_last.ensures in
    rw (← c.self.view_is)
    (order_added c.self.inside.newer.items c.self.inside.older.items _ _ c.put_last.new.newer.items c.put_last.new.older.items _ (omega arith) (omega arith) (omega (arith, put.len)) (omega (arith, put.len, put.older_len, c.begin.ensures.ring.same)) (omega (arith, c.begin.ensures.fits))
    c.begin.ensures.ring c.begin.ensures.nodes put.put).order_is

pub returns-clause-is_order : goal.returns-clause-is_order
returns-clause-is_order c =
    let put = c.put_last.ensures in
    order_of c.put_last.new.newer.items c.put_last.new.older.items
    (order_added c.self.inside.newer.items c.self.inside.older.items _ _ c.put_last.new.newer.items c.put_last.new.older.items _ (omega arith) (omega arith) (omega (arith, put.len)) (omega (arith, put.len, put.older_len, c.begin.ensures.ring.same)) (omega (arith, c.begin.ensures.fits))
    c.begin.ensures.ring c.begin.ensures.nodes put.put).ring

pub returns-clause-fits : goal.returns-clause-fits
returns-clause-fits c = omega (arith, order_len c.put_last.new.newer.items, c.begin.ensures.fits)

pub returns-clause-len : goal.returns-clause-len
returns-clause-len c =
    let same = ap (λ (ps : List ℕ). length (slots_of ps)) c.begin.ensures.nodes in
    rw (← c.self.view_is)
    (omega (arith, order_len c.put_last.new.newer.items, order_len c.self.inside.newer.items, order_len c.begin.new.newer.items, same))
