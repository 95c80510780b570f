use Rattle.std.proofs.Common.{arith, ℕ, List, length, ap, ◌∙◌}
use Rattle.std.proofs.lemmas.List.{length-take}
use Rattle.etherparse.proofs.StartWrites.{can_move, order_removed, order_len}
use Rattle.etherparse.proofs.StartRings.{order_of}
use Rattle.etherparse.proofs.defrag.start_order.StartOrder.swap_remove.Goals as goal

pub overflow_add-node : goal.overflow_add-node
overflow_add-node c =
    let within = rw (← c.self.view_is) at c.requires in
    omega (arith, within, order_len c.self.inside.newer.items)

pub take_out-requires-clause-within : goal.take_out-requires-clause-within
take_out-requires-clause-within c =
    let within = rw (← c.self.view_is) at c.requires in
    omega (arith, within, order_len c.self.inside.newer.items)

pub move_to-requires-clause-to : goal.move_to-requires-clause-to
move_to-requires-clause-to c =
    let within = rw (← c.self.view_is) at c.requires in
    omega (arith, within, order_len c.self.inside.newer.items, c.take_out.ensures.len)

pub move_to-requires-clause-can_move : goal.move_to-requires-clause-can_move
move_to-requires-clause-can_move c =
    let within = rw (← c.self.view_is) at c.requires in
    can_move _ _ _ _ _ _ c.self.invariant (omega arith)
    (omega (arith, within, order_len c.self.inside.newer.items)) c.take_out.ensures.out
    (omega (arith, c.take_out.ensures.len))

pub invariant_of-self : goal.invariant_of-self
invariant_of-self c =
    let within = rw (← c.self.view_is) at c.requires in
    (order_removed _ _ _ _ _ _ c.self.invariant (omega arith)
    (omega (arith, within, order_len c.self.inside.newer.items)) c.take_out.ensures.out _ _ _ _ _ _ c.move_to.ensures.moves
    c.pop.ensures.rest c.pop-2.ensures.rest (omega arith) (omega (arith, c.self.invariant.same)) (omega arith) (omega (arith, c.self.invariant.same))).ring

pub returns-clause-order : goal.returns-clause-order
returns-clause-order c =
    let within = rw (← c.self.view_is) at c.requires in
    rw (← c.self.view_is)
    (order_removed _ _ _ _ _ _ c.self.invariant (omega arith)
    (omega (arith, within, order_len c.self.inside.newer.items)) c.take_out.ensures.out _ _ c.pop.new.self.items c.pop-2.new.self.items _ _ c.move_to.ensures.moves
    c.pop.ensures.rest c.pop-2.ensures.rest (omega arith) (omega (arith, c.self.invariant.same)) (omega arith) (omega (arith, c.self.invariant.same))).order_is

pub returns-clause-is_order : goal.returns-clause-is_order
returns-clause-is_order c =
    let within = rw (← c.self.view_is) at c.requires in
    order_of c.pop.new.self.items c.pop-2.new.self.items
    (order_removed _ _ _ _ _ _ c.self.invariant (omega arith)
    (omega (arith, within, order_len c.self.inside.newer.items)) c.take_out.ensures.out _ _ c.pop.new.self.items c.pop-2.new.self.items _ _ c.move_to.ensures.moves
    c.pop.ensures.rest c.pop-2.ensures.rest (omega arith) (omega (arith, c.self.invariant.same)) (omega arith) (omega (arith, c.self.invariant.same))).ring

pub returns-clause-len : goal.returns-clause-len
returns-clause-len c =
    let within = rw (← c.self.view_is) at c.requires in
    let left = ap (λ (ps : List ℕ). length ps) c.pop.ensures.rest ∙ length-take _ _ in
    rw (← c.self.view_is)
    (omega (arith, within, order_len c.pop.new.self.items, order_len c.self.inside.newer.items, left))
