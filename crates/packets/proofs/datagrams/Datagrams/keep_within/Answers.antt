use Rattle.std.proofs.Common.{sym, subst, ℕ, Bool, arith}
use Rattle.packets.specs.ReassemblyMemory.{DropsOldest}
use Rattle.packets.proofs.KeepLemmas.{Dropped, begins, ends, none_left, one_dropped}
use Rattle.packets.proofs.datagrams.Datagrams.keep_within.Goals as goal

pub above-init : goal.above-init
above-init g c = record {
  dropped = λ lists order shows has. begins c.args.self.now c.args.limit lists order shows has;
}

pub returns-then-not-drop_oldest : goal.returns-then-not-drop_oldest
returns-then-not-drop_oldest g c lists order shows has =
    let d = c.above.invariant.dropped lists order shows has in
    none_left c.args.self.now c.args.limit lists order c.above.self c.drop_oldest.new.self c.above.dropped d
    (subst (λ (found : Bool). DropsOldest c.above.self c.drop_oldest.new.self d.left_lists d.left found)
    c.if-not-drop_oldest.true (c.drop_oldest.ensures.dropped d.left_lists d.left d.fragments d.order_is))

pub above-preserved : goal.above-preserved
above-preserved g c = record {
  dropped = λ lists order shows has.
      let d = c.above.invariant.dropped lists order shows has in
      subst (λ (n : ℕ). Dropped c.args.self.now c.args.limit lists order c.drop_oldest.new.self n)
      (sym c.saturating_add-dropped.ensures)
      (one_dropped c.args.self.now c.args.limit lists order c.above.self c.drop_oldest.new.self
      c.above.dropped d
      (omega (
        arith,
        c.above-test.true,
        c.from.ensures,
        c.taken.ensures d.left_lists d.left d.fragments d.order_is,
      ))
      (subst (λ (found : Bool). DropsOldest c.above.self c.drop_oldest.new.self d.left_lists d.left found)
      c.if-not-drop_oldest.false
      (c.drop_oldest.ensures.dropped d.left_lists d.left d.fragments d.order_is)));
}

pub returns : goal.returns
returns g c lists order shows has =
    let d = c.above.invariant.dropped lists order shows has in
    ends c.args.self.now c.args.limit lists order c.above.self c.above.dropped d
    (omega (
      arith,
      c.above-test.false,
      c.from.ensures,
      c.taken.ensures d.left_lists d.left d.fragments d.order_is,
    ))
