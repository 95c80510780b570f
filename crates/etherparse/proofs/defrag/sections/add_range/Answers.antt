use Rattle.std.proofs.Common.{◌-◌, arith, refl, slice_set, sym}
use Rattle.etherparse.proofs.Ordered.{IsAdded}
use Rattle.etherparse.proofs.Added.{added_to_first, added_to_last}
use Rattle.etherparse.proofs.defrag.sections.add_range.Goals as goal

to_last : (c : goal.After-sections-1)
    → IsAdded c.args.sections.now.items (slice_set c.args.sections.now.items (c.len-len.result - 1) c.hull.result) c.args.range
to_last c =
    added_to_last c.args.sections.now.items _ (c.len-len.result - 1)
    c.index-then-len-gt0.result.now c.args.range c.hull.result c.requires.in_order
    c.requires.range
    (omega (arith, c.if-len-gt0.true, c.args.sections.now.ok.0))
    c.index-then-len-gt0.ensures (sym c.if-contains.ensures) c.hull.ensures refl

pub returns-then-contains-clause-adds : goal.returns-then-contains-clause-adds
returns-then-contains-clause-adds c = (to_last c).adds

pub returns-then-contains-clause-ordered : goal.returns-then-contains-clause-ordered
returns-then-contains-clause-ordered c = (to_last c).ordered

to_first : (c : goal.After-sections-then-contains-2-1)
    → IsAdded c.args.sections.now.items (slice_set c.args.sections.now.items 0 c.hull-then-contains-2.result) c.args.range
to_first c =
    added_to_first c.args.sections.now.items _ c.index.result.now c.args.range
    c.hull-then-contains-2.result c.requires.in_order c.requires.range
    (omega (arith, c.if-len-gt0.true, c.args.sections.now.ok.0))
    c.index.ensures (omega (arith, c.if-range-first.true))
    (sym c.if-contains-2.ensures) c.hull-then-contains-2.ensures refl

pub returns-then-contains-2-clause-adds : goal.returns-then-contains-2-clause-adds
returns-then-contains-2-clause-adds c = (to_first c).adds

pub returns-then-contains-2-clause-ordered : goal.returns-then-contains-2-clause-ordered
returns-then-contains-2-clause-ordered c = (to_first c).ordered
