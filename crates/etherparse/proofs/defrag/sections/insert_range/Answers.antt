use Rattle.std.proofs.Common.{◌≡◌, ℕ, arith, subst}
use Rattle.etherparse.specs.IpFragRange.{StartBy}
use Rattle.etherparse.proofs.Added.{added_after, added_set, before_range}
use Rattle.etherparse.proofs.defrag.sections.insert_range.Goals as goal

pub index-requires : goal.index-requires
index-requires c =
    let order = before_range _ _ _ c.args.range _ _ c.deref.ensures.value c.deref-2.ensures.value
    c.requires.in_order c.requires.range c.count_before-first.ensures.before
    c.count_up_to-following.ensures.up_to c.count_before-first.ensures.bound in
    let long = rw c.deref-2.ensures.value at c.count_up_to-following.ensures.bound in
    omega (arith, order, long, c.if-first-following.false, c.args.sections.now.ok.0)

pub index_mut-requires : goal.index_mut-requires
index_mut-requires c =
    let order = before_range _ _ _ c.args.range _ _ c.deref.ensures.value c.deref-2.ensures.value
    c.requires.in_order c.requires.range c.count_before-first.ensures.before
    c.count_up_to-following.ensures.up_to c.count_before-first.ensures.bound in
    let long = rw c.deref-2.ensures.value at c.count_up_to-following.ensures.bound in
    omega (arith, order, long, c.if-first-following.false, c.args.sections.now.ok.0)

pub remove_between-requires-clause-ordered : goal.remove_between-requires-clause-ordered
remove_between-requires-clause-ordered c =
    let order = before_range _ _ _ c.args.range _ _ c.deref.ensures.value c.deref-2.ensures.value
    c.requires.in_order c.requires.range c.count_before-first.ensures.before
    c.count_up_to-following.ensures.up_to c.count_before-first.ensures.bound in
    omega (arith, order, c.if-first-following.false)

pub returns-then-first-following-clause-adds : goal.returns-then-first-following-clause-adds
returns-then-first-following-clause-adds c =
    let low = rw c.deref.ensures.value at c.count_before-first.ensures.before in
    let high = rw c.deref-2.ensures.value at c.count_up_to-following.ensures.up_to in
    let same : c.count_up_to-following.result ≡ c.count_before-first.result = omega arith in
    rw (c.insert.ensures.items, c.unwrap.ensures)
    (added_after _ _ _ c.requires.in_order c.requires.range low
    (subst (λ (n : ℕ). StartBy c.args.sections.now.items c.args.range.end n) same high)).adds

pub returns-then-first-following-clause-ordered : goal.returns-then-first-following-clause-ordered
returns-then-first-following-clause-ordered c =
    let low = rw c.deref.ensures.value at c.count_before-first.ensures.before in
    let high = rw c.deref-2.ensures.value at c.count_up_to-following.ensures.up_to in
    let same : c.count_up_to-following.result ≡ c.count_before-first.result = omega arith in
    rw (c.insert.ensures.items, c.unwrap.ensures)
    (added_after _ _ _ c.requires.in_order c.requires.range low
    (subst (λ (n : ℕ). StartBy c.args.sections.now.items c.args.range.end n) same high)).ordered

pub returns-else-first-following-clause-adds : goal.returns-else-first-following-clause-adds
returns-else-first-following-clause-adds c =
    let order = before_range _ _ _ c.args.range _ _ c.deref.ensures.value c.deref-2.ensures.value
    c.requires.in_order c.requires.range c.count_before-first.ensures.before
    c.count_up_to-following.ensures.up_to c.count_before-first.ensures.bound in
    let low = rw c.deref.ensures.value at c.count_before-first.ensures.before in
    let high = rw c.deref-2.ensures.value at c.count_up_to-following.ensures.up_to in
    let long = rw c.deref-2.ensures.value at c.count_up_to-following.ensures.bound in
    (added_set _ _ _ _ c.index.result.now c.index-else-first-following.result.now c.args.range _
    c.requires.in_order c.requires.range low high (omega (arith, order, c.if-first-following.false))
    long c.index.ensures c.index-else-first-following.ensures
    (rw c.hull.ensures at c.hull-joined.ensures) c.remove_between.ensures.items).adds

pub returns-else-first-following-clause-ordered : goal.returns-else-first-following-clause-ordered
returns-else-first-following-clause-ordered c =
    let order = before_range _ _ _ c.args.range _ _ c.deref.ensures.value c.deref-2.ensures.value
    c.requires.in_order c.requires.range c.count_before-first.ensures.before
    c.count_up_to-following.ensures.up_to c.count_before-first.ensures.bound in
    let low = rw c.deref.ensures.value at c.count_before-first.ensures.before in
    let high = rw c.deref-2.ensures.value at c.count_up_to-following.ensures.up_to in
    let long = rw c.deref-2.ensures.value at c.count_up_to-following.ensures.bound in
    (added_set _ _ _ _ c.index.result.now c.index-else-first-following.result.now c.args.range _
    c.requires.in_order c.requires.range low high (omega (arith, order, c.if-first-following.false))
    long c.index.ensures c.index-else-first-following.ensures
    (rw c.hull.ensures at c.hull-joined.ensures) c.remove_between.ensures.items).ordered
