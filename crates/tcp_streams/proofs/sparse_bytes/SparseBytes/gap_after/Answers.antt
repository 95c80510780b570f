use Rattle.std.proofs.Common.{◌-◌, ◌∙◌, ℕ, ap, arith, drop, sym, take}
use Rattle.tcp_streams.proofs.AfterGapLemmas.{after_bounds}
use Rattle.tcp_streams.proofs.sparse_bytes.SparseBytes.gap_after.Goals as goal

pub overflow_sub-from : goal.overflow_sub-from
overflow_sub-from c =
    (after_bounds _ c.self.invariant c.args.position c.in-Some.gap (sym c.after.ensures ∙ c.in-Some.is)).0

pub overflow_sub-to : goal.overflow_sub-to
overflow_sub-to c =
    let end_is = rw (← c.self.view_is) at c.end_after.ensures in
    let bounds = after_bounds _ c.self.invariant c.args.position c.in-Some.gap (sym c.after.ensures ∙ c.in-Some.is) in
    omega (arith, end_is, bounds.0, bounds.1)

pub part-requires-clause-order : goal.part-requires-clause-order
part-requires-clause-order c =
    let end_is = rw (← c.self.view_is) at c.end_after.ensures in
    let bounds = after_bounds _ c.self.invariant c.args.position c.in-Some.gap (sym c.after.ensures ∙ c.in-Some.is) in
    omega (arith, end_is, bounds.0, bounds.1)

pub part-requires-clause-within : goal.part-requires-clause-within
part-requires-clause-within c =
    let end_is = rw (← c.self.view_is) at c.end_after.ensures in
    let bounds = after_bounds _ c.self.invariant c.args.position c.in-Some.gap (sym c.after.ensures ∙ c.in-Some.is) in
    rw c.as_slice.ensures (omega (arith, end_is, bounds.0, bounds.2))

pub returns-clause-bytes : goal.returns-clause-bytes
returns-clause-bytes c =
    let end_is = rw (← c.self.view_is) at c.end_after.ensures in
    let bounds = after_bounds _ c.self.invariant c.args.position c.in-Some.gap (sym c.after.ensures ∙ c.in-Some.is) in
    rw (c.part.ensures, c.as_slice.ensures, ← c.self.view_is)
    (ap (λ (n : ℕ). take n (drop (c.in-Some.gap.end - c.self.inside.taken) c.self.inside.bytes))
    (omega (arith, end_is, bounds.0, bounds.1)))
