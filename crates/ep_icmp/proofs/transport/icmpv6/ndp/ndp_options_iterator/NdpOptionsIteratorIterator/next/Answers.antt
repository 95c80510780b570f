use Rattle.std.proofs.Common.{ap, refl, sym, ◌∙◌}
use Rattle.ep_icmp.specs.NdpOptions.{items_of}
use Rattle.ep_icmp.proofs.NdpItems.{items-end, left_of, progress, step_err, step_ok}
use Rattle.ep_icmp.proofs.transport.icmpv6.ndp.ndp_options_iterator.NdpOptionsIteratorIterator.next.Goals as goal
use Rattle.ep_base.proofs.Cells.{nothing_after}

pub returns-then-is_empty-clause-steps : goal.returns-then-is_empty-clause-steps
returns-then-is_empty-clause-steps c =
    let none = ap items_of (sym c.self.view_is)
    ∙ items-end (left_of c.self.inside.options.now c.self.inside.end)
    (sym c.is_empty.ensures ∙ c.if-is_empty.true) in
    (none, none)

pub returns-in-Ok-clause-steps : goal.returns-in-Ok-clause-steps
returns-in-Ok-clause-steps c =
    ap items_of (sym c.self.view_is)
    ∙ step_ok c.self.inside.end c.in-Ok.size c.self.inside.options.now
    (sym c.is_empty.ensures ∙ c.if-is_empty.false) (sym c.in-Ok.ensures.exact)
    ∙ rw (c.of_bytes.ensures, c.split_at.ensures.front, c.split_at.ensures.back)
    refl

pub returns-in-Err-clause-steps : goal.returns-in-Err-clause-steps
returns-in-Err-clause-steps c =
    ap items_of (sym c.self.view_is)
    ∙ step_err c.self.inside.end c.in-Err.error c.self.inside.options.now
    (sym c.is_empty.ensures ∙ c.if-is_empty.false) (sym c.in-Err.ensures.exact)
    ∙ rw (nothing_after c.self.inside.options.now) refl

pub returns-in-Ok-clause-goes : goal.returns-in-Ok-clause-goes
returns-in-Ok-clause-goes c = progress _ _ _ (returns-in-Ok-clause-steps c)

pub returns-in-Err-clause-goes : goal.returns-in-Err-clause-goes
returns-in-Err-clause-goes c = progress _ _ _ (returns-in-Err-clause-steps c)
