use Rattle.std.proofs.Common.{ap, arith, refl, sym, ◌∙◌, ◌-◌}
use Rattle.ep_icmp.specs.Multicast.{records_of}
use Rattle.ep_icmp.proofs.GroupRecords.{none_left, progress, step_err, step_ok}
use Rattle.ep_icmp.proofs.transport.multicast.group_records.GroupRecordsIterator.next.Goals as goal

pub returns-then-self-eq0-clause-steps : goal.returns-then-self-eq0-clause-steps
returns-then-self-eq0-clause-steps g c =
    let none = ap (records_of g.row.N) (sym c.self.view_is)
    ∙ none_left g.row.N c.self.inside.end c.self.inside.count c.self.inside.records.now
    (omega (arith, c.if-self-eq0.true)) in
    (none, none)

pub returns-in-Ok-clause-steps : goal.returns-in-Ok-clause-steps
returns-in-Ok-clause-steps g c =
    ap (records_of g.row.N) (sym c.self.view_is)
    ∙ step_ok g.row.N c.self.inside.end c.self.inside.count (c.self.inside.count - 1) c.in-Ok.size
    c.self.inside.records.now (omega (arith, c.if-self-eq0.false)) (sym c.in-Ok.ensures)
    ∙ rw (c.of_bytes.ensures, c.split_at.ensures.front, c.split_at.ensures.back) refl

pub returns-in-Err-clause-steps : goal.returns-in-Err-clause-steps
returns-in-Err-clause-steps g c =
    ap (records_of g.row.N) (sym c.self.view_is)
    ∙ step_err g.row.N c.self.inside.end c.self.inside.count c.in-Err.error
    c.self.inside.records.now _ (omega (arith, c.if-self-eq0.false)) (sym c.in-Err.ensures)

pub returns-in-Ok-clause-goes : goal.returns-in-Ok-clause-goes
returns-in-Ok-clause-goes g c = progress g.row.N _ _ _ (returns-in-Ok-clause-steps g c)

pub returns-in-Err-clause-goes : goal.returns-in-Err-clause-goes
returns-in-Err-clause-goes g c = progress g.row.N _ _ _ (returns-in-Err-clause-steps g c)
