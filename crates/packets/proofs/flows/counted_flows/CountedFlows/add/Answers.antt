use Rattle.packets.proofs.flows.counted_flows.CountedFlows.add.Goals as goal

pub returns-clause-ok : goal.returns-clause-ok
returns-clause-ok g c = λ packets old.
    let counted = c.count.ensures packets (c.in_ok-reserve.ensures.same packets old) in
    rw c.of-packet.ensures at counted
