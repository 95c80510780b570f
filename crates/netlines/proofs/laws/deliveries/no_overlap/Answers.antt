use Rattle.netlines.proofs.JoinedLemmas.{joined}
use Rattle.netlines.proofs.WaitingLemmas.{are_waiting}
use Rattle.netlines.proofs.laws.deliveries.no_overlap.Goals as goal

pub returns-clause-joined : goal.returns-clause-joined
returns-clause-joined c earlier line name channel f over has out =
    joined c.no_overlap.ensures c.equal_names.ensures.same earlier line name channel f over has
    out

pub returns-clause-fragments : goal.returns-clause-fragments
returns-clause-fragments c earlier name channel =
    (are_waiting c.equal_names.ensures.same name channel earlier).0
