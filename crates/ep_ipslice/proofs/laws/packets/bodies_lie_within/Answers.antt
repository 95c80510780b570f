use Rattle.ep_ipslice.proofs.Ipv6Parts.{body_within, row_fault}
use Rattle.ep_ipslice.proofs.laws.packets.bodies_lie_within.Goals as goal

pub returns-clause-within : goal.returns-clause-within
returns-clause-within c = body_within

pub returns-clause-fault : goal.returns-clause-fault
returns-clause-fault c = row_fault
