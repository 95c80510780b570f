use Rattle.ep_tcpudp.proofs.ElementsItems.{items_encoded, no_other}
use Rattle.ep_tcpudp.proofs.laws.tcp.items_are_elements.Goals as goal

pub returns-clause-encoded : goal.returns-clause-encoded
returns-clause-encoded c = items_encoded

pub returns-clause-no_other : goal.returns-clause-no_other
returns-clause-no_other c = no_other
