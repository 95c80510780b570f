use Rattle.ep_icmp.proofs.NdpItems.{items_encoded, no_other}
use Rattle.ep_icmp.proofs.laws.ndp.items_are_options.Goals as goal

pub returns-clause-encoded : goal.returns-clause-encoded
returns-clause-encoded c = items_encoded

pub returns-clause-no_other : goal.returns-clause-no_other
returns-clause-no_other c = no_other
