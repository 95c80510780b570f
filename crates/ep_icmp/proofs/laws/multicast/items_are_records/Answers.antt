use Rattle.ep_icmp.proofs.GroupRecords.{no_other, records_encoded}
use Rattle.ep_icmp.proofs.laws.multicast.items_are_records.Goals as goal

pub returns-clause-encoded : goal.returns-clause-encoded
returns-clause-encoded c = records_encoded

pub returns-clause-no_other : goal.returns-clause-no_other
returns-clause-no_other c = no_other
