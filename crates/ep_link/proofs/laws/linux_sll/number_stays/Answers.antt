use Rattle.ep_link.proofs.SllEncoding.{number-protocol_of}
use Rattle.ep_link.proofs.laws.linux_sll.number_stays.Goals as goal

pub returns : goal.returns
returns c = number-protocol_of
