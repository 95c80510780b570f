use Rattle.etherparse_structs.proofs.LaxFrameParts.{ethernet_parts, ip_parts, linux_sll_parts}
use Rattle.etherparse_structs.proofs.laws.packets.parts_that_are_there.Goals as goal

pub returns-clause-ethernet : goal.returns-clause-ethernet
returns-clause-ethernet c = ethernet_parts

pub returns-clause-linux_sll : goal.returns-clause-linux_sll
returns-clause-linux_sll c = linux_sll_parts

pub returns-clause-ip : goal.returns-clause-ip
returns-clause-ip c = ip_parts
