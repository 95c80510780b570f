use Rattle.etherparse_structs.specs.PlannedArp.{wrong_in_arp}
use Rattle.etherparse_structs.proofs.PlanLemmas.{at_fault_is}
use Rattle.etherparse_structs.proofs.build.build_arp_packet.Goals as goal

pub returns-clause-refused : goal.returns-clause-refused
returns-clause-refused c =
    at_fault_is (wrong_in_arp c.args.plan.now c.args.arp.now c.args.bytes.now) c.append_arp.result
    c.in-Err-Field.field c.not_built-in-Err-Field.result c.append_arp.ensures.refused (cc) (cc)
