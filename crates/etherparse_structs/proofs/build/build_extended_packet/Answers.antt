use Rattle.std.proofs.Common.{length}
use Rattle.etherparse_structs.specs.Plan.{wrong_in_extended}
use Rattle.etherparse_structs.proofs.PlanLemmas.{at_fault_is, not_at_fault}
use Rattle.etherparse_structs.proofs.build.build_extended_packet.Goals as goal

pub returns-clause-refused : goal.returns-clause-refused
returns-clause-refused c =
    at_fault_is (wrong_in_extended c.args.plan.now c.args.extensions.now c.args.bytes.now (length c.args.payload.now))
    c.append.result c.in-Err-Field.field c.not_built-in-Err-Field.result c.append.ensures.refused (cc) (cc)

pub returns-in-Ok-clause-refused : goal.returns-in-Ok-clause-refused
returns-in-Ok-clause-refused c = not_at_fault
    (wrong_in_extended c.args.plan.now c.args.extensions.now c.args.bytes.now (length c.args.payload.now))
    c.append.result _ c.append.ensures.refused (λ f is. cc (is, c.in-Ok.is))

pub returns-in-Err-Memory-clause-refused : goal.returns-in-Err-Memory-clause-refused
returns-in-Err-Memory-clause-refused c = not_at_fault
    (wrong_in_extended c.args.plan.now c.args.extensions.now c.args.bytes.now (length c.args.payload.now))
    c.append.result _ c.append.ensures.refused (λ f is. cc (is, c.in-Err-Memory.is))
