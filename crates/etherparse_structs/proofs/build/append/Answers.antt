use Rattle.std.proofs.Common.{◌∙◌, length, sym}
use Rattle.std.specs.Option.{option_map, option_or}
use Rattle.etherparse.specs.Built.{build_refusal}
use Rattle.etherparse_structs.specs.Plan.{field_of, headers_in, lower_headers_in, wrong_lower_headers, wrong_transport}
use Rattle.etherparse_structs.proofs.PlanLemmas.{at_fault_after}
use Rattle.etherparse_structs.proofs.build.append.Goals as goal

pub returns-in-Ok-clause-refused : goal.returns-in-Ok-clause-refused
returns-in-Ok-clause-refused c =
    let plan = c.args.plan.now in
    let extensions = c.args.extensions.now in
    let bytes = c.args.bytes.now in
    at_fault_after (wrong_lower_headers plan extensions bytes) (option_or (wrong_transport plan)
    (option_map field_of (build_refusal (headers_in plan extensions bytes) (length c.args.payload.now))))
    (lower_headers_in plan extensions bytes) _ _ _ (sym c.lower_headers.ensures ∙ c.in-Ok.is) c.append_rest.ensures.refused
