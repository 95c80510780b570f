use Rattle.std.proofs.Common.{ap}
use Rattle.ep_ipslice.specs.Packet.{IpPayload}
use Rattle.ep_packet.proofs.PartsLemmas.{fault_at_start, transport_found}
use Rattle.ep_packet.proofs.layer_slices.transport_in.Goals as goal

pub returns-in-Ok-clause-parts : goal.returns-in-Ok-clause-parts
returns-in-Ok-clause-parts c =
    transport_found c.payload.inside.ip_number.0 c.payload.inside.payload.now _ c.in-Ok.transport
    c.in-Ok.ensures (ap (λ (p : IpPayload). p.payload) c.payload.view_is)

pub returns-in-Err-clause-offset : goal.returns-in-Err-clause-offset
returns-in-Err-clause-offset c =
    fault_at_start c.payload.inside.ip_number.0 c.payload.inside.payload.now
    c.payload.inside.len_source c.in-Err.error c.within.result c.in-Err.ensures c.within.ensures
