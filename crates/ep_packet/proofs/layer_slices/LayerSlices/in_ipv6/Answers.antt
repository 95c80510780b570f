use Rattle.std.proofs.Common.{IfSome, subst}
use Rattle.ep_ipslice.specs.Packet.{IpPayload}
use Rattle.ep_packet.specs.Parts.{IsAt, transport_bytes}
use Rattle.ep_packet.proofs.PartsLemmas.{layers_in_ipv6}
use Rattle.ep_packet.proofs.layer_slices.LayerSlices.in_ipv6.Goals as goal

pub returns-clause-parts : goal.returns-clause-parts
returns-clause-parts c =
    layers_in_ipv6 c.args.slice.now c.args.packet c.in-Ok.transport c.requires
    (subst (λ (p : IpPayload). IfSome c.in-Ok.transport (λ t. IsAt p.payload 0 (transport_bytes t)))
    c.payload.ensures c.in-Ok.ensures.parts)
