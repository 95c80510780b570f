use Rattle.std.proofs.Common.{ap}
use Rattle.ep_packet.proofs.LaxLayersLemmas.{named_moves}
use Rattle.ep_packet.proofs.lax_layer_headers.LaxLayerHeaders.from_ether_payload.Goals as goal
use Rattle.ep_tag.specs.Ether.{LaxEtherPayload}

pub returns-in-IPV4-clause-offset : goal.returns-in-IPV4-clause-offset
returns-in-IPV4-clause-offset c =
    named_moves c.args.payload.now c.in-Some.payload c.payload.inside.payload.now
    c.from_ipv4.result.stop c.from_ipv4.ensures.offset c.in-Some.is
    (ap (λ (p : LaxEtherPayload). p.payload) c.payload.view_is)

pub returns-in-IPV6-clause-offset : goal.returns-in-IPV6-clause-offset
returns-in-IPV6-clause-offset c =
    named_moves c.args.payload.now c.in-Some.payload c.payload.inside.payload.now
    c.from_ipv6.result.stop c.from_ipv6.ensures.offset c.in-Some.is
    (ap (λ (p : LaxEtherPayload). p.payload) c.payload.view_is)

pub returns-in-ARP-clause-offset : goal.returns-in-ARP-clause-offset
returns-in-ARP-clause-offset c =
    named_moves c.args.payload.now c.in-Some.payload c.payload.inside.payload.now
    c.from_arp.result.stop c.from_arp.ensures.offset c.in-Some.is
    (ap (λ (p : LaxEtherPayload). p.payload) c.payload.view_is)
