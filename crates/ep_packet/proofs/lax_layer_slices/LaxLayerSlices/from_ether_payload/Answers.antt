use Rattle.std.proofs.Common.{ap}
use Rattle.ep_packet.proofs.LaxLayersLemmas.{ipv4_stop_moves, ipv6_stop_moves}
use Rattle.ep_packet.proofs.lax_layer_slices.LaxLayerSlices.from_ether_payload.Goals as goal
use Rattle.ep_tag.specs.Ether.{LaxEtherPayload}

pub returns-in-IPV4-clause-offset : goal.returns-in-IPV4-clause-offset
returns-in-IPV4-clause-offset c =
    ipv4_stop_moves
    (record {
      headers = c.lax_faults_can_be_moved.ensures.ipv4_headers;
      stop = c.lax_faults_can_be_moved.ensures.ipv4_stop;
      header = c.lax_faults_can_be_moved.ensures.ipv4_header;
    })
    c.args.payload.now c.in-Some.payload c.payload.inside.payload.now c.from_ipv4.result c.in-Some.is
    (ap (λ (p : LaxEtherPayload). p.payload) c.payload.view_is) c.from_ipv4.ensures

pub returns-in-IPV6-clause-offset : goal.returns-in-IPV6-clause-offset
returns-in-IPV6-clause-offset c =
    ipv6_stop_moves
    (record {
      headers = c.lax_faults_can_be_moved.ensures.ipv6_headers;
      stop = c.lax_faults_can_be_moved.ensures.ipv6_stop;
      header = c.lax_faults_can_be_moved.ensures.ipv6_header;
    })
    c.args.payload.now c.in-Some.payload c.payload.inside.payload.now c.from_ipv6.result c.in-Some.is
    (ap (λ (p : LaxEtherPayload). p.payload) c.payload.view_is) c.from_ipv6.ensures
