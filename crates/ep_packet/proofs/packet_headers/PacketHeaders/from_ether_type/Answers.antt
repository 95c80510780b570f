use Rattle.std.proofs.Common.{◌∙◌, ap, None}
use Rattle.ep_ipslice.proofs.Found.{packet_found}
use Rattle.ep_packet.proofs.HeadersOfPackets.{ether_type_same}
use Rattle.ep_packet.specs.SliceFault.{later}
use Rattle.ep_packet.proofs.packet_headers.PacketHeaders.from_ether_type.Goals as goal
use Rattle.ep_packet.specs.PacketHeaders.{headers_after}
use Rattle.ep_tag.specs.Ether.{EtherPayload}

pub returns-clause-agrees : goal.returns-clause-agrees
returns-clause-agrees c = λ packet headers is are.
    c.after_link.ensures
    ∙ ap (λ (p : EtherPayload). later 0 (headers_after None p)) c.ether_payload.ensures
    ∙ ap (later 0)
    (ether_type_same
    (record {
      found = c.rows_are_found.ensures;
      views = c.rows_in_slots_are_views.ensures;
      begins = packet_found;
    }) c.args.ether_type
    c.args.slice.now packet headers is are)
