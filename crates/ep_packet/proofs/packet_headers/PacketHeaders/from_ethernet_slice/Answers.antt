use Rattle.std.proofs.Common.{◌∙◌}
use Rattle.ep_ipslice.proofs.Found.{packet_found}
use Rattle.ep_packet.proofs.HeadersOfPackets.{ethernet_same}
use Rattle.ep_packet.proofs.packet_headers.PacketHeaders.from_ethernet_slice.Goals as goal

pub returns-clause-agrees : goal.returns-clause-agrees
returns-clause-agrees c = λ packet headers is are.
    c.in_frame.ensures ∙ ethernet_same
    (record {
      found = c.rows_are_found.ensures;
      views = c.rows_in_slots_are_views.ensures;
      begins = packet_found;
    }) c.args.slice.now packet headers is are
