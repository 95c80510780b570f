use Rattle.std.proofs.Common.{arith}
use Rattle.std.proofs.lemmas.Grind.{common_steps, elements}
use Rattle.ep_packet.proofs.SamePackets.{lax_packets_same}
use Rattle.ep_packet.proofs.laws.traits.lax_packets_are_plain_data.Goals as goal

pub returns : goal.returns
returns c =
    let here = c.types_are_plain_data.ensures in
    let net = c.lax_net_is_plain_data.ensures in
    let base = c.types_are_plain_data-2.ensures in
    let link = c.types_are_plain_data-3.ensures.link_slice in
    let tags = c.types_are_plain_data-4.ensures.lax_link_ext_slice in
    record {
      copies = grind (
        arith,
        common_steps,
        elements,
        link.copies,
        tags.copies,
        net.copies,
        here.transport_slice.copies,
        here.slice_error.copies,
        base.layer.copies,
      );
      never_fails = grind (arith, common_steps);
      equals = lax_packets_same link.equals tags.equals net.equals here.transport_slice.equals
          here.slice_error.equals base.layer.equals;
    }
