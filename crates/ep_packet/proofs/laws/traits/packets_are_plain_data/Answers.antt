use Rattle.std.proofs.Common.{arith}
use Rattle.std.proofs.lemmas.Grind.{common_steps, elements}
use Rattle.ep_packet.proofs.SamePackets.{packets_same}
use Rattle.ep_packet.proofs.laws.traits.packets_are_plain_data.Goals as goal

pub returns : goal.returns
returns c =
    let here = c.types_are_plain_data.ensures in
    let net = c.net_is_plain_data.ensures.net_slice in
    let link = c.types_are_plain_data-2.ensures.link_slice in
    let tags = c.types_are_plain_data-3.ensures.link_ext_slice in
    record {
      copies = grind (
        arith,
        common_steps,
        elements,
        link.copies,
        tags.copies,
        net.copies,
        here.transport_slice.copies,
      );
      never_fails = grind (arith, common_steps);
      equals = packets_same link.equals tags.equals net.equals here.transport_slice.equals;
    }
