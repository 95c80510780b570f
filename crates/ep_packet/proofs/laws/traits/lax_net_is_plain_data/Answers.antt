use Rattle.std.proofs.Common.{arith, rules}
use Rattle.std.proofs.lemmas.Grind.{common_steps}
use Rattle.ep_packet.proofs.SameNet.{same_lax_slices}
use Rattle.ep_packet.proofs.laws.traits.lax_net_is_plain_data.Goals as goal

pub returns : goal.returns
returns c =
    let views = c.types_are_plain_data.ensures in
    let links = c.types_are_plain_data-2.ensures in
    record {
      copies = search (
        rules,
        views.lax_ipv4_slice.copies,
        views.lax_ipv6_slice.copies,
        links.arp_packet_slice.copies,
      );
      never_fails = grind (arith, common_steps);
      equals = same_lax_slices views.lax_ipv4_slice.equals views.lax_ipv6_slice.equals
          links.arp_packet_slice.equals;
    }
