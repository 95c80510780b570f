use Rattle.std.proofs.Common.{arith, rules}
use Rattle.std.proofs.lemmas.Grind.{common_steps, elements}
use Rattle.ep_packet.proofs.SameNet.{same_ip, same_net, same_slices}
use Rattle.ep_packet.proofs.laws.traits.net_is_plain_data.Goals as goal

pub returns-clause-ip_headers : goal.returns-clause-ip_headers
returns-clause-ip_headers c =
    let exts = c.types_are_plain_data.ensures in
    let chains = c.chains_are_plain_data.ensures in
    let headers = c.types_are_plain_data-2.ensures in
    record {
      copies = grind (
        arith,
        common_steps,
        elements,
        headers.ipv4_header.copies,
        headers.ipv6_header.copies,
        exts.ipv4_extensions.copies,
        chains.copies,
      );
      never_fails = grind (arith, common_steps);
      equals = same_ip (
        headers.ipv4_header.equals,
        exts.ipv4_extensions.equals,
        headers.ipv6_header.equals,
        chains.equals,
      );
    }

pub returns-clause-net_headers : goal.returns-clause-net_headers
returns-clause-net_headers c =
    let exts = c.types_are_plain_data.ensures in
    let chains = c.chains_are_plain_data.ensures in
    let headers = c.types_are_plain_data-2.ensures in
    let links = c.types_are_plain_data-4.ensures in
    record {
      copies = grind (
        arith,
        common_steps,
        elements,
        headers.ipv4_header.copies,
        headers.ipv6_header.copies,
        exts.ipv4_extensions.copies,
        chains.copies,
        links.arp_packet.copies,
      );
      never_fails = grind (arith, common_steps);
      equals = same_net (
        headers.ipv4_header.equals,
        exts.ipv4_extensions.equals,
        headers.ipv6_header.equals,
        chains.equals,
      ) links.arp_packet.equals;
    }

pub returns-clause-net_slice : goal.returns-clause-net_slice
returns-clause-net_slice c =
    let views = c.types_are_plain_data-3.ensures in
    let links = c.types_are_plain_data-4.ensures in
    record {
      copies = search (
        rules,
        views.ipv4_slice.copies,
        views.ipv6_slice.copies,
        links.arp_packet_slice.copies,
      );
      never_fails = grind (arith, common_steps);
      equals = same_slices views.ipv4_slice.equals views.ipv6_slice.equals
          links.arp_packet_slice.equals;
    }
