use Rattle.std.proofs.Common.{ap, sym, subst}
use Rattle.ep_ext.specs.Follow.{Follows}
use Rattle.ep_ext.specs.Link.{all_slots, pieces_in}
use Rattle.ep_ext.specs.declared.net.ipv6_extensions.Ipv6Extensions.{Ipv6Extensions}
use Rattle.ep_packet.specs.IpHeaders.{IsLinked}
use Rattle.ep_packet.specs.declared.net.ip_headers.IpHeaders.{IpHeaders}
use Rattle.ep_packet.specs.declared.net.ip_headers.IpHeaders.TheVariants as headers
use Rattle.ep_packet.proofs.net.ip_headers.IpHeaders.set_next_headers.Goals as goal

pub returns-in-Ipv6-clause-linked : goal.returns-in-Ipv6-clause-linked
returns-in-Ipv6-clause-linked c =
    let last = c.args.last.0 in
    let call = c.set_next_headers-header-in-Ipv6 in
    let first = call.result.0 in
    let header = record c.in-Ipv6.header { next_header = call.result } in
    subst (λ (old : IpHeaders). IsLinked old last (headers.Ipv6 header call.new.self))
    (sym c.in-Ipv6.is) (
      first,
      ap (λ (e : Ipv6Extensions). headers.Ipv6 header e) call.ensures.linked,
      subst (λ (e : Ipv6Extensions). Follows e first (pieces_in e all_slots) last)
          call.ensures.linked call.ensures.chained,
    )
