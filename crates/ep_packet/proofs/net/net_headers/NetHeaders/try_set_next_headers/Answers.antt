use Rattle.std.proofs.Common.{ap, sym, subst, refl, Ok}
use Rattle.ep_ext.specs.Follow.{Follows}
use Rattle.ep_ext.specs.Link.{all_slots, pieces_in}
use Rattle.ep_ext.specs.declared.net.ipv6_extensions.Ipv6Extensions.{Ipv6Extensions}
use Rattle.ep_packet.specs.NetHeaders.{IsNetLinked}
use Rattle.ep_packet.specs.declared.net.ip_headers.IpHeaders.TheVariants as ip
use Rattle.ep_packet.specs.declared.net.net_headers.NetHeaders.{NetHeaders}
use Rattle.ep_packet.specs.declared.net.net_headers.NetHeaders.TheVariants as headers
use Rattle.ep_packet.proofs.net.net_headers.NetHeaders.try_set_next_headers.Goals as goal

pub returns-in-Ipv6 : goal.returns-in-Ipv6
returns-in-Ipv6 c =
    let last = c.args.last.0 in
    let call = c.set_next_headers-header-in-Ipv6 in
    let header = record c.in-Ipv6.header { next_header = call.result } in
    subst (λ (old : NetHeaders). IsNetLinked old last (headers.Ipv6 header call.new.self)
    (Ok (record { 0 = 0x86dd }))) (sym c.in-Ipv6.is) (
      ip.Ipv6 header call.new.self,
      (
        call.result.0,
        ap (λ (e : Ipv6Extensions). ip.Ipv6 header e) call.ensures.linked,
        subst (λ (e : Ipv6Extensions). Follows e call.result.0 (pieces_in e all_slots) last)
            call.ensures.linked call.ensures.chained,
      ),
      refl,
      refl,
    )
