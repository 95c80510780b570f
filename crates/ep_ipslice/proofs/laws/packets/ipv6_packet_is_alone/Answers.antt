use Rattle.std.proofs.Common.{◌∙◌, sym}
use Rattle.ep_ipslice.proofs.IpParts.{ipv6_ok}
use Rattle.ep_ipslice.proofs.Packets.{ipv6_only}
use Rattle.ep_ipslice.proofs.laws.packets.ipv6_packet_is_alone.Goals as goal

pub returns : goal.returns
returns c = λ p q is_p is_q. ipv6_ok p q
    (sym (ipv6_only c.args.slice.now p is_p) ∙ ipv6_only c.args.slice.now q is_q)
