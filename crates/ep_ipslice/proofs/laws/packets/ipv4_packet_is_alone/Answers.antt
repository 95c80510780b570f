use Rattle.std.proofs.Common.{◌∙◌, sym}
use Rattle.ep_ipslice.proofs.IpParts.{ipv4_ok}
use Rattle.ep_ipslice.proofs.Packets.{ipv4_only}
use Rattle.ep_ipslice.proofs.laws.packets.ipv4_packet_is_alone.Goals as goal

pub returns : goal.returns
returns c = λ p q is_p is_q. ipv4_ok p q
    (sym (ipv4_only c.args.slice.now p is_p) ∙ ipv4_only c.args.slice.now q is_q)
