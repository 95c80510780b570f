use Rattle.ep_ipslice.proofs.LaxLaws.{cut_v6}
use Rattle.ep_ipslice.proofs.laws.lax.cut_ipv6_packet_has_all_bytes.Goals as goal

pub returns : goal.returns
returns c = cut_v6
