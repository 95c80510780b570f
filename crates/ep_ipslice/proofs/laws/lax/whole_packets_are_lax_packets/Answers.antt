use Rattle.ep_ipslice.proofs.LaxLaws.{whole_either, whole_v4, whole_v6}
use Rattle.ep_ipslice.proofs.laws.lax.whole_packets_are_lax_packets.Goals as goal

pub returns-clause-ipv4 : goal.returns-clause-ipv4
returns-clause-ipv4 c = whole_v4

pub returns-clause-ipv6 : goal.returns-clause-ipv6
returns-clause-ipv6 c = whole_v6

pub returns-clause-ip : goal.returns-clause-ip
returns-clause-ip c = whole_either
