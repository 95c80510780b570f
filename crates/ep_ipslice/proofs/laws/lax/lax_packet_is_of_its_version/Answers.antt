use Rattle.ep_ipslice.proofs.LaxLaws.{four_is, six_is}
use Rattle.ep_ipslice.proofs.laws.lax.lax_packet_is_of_its_version.Goals as goal

pub returns-clause-ipv4 : goal.returns-clause-ipv4
returns-clause-ipv4 c = four_is

pub returns-clause-ipv6 : goal.returns-clause-ipv6
returns-clause-ipv6 c = six_is
