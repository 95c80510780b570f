use Rattle.ep_ipslice.proofs.Packets.{ip_found, ip_only, ipv4_found, ipv4_only, ipv6_found, ipv6_only}
use Rattle.ep_ipslice.proofs.laws.packets.packets_are_their_parts.Goals as goal

pub returns-clause-ipv4 : goal.returns-clause-ipv4
returns-clause-ipv4 c = λ bytes packet. (ipv4_found bytes packet, ipv4_only bytes packet)

pub returns-clause-ipv6 : goal.returns-clause-ipv6
returns-clause-ipv6 c = λ bytes packet. (ipv6_found bytes packet, ipv6_only bytes packet)

pub returns-clause-ip : goal.returns-clause-ip
returns-clause-ip c = λ bytes packet. (ip_found bytes packet, ip_only bytes packet)
