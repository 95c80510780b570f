use Rattle.ep_tcpudp.proofs.UdpPrefix.{datagram-ok, datagram_found}
use Rattle.ep_tcpudp.proofs.laws.udp.datagrams_are_found.Goals as goal

pub returns-clause-found : goal.returns-clause-found
returns-clause-found c = datagram_found

pub returns-clause-only : goal.returns-clause-only
returns-clause-only c = datagram-ok
