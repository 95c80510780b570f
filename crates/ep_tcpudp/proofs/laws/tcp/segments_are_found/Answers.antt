use Rattle.ep_tcpudp.proofs.TcpPrefix.{segment-ok, segment_found}
use Rattle.ep_tcpudp.proofs.laws.tcp.segments_are_found.Goals as goal

pub returns-clause-found : goal.returns-clause-found
returns-clause-found c = segment_found

pub returns-clause-only : goal.returns-clause-only
returns-clause-only c = segment-ok
