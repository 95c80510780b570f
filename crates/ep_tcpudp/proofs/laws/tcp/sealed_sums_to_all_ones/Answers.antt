use Rattle.ep_tcpudp.proofs.Sealed.{sealed_tcp, sealed_segment}
use Rattle.ep_tcpudp.proofs.laws.tcp.sealed_sums_to_all_ones.Goals as goal

pub returns-clause-header : goal.returns-clause-header
returns-clause-header c = sealed_tcp c.checksum_sums_to_all_ones.ensures.complement

pub returns-clause-segment : goal.returns-clause-segment
returns-clause-segment c = sealed_segment c.checksum_sums_to_all_ones.ensures.complement
