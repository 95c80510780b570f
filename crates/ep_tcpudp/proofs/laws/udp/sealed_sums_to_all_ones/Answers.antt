use Rattle.ep_tcpudp.proofs.Sealed.{sealed_udp}
use Rattle.ep_tcpudp.proofs.laws.udp.sealed_sums_to_all_ones.Goals as goal

pub returns : goal.returns
returns c = sealed_udp c.checksum_sums_to_all_ones.ensures.no_zero
