use Rattle.std.proofs.Common.{refl}
use Rattle.ep_tcpudp.specs.UdpFault.{header_at}
use Rattle.ep_tcpudp.proofs.UdpPrefix.{takes_header}
use Rattle.ep_tcpudp.proofs.laws.udp.headers_are_found.Goals as goal

pub returns : goal.returns
returns c = λ bytes. takes_header bytes (header_at bytes) refl
