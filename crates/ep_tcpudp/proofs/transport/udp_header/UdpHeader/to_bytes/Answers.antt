use Rattle.ep_tcpudp.proofs.UdpEncoding.{IsUdpHeader-encoding, udp_header_of-encoding}
use Rattle.ep_tcpudp.proofs.transport.udp_header.UdpHeader.to_bytes.Goals as goal

pub returns-clause-header : goal.returns-clause-header
returns-clause-header c = rw c.encoded_with.ensures.bytes (IsUdpHeader-encoding c.args.self.now)

pub returns-clause-fields : goal.returns-clause-fields
returns-clause-fields c = rw c.encoded_with.ensures.bytes
    (udp_header_of-encoding c.args.self.now c.encoded_with.ensures.fits)
