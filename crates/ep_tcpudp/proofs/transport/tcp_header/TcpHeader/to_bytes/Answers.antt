use Rattle.ep_tcpudp.proofs.TcpEncoding.{IsTcpHeader-encoding, tcp_header_of-encoding}
use Rattle.ep_tcpudp.proofs.transport.tcp_header.TcpHeader.to_bytes.Goals as goal

pub returns-clause-header : goal.returns-clause-header
returns-clause-header c = rw c.encoded.ensures.bytes
    (IsTcpHeader-encoding c.args.self.now c.encoded.ensures.fits)

pub returns-clause-fields : goal.returns-clause-fields
returns-clause-fields c = rw c.encoded.ensures.bytes
    (tcp_header_of-encoding c.args.self.now c.encoded.ensures.fits)
