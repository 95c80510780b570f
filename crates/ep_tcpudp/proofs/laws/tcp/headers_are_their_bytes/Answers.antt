use Rattle.ep_tcpudp.proofs.TcpEncoding.{encoding-tcp_header_of}
use Rattle.ep_tcpudp.proofs.laws.tcp.headers_are_their_bytes.Goals as goal

pub returns-clause-encoded_again : goal.returns-clause-encoded_again
returns-clause-encoded_again c = encoding-tcp_header_of
