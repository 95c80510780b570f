use Rattle.ep_tcpudp.proofs.UdpEncoding.{encoding-udp_header_of}
use Rattle.ep_tcpudp.proofs.laws.udp.headers_are_their_bytes.Goals as goal

pub returns-clause-encoded_again : goal.returns-clause-encoded_again
returns-clause-encoded_again c = encoding-udp_header_of
