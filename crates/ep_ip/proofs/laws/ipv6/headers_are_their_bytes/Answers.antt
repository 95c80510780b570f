use Rattle.ep_ip.proofs.Ipv6Encoding.{encoding-ipv6_header_of}
use Rattle.ep_ip.proofs.laws.ipv6.headers_are_their_bytes.Goals as goal

pub returns-clause-again : goal.returns-clause-again
returns-clause-again c = encoding-ipv6_header_of
