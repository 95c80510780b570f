use Rattle.ep_link.proofs.EthernetEncoding.{encoding-ethernet_header_of}
use Rattle.ep_link.proofs.laws.ethernet.headers_are_their_bytes.Goals as goal

pub returns-clause-again : goal.returns-clause-again
returns-clause-again c = encoding-ethernet_header_of
