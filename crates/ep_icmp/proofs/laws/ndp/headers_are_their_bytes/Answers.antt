use Rattle.ep_icmp.proofs.NdpHeaders.{encoding_is}
use Rattle.ep_icmp.proofs.laws.ndp.headers_are_their_bytes.Goals as goal

pub returns-clause-encoded_again : goal.returns-clause-encoded_again
returns-clause-encoded_again c = encoding_is
