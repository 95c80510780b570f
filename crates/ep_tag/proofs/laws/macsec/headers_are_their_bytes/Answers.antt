use Rattle.ep_tag.proofs.MacsecEncoding.{encoding-macsec_header_of}
use Rattle.ep_tag.proofs.laws.macsec.headers_are_their_bytes.Goals as goal

pub returns-clause-again : goal.returns-clause-again
returns-clause-again c = encoding-macsec_header_of
