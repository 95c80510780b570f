use Rattle.ep_ext.proofs.AuthParsedThenEncoded.{auth_encoded}
use Rattle.ep_ext.proofs.laws.headers.auth_headers_are_their_bytes.Goals as goal

pub returns-clause-again : goal.returns-clause-again
returns-clause-again c = auth_encoded
