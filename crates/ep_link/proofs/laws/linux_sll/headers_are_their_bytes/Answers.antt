use Rattle.ep_link.proofs.SllEncoding.{encoding-sll_header_of}
use Rattle.ep_link.proofs.laws.linux_sll.headers_are_their_bytes.Goals as goal

pub returns-clause-again : goal.returns-clause-again
returns-clause-again c = encoding-sll_header_of
