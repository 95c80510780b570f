use Rattle.ep_link.proofs.ArpEncoding.{encoding-fields_of}
use Rattle.ep_link.proofs.laws.arp.packets_are_their_bytes.Goals as goal

pub returns-clause-again : goal.returns-clause-again
returns-clause-again c = encoding-fields_of
