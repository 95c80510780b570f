use Rattle.ep_icmp.proofs.NdpEncodedThenParsed.{options_come_back}
use Rattle.ep_icmp.proofs.laws.ndp.options_come_back.Goals as goal

pub returns : goal.returns
returns c = options_come_back
