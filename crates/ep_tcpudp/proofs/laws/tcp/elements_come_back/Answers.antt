use Rattle.ep_tcpudp.proofs.ElementsEncodedThenParsed.{elements_come_back}
use Rattle.ep_tcpudp.proofs.laws.tcp.elements_come_back.Goals as goal

pub returns : goal.returns
returns c = elements_come_back
