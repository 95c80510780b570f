use Rattle.packets.proofs.ConnectionLemmas.{stays_from}
use Rattle.packets.proofs.laws.connections.connections_stay_known.Goals as goal

pub returns : goal.returns
returns c same laws = stays_from same laws
