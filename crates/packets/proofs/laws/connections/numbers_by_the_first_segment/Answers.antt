use Rattle.packets.proofs.ConnectionLemmas.{numbers_after}
use Rattle.packets.proofs.laws.connections.numbers_by_the_first_segment.Goals as goal

pub returns : goal.returns
returns c same laws = numbers_after same laws
