use Rattle.captures.proofs.LengthLemmas.{packet_is_short}
use Rattle.captures.proofs.laws.packet_lengths.Goals as goal

pub returns : goal.returns
returns c = packet_is_short
