use Rattle.captures.proofs.LengthLemmas.{description_is_short}
use Rattle.captures.proofs.laws.interface_description_lengths.Goals as goal

pub returns : goal.returns
returns c = description_is_short
