use Rattle.captures.proofs.FrameLengthLemmas.{captured_is}
use Rattle.captures.proofs.laws.captured_lengths.Goals as goal

pub returns : goal.returns
returns c = captured_is
