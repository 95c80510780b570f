use Rattle.std.proofs.Common.{refl}
use Rattle.captures.proofs.ExampleBlocks.{enhanced, obsolete, simple}
use Rattle.captures.proofs.laws.examples.pcapng.packets_of_blocks.Goals as goal

pub returns-clause-simple : goal.returns-clause-simple
returns-clause-simple c = simple 0

pub returns-clause-timed : goal.returns-clause-timed
returns-clause-timed c = enhanced 0

pub returns-clause-enhanced : goal.returns-clause-enhanced
returns-clause-enhanced c = (refl, enhanced 0)

pub returns-clause-obsolete : goal.returns-clause-obsolete
returns-clause-obsolete c = (refl, obsolete 0)
