use Rattle.captures.proofs.OffsetLemmas.{stands_empty}
use Rattle.captures.proofs.pcapng.block.read_block.Goals as goal

pub returns-in_default-clause-at : goal.returns-in_default-clause-at
returns-in_default-clause-at c =
    stands_empty _ _ _ c.nothing.ensures.at c.nothing.ensures.frame
