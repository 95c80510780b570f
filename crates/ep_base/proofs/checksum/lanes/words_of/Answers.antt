use Rattle.ep_base.proofs.LaneSums.{sum_l-words_in}
use Rattle.ep_base.proofs.checksum.lanes.words_of.Goals as goal

pub returns-clause-sum : goal.returns-clause-sum
returns-clause-sum c = sum_l-words_in c.args.block.now c.requires c.type_inv.block
