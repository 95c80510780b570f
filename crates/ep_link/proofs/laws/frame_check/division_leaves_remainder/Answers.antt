use Rattle.ep_link.proofs.Crc32Division.{division-leaves-remainder}
use Rattle.ep_link.proofs.laws.frame_check.division_leaves_remainder.Goals as goal

pub returns : goal.returns
returns c = division-leaves-remainder
