use Rattle.std.proofs.Common.{◌+◌, ◌*◌}
use Rattle.packets.proofs.expression.+grammar.Given as goal

abbrev pub decreases-read_alternatives : goal.decreases-read_alternatives
decreases-read_alternatives l = 3 * l.levels + 2

abbrev pub decreases-read_joint : goal.decreases-read_joint
decreases-read_joint l = 3 * l.levels + 1

abbrev pub decreases-read_single : goal.decreases-read_single
decreases-read_single l = 3 * l.levels
