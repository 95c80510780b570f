use Rattle.std.proofs.Common.{◌-◌, ◌≤◌, length}
use Rattle.digits.proofs.Blocks.{AreEncoded}
use Rattle.digits.proofs.encoding.encode_blocks.Given as goal

abbrev pub invariant-loop-at : goal.invariant-loop-at
invariant-loop-at l = (l.at ≤ length l.bytes) × AreEncoded l.at l.bytes l.digits

abbrev pub decreases-loop-at : goal.decreases-loop-at
decreases-loop-at l = length l.bytes - l.at
