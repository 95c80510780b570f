use Rattle.std.proofs.Common.{arith, sym, ◌-◌}
use Rattle.captures.proofs.ClockLemmas.{ten_some, few_parts}
use Rattle.captures.proofs.time.clock.nanoseconds_of.Goals as goal

pub nonzero_div-count : goal.nonzero_div-count
nonzero_div-count c =
    rw c.power_of_ten-then-resolution-lt29.ensures (ten_some (c.args.resolution - 9))

pub returns-then-resolution-lt128 : goal.returns-then-resolution-lt128
returns-then-resolution-lt128 c =
    sym (few_parts c.args.resolution c.args.count (omega arith) (omega arith) (omega arith))
