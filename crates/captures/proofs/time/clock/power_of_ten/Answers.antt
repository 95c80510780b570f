use Rattle.captures.proofs.ClockLemmas.{ten_fits}
use Rattle.captures.proofs.time.clock.power_of_ten.Goals as goal

pub pow-requires : goal.pow-requires
pow-requires c = rw c.from.ensures (ten_fits c.args.exponent c.requires)
