use Rattle.std.proofs.Common.{arith, slice_index}
use Rattle.packets.proofs.RouteLemmas.{past_all, past_others}
use Rattle.packets.proofs.source_route.after_option.Goals as goal

pub returns-then-after-others-clause-route : goal.returns-then-after-others-clause-route
returns-then-after-others-clause-route c =
    past_all (slice_index c.args.after.now 0) c.args.after.now (omega arith)

pub returns-clause-route : goal.returns-clause-route
returns-clause-route c = rw c.from-len.ensures (past_others (slice_index c.args.after.now 0) c.args.after.now (omega arith))
