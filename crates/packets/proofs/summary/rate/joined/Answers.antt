use Rattle.std.proofs.Common.{◌≢◌, ◌<◌, arith, rules, length, below_more, get_or-set_other, get_or-set_same}
use Rattle.packets.proofs.summary.rate.joined.Goals as goal

pub pairs-preserved : goal.pairs-preserved
pairs-preserved c = record {
  pairs = below_more _ _
      (λ k h. let ne : k ≢ c.pairs.position = omega arith in rw get_or-set_other
      (c.pairs.invariant.pairs k h))
      (let lt : c.pairs.position < length c.pairs.joined = omega arith in
      rw get_or-set_same c.saturating_add.ensures);
  size = search rules;
  rest = λ k h. let ne : k ≢ c.pairs.position = omega arith in
      rw get_or-set_other (c.pairs.invariant.rest k (omega arith));
}
