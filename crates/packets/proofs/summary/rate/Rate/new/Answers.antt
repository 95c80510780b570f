use Rattle.std.proofs.Common.{inl, refl, arith}
use Rattle.packets.proofs.summary.rate.Rate.new.Goals as goal

pub returns : goal.returns
returns c = λ count_of. record {
  by_span = record {
    begin = refl;
    doubled = (0, refl);
    counted = λ position small. c.no_counts.ensures.zero position;
    within = λ k d lt. grind arith;
  };
  least = inl refl;
}
