use Rattle.std.proofs.Common.{arith, refl}
use Rattle.packets.proofs.flows.streams.Streams.with_hasher.Goals as goal

pub returns-clause-follows : goal.returns-clause-follows
returns-clause-follows g c = record {
  each = λ q. rw c.with_hasher.ensures.empty (λ few. (refl, refl));
  held = rw c.with_hasher.ensures.empty refl;
  bounded = omega arith;
}
