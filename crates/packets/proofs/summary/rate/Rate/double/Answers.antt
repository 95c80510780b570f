use Rattle.std.proofs.Common.{refl}
use Rattle.packets.proofs.RateLemmas.{spans-doubled}
use Rattle.packets.proofs.summary.rate.Rate.double.Goals as goal

pub returns-clause-counted : goal.returns-clause-counted
returns-clause-counted c = λ count_of packets old.
    spans-doubled count_of c.args.self.now _ packets old refl refl c.joined-self.ensures.pairs
    c.joined-self.ensures.rest
