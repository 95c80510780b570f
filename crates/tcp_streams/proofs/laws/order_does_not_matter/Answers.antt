use Rattle.tcp_streams.proofs.LawLemmas.{order_does_not_matter}
use Rattle.tcp_streams.proofs.laws.order_does_not_matter.Goals as goal

pub returns : goal.returns
returns c = order_does_not_matter
