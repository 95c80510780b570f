use Rattle.std.proofs.Common.{refl}
use Rattle.etherparse.specs.tcpudp.Options.{items_within}
use Rattle.etherparse_structs.proofs.laws.fields.tcp_options.Goals as goal

pub returns-clause-syn : goal.returns-clause-syn
unfolding items_within
returns-clause-syn c = refl

pub returns-clause-blocks : goal.returns-clause-blocks
unfolding items_within
returns-clause-blocks c = refl

pub returns-clause-unknown : goal.returns-clause-unknown
unfolding items_within
returns-clause-unknown c = refl

pub returns-clause-wrong_size : goal.returns-clause-wrong_size
unfolding items_within
returns-clause-wrong_size c = refl

pub returns-clause-cut : goal.returns-clause-cut
unfolding items_within
returns-clause-cut c = refl
