use Rattle.std.proofs.Common.{refl, arith}
use Rattle.tcp_streams.proofs.laws.examples.cut_of_a_text.Goals as goal

pub returns-clause-cut : goal.returns-clause-cut
returns-clause-cut c = record { no_reset = refl; number = refl; fits = omega arith; bytes = refl }

pub returns-clause-near : goal.returns-clause-near
returns-clause-near c = record { ahead = omega arith; back = omega arith }
