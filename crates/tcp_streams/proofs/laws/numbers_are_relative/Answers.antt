use Rattle.tcp_streams.proofs.NumberLaws.{numbers_are_relative}
use Rattle.tcp_streams.proofs.laws.numbers_are_relative.Goals as goal

pub returns : goal.returns
returns c = numbers_are_relative
