use Rattle.tcp_streams.proofs.NumberLaws.{cuts_are_placed}
use Rattle.tcp_streams.proofs.laws.cuts_are_placed.Goals as goal

pub returns : goal.returns
returns c = cuts_are_placed
