use Rattle.ep_ipslice.proofs.Ipv6Parts.{keeps_numbers}
use Rattle.ep_ipslice.proofs.laws.packets.numbers_of_a_view.Goals as goal

pub returns-clause-own : goal.returns-clause-own
returns-clause-own c = keeps_numbers
