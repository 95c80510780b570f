use Rattle.tcp_streams.proofs.FlowKeyLemmas.{packets_both_ways}
use Rattle.tcp_streams.proofs.laws.keys.packets_go_both_ways.Goals as goal

pub returns : goal.returns
returns g c = packets_both_ways
