use Rattle.tcp_streams.proofs.FlowLemmas.{flow_same}
use Rattle.tcp_streams.proofs.laws.traits.flows_are_plain_data.Goals as goal

pub returns-clause-equals : goal.returns-clause-equals
returns-clause-equals g c a b =
    let laws = c.types_are_plain_data.ensures in
    flow_same laws.traffic.equals laws.connection_state.equals c.requires.equals a b
