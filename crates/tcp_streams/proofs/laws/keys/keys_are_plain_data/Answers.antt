use Rattle.tcp_streams.proofs.FlowKeyLemmas.{key_same}
use Rattle.tcp_streams.proofs.laws.keys.keys_are_plain_data.Goals as goal

pub returns-clause-equals : goal.returns-clause-equals
returns-clause-equals g c a b = key_same c.types_are_plain_data.ensures.endpoint.equals c.requires.equals a b
