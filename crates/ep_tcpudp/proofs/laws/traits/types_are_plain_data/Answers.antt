use Rattle.std.proofs.Common.{arith, rules}
use Rattle.std.proofs.lemmas.Grind.{common_steps, elements}
use Rattle.ep_tcpudp.proofs.SameValues.{same_element, same_header}
use Rattle.ep_tcpudp.proofs.laws.traits.types_are_plain_data.Goals as goal

pub returns-clause-tcp_header : goal.returns-clause-tcp_header
returns-clause-tcp_header c = record {
  copies = grind (arith, common_steps, elements);
  never_fails = grind (arith, common_steps);
  equals = same_header;
}

pub returns-clause-tcp_options : goal.returns-clause-tcp_options
returns-clause-tcp_options c = record {
  copies = grind (arith, common_steps, elements);
  never_fails = grind (arith, common_steps);
  equals = search rules;
}

pub returns-clause-tcp_option_element : goal.returns-clause-tcp_option_element
returns-clause-tcp_option_element c = record {
  copies = search rules;
  never_fails = search rules;
  equals = same_element;
}
