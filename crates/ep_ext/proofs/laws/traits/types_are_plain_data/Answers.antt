use Rattle.std.proofs.Common.{arith, rules}
use Rattle.std.proofs.lemmas.Grind.{common_steps, elements}
use Rattle.ep_ext.proofs.laws.traits.types_are_plain_data.Goals as goal

pub returns-clause-ipv6_raw_ext_header : goal.returns-clause-ipv6_raw_ext_header
returns-clause-ipv6_raw_ext_header c = record {
  copies = grind (arith, common_steps, elements);
  never_fails = grind (arith, common_steps);
  equals = search rules;
}

pub returns-clause-ip_auth_header : goal.returns-clause-ip_auth_header
returns-clause-ip_auth_header c = record {
  copies = grind (arith, common_steps, elements);
  never_fails = grind (arith, common_steps);
  equals = search rules;
}

pub returns-clause-ipv4_extensions : goal.returns-clause-ipv4_extensions
returns-clause-ipv4_extensions c = record {
  copies = grind (arith, common_steps, elements);
  never_fails = grind (arith, common_steps);
  equals = search rules;
}

pub returns-clause-ipv6_routing_extensions : goal.returns-clause-ipv6_routing_extensions
returns-clause-ipv6_routing_extensions c = record {
  copies = grind (arith, common_steps, elements);
  never_fails = grind (arith, common_steps);
  equals = search rules;
}
