use Rattle.std.proofs.Common.{arith, rules}
use Rattle.std.proofs.lemmas.Grind.{common_steps, elements}
use Rattle.ep_ip.proofs.SameHeaders.{same_headers}
use Rattle.ep_ip.proofs.laws.traits.types_are_plain_data.Goals as goal

pub returns-clause-ipv4_header : goal.returns-clause-ipv4_header
returns-clause-ipv4_header c = record {
  copies = grind (arith, common_steps, elements);
  never_fails = grind (arith, common_steps);
  equals = same_headers;
}

pub returns-clause-ipv4_options : goal.returns-clause-ipv4_options
returns-clause-ipv4_options c = record {
  copies = grind (arith, common_steps, elements);
  never_fails = grind (arith, common_steps);
  equals = search rules;
}
