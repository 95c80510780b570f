use Rattle.std.proofs.Common.{rules}
use Rattle.ep_icmp.proofs.SameNdpMessages.{same_header, same_message}
use Rattle.ep_icmp.proofs.laws.traits.types_are_plain_data.Goals as goal

pub returns-clause-ndp_header : goal.returns-clause-ndp_header
returns-clause-ndp_header c = record {
  copies = search rules;
  never_fails = search rules;
  equals = same_header;
}

pub returns-clause-ndp_message : goal.returns-clause-ndp_message
returns-clause-ndp_message c = record {
  copies = search rules;
  never_fails = search rules;
  equals = same_message;
}
