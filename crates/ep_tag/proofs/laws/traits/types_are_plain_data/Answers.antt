use Rattle.std.proofs.Common.{rules}
use Rattle.ep_tag.proofs.SameHeaders.{same_headers, same_tags}
use Rattle.ep_tag.proofs.SameLaxPayloads.{lax_ether_same}
use Rattle.ep_tag.proofs.laws.traits.types_are_plain_data.Goals as goal

pub returns-clause-macsec_header : goal.returns-clause-macsec_header
returns-clause-macsec_header c = record {
  copies = search rules;
  never_fails = search rules;
  equals = same_headers;
}

pub returns-clause-link_ext_header : goal.returns-clause-link_ext_header
returns-clause-link_ext_header c = record {
  copies = search rules;
  never_fails = search rules;
  equals = same_tags;
}

pub returns-clause-lax_ether_payload_slice : goal.returns-clause-lax_ether_payload_slice
returns-clause-lax_ether_payload_slice c = record {
  copies = search rules;
  never_fails = search rules;
  equals = lax_ether_same;
}
