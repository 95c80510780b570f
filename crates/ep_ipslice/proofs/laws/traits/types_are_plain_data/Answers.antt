use Rattle.std.proofs.Common.{arith}
use Rattle.std.proofs.lemmas.Grind.{common_steps, elements}
use Rattle.ep_ipslice.proofs.SamePayloads.{payload_same}
use Rattle.ep_ipslice.proofs.SameViews.{exts_same, ipv4_same, ipv6_same, lax_ipv4_same, lax_ipv6_same}
use Rattle.ep_ipslice.proofs.SameViews.{left_same}
use Rattle.ep_ipslice.proofs.laws.traits.types_are_plain_data.Goals as goal

pub returns-clause-ip_payload_slice : goal.returns-clause-ip_payload_slice
returns-clause-ip_payload_slice c = record {
  copies = grind (arith, common_steps, elements);
  never_fails = grind (arith, common_steps);
  equals = λ a b. payload_same a b;
}

pub returns-clause-ipv6_extension_slice_iter : goal.returns-clause-ipv6_extension_slice_iter
returns-clause-ipv6_extension_slice_iter c = record {
  copies = grind (arith, common_steps, elements);
  never_fails = grind (arith, common_steps);
  equals = λ a b. left_same a b;
}

pub returns-clause-ipv6_extensions_slice : goal.returns-clause-ipv6_extensions_slice
returns-clause-ipv6_extensions_slice c = record {
  copies = grind (arith, common_steps, elements);
  never_fails = grind (arith, common_steps);
  equals = λ a b. exts_same a b;
}

pub returns-clause-ipv4_slice : goal.returns-clause-ipv4_slice
returns-clause-ipv4_slice c = record {
  copies = grind (arith, common_steps, elements);
  never_fails = grind (arith, common_steps);
  equals = λ a b. ipv4_same a b;
}

pub returns-clause-ipv6_slice : goal.returns-clause-ipv6_slice
returns-clause-ipv6_slice c = record {
  copies = grind (arith, common_steps, elements);
  never_fails = grind (arith, common_steps);
  equals = λ a b. ipv6_same a b;
}

pub returns-clause-lax_ipv4_slice : goal.returns-clause-lax_ipv4_slice
returns-clause-lax_ipv4_slice c = record {
  copies = grind (arith, common_steps, elements);
  never_fails = grind (arith, common_steps);
  equals = λ a b. lax_ipv4_same a b;
}

pub returns-clause-lax_ipv6_slice : goal.returns-clause-lax_ipv6_slice
returns-clause-lax_ipv6_slice c = record {
  copies = grind (arith, common_steps, elements);
  never_fails = grind (arith, common_steps);
  equals = λ a b. lax_ipv6_same a b;
}
