use Rattle.std.proofs.Common.{refl, sym, true, is_some}
use Rattle.packets.specs.Counts.{verified_of}
use Rattle.packets.specs.declared.outline.Outline.{Outline}
use Rattle.packets.proofs.TallyLemmas.{tally_of-other}
use Rattle.packets.proofs.summary.summary.Summary.count_outline.Goals as goal

pub add_keyed-self-requires-clause-others : goal.add_keyed-self-requires-clause-others
add_keyed-self-requires-clause-others g c = tally_of-other

pub add_keyed-requires-clause-others : goal.add_keyed-requires-clause-others
add_keyed-requires-clause-others g c = tally_of-other

pub returns-clause-counts : goal.returns-clause-counts
returns-clause-counts g c = λ packets old. record {
  all = c.add.ensures (λ (p : Outline). true) packets old.all refl;
  refused = c.add_if.ensures (λ (p : Outline). is_some p.refusal) packets old.refused (sym
      c.is_some.ensures);
  protocols = c.add-2.ensures packets old.protocols;
  checksums = c.add-3.ensures packets old.checksums;
  parts = c.add-4.ensures packets old.parts;
  sizes = c.add-5.ensures packets old.sizes;
  rate = c.add-6.ensures (λ (p : Outline). 1) packets refl old.rate;
  period = c.add-7.ensures packets old.period;
  lengths = c.add-8.ensures packets old.lengths;
  reasons = c.add_keyed-self.ensures (λ (p : Outline). p.refusal) packets refl old.reasons;
  senders = c.add_keyed.ensures verified_of packets (sym c.of-sender.ensures) old.senders;
}
