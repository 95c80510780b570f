use Rattle.packets.proofs.TableLemmas.{keys-moved}
use Rattle.packets.proofs.summary.summary.Summary.reserve.Goals as goal

pub returns-clause-same : goal.returns-clause-same
returns-clause-same g c = λ packets old. record {
  outlines = record {
    all = old.outlines.all;
    refused = old.outlines.refused;
    protocols = old.outlines.protocols;
    checksums = old.outlines.checksums;
    parts = old.outlines.parts;
    sizes = old.outlines.sizes;
    rate = old.outlines.rate;
    period = old.outlines.period;
    lengths = old.outlines.lengths;
    reasons = keys-moved c.args.self.now.reasons c.reserve.new.self _
        c.in_ok-reserve.ensures.same old.outlines.reasons;
    senders = keys-moved c.args.self.now.senders c.reserve-3.new.self _
        c.reserve-3.ensures.same old.outlines.senders;
  };
  flows = c.in_ok-reserve-2.ensures.same packets old.flows;
}
