use Rattle.packets.specs.Flows.{outlines}
use Rattle.packets.proofs.FlowLemmas.{outlines-end}
use Rattle.packets.proofs.summary.summary.Summary.count.Goals as goal

pub count-requires : goal.count-requires
count-requires g c = record { capacity = rw c.count_outline.ensures.flows c.requires.conversations }

pub returns : goal.returns
returns g c = λ packets old.
    let counts = c.count_outline.ensures.counts (outlines packets) old.outlines in record {
      outlines = rw (outlines-end packets c.args.packet.now) (record {
        all = counts.all;
        refused = counts.refused;
        protocols = counts.protocols;
        checksums = counts.checksums;
        parts = counts.parts;
        sizes = counts.sizes;
        rate = counts.rate;
        period = counts.period;
        lengths = counts.lengths;
        reasons = counts.reasons;
        senders = counts.senders;
      });
      flows = c.count.ensures packets (rw c.count_outline.ensures.flows old.flows);
    }
