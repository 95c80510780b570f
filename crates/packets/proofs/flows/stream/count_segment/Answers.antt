use Rattle.tcp_streams.specs.Counting.{arrival}
use Rattle.packets.proofs.StreamLemmas.{segment_as}
use Rattle.packets.proofs.flows.stream.count_segment.Goals as goal

pub returns-clause-ok : goal.returns-clause-ok
returns-clause-ok c = segment_as c.add.result c.args.counter.now c.add.new.self c.args.direction c.args.segment.now _
    (λ i. arrival c.args.direction (c.sequence_number-number.ensures i) (c.acknowledgment_in-acknowledgment.ensures i)
    (c.flags_in-flags.ensures i) (c.payload.ensures i)) c.add.ensures.counts c.add.ensures.ok c.add.ensures.stopped
