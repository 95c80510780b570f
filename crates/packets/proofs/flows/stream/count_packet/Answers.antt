use Rattle.std.proofs.Common.{◌∙◌, sym}
use Rattle.packets.proofs.StreamLemmas.{no_segment, segment_by}
use Rattle.packets.proofs.flows.stream.count_packet.Goals as goal

pub returns-in-Some-clause-ok : goal.returns-in-Some-clause-ok
returns-in-Some-clause-ok c =
    segment_by c.count_segment.result c.args.counter.now c.count_segment.new.counter c.args.direction _ _
    (sym c.whole_segment.ensures ∙ c.in-Some.is) c.count_segment.ensures.ok

pub returns-in-None-clause-ok : goal.returns-in-None-clause-ok
returns-in-None-clause-ok c =
    no_segment c.args.counter.now c.args.direction _ (sym c.whole_segment.ensures ∙ c.in-None.is)
