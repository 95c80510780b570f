use Rattle.std.proofs.Common.{ap, refl, not}
use Rattle.packets.specs.Flows.{outlines}
use Rattle.packets.specs.declared.flows.conversation_counts.ConversationCounts.{ConversationCounts}
use Rattle.packets.specs.declared.flows.transfer.Transfer.{Transfer}
use Rattle.packets.proofs.FlowLemmas.{conversation_counts-more}
use Rattle.packets.proofs.flows.conversation_counts.ConversationCounts.add.Goals as goal

pub returns : goal.returns
returns c = λ packets old.
    let up = c.add_if.ensures (λ (p : Transfer). p.ascends) packets
    (ap (λ (f : ConversationCounts). f.ascending) old) refl in
    let down = c.add_if-2.ensures (λ (p : Transfer). not p.ascends) packets
    (ap (λ (f : ConversationCounts). f.descending) old) refl in
    let period = c.add.ensures (outlines packets) (record {
      earliest = ap (λ (f : ConversationCounts). f.period.earliest) old;
      latest = ap (λ (f : ConversationCounts). f.period.latest) old;
    }) in
    conversation_counts-more packets c.args.packet.now c.args.self.now _ _ _ _ old up down period.earliest period.latest
    c.unwrap_or.ensures
