use Rattle.std.proofs.Common.{◌+◌, ◌∙◌, ℕ, ap}
use Rattle.captures.specs.Numbers.{capped}
use Rattle.packets.proofs.FlowLemmas.{direction_counts-more}
use Rattle.packets.proofs.flows.conversation_counts.DirectionCounts.add.Goals as goal

pub returns : goal.returns
returns c = λ packets old.
    let bytes = c.saturating_add-self-2.ensures
    ∙ ap (λ (n : ℕ). capped (c.args.self.now.bytes + n)) c.from.ensures in
    direction_counts-more packets c.args.packet.now c.args.self.now _ _ _ old
    c.saturating_add-self.ensures bytes c.add.ensures
