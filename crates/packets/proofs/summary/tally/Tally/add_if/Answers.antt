use Rattle.std.proofs.Common.{◌∙◌}
use Rattle.packets.proofs.TallyLemmas.{tally_of-other}
use Rattle.packets.proofs.summary.tally.Tally.add_if.Goals as goal

pub returns-else-is_of_kind : goal.returns-else-is_of_kind
returns-else-is_of_kind c = λ kind packets e h.
    e ∙ tally_of-other kind packets c.args.packet.now (h ∙ c.if-is_of_kind.false)
