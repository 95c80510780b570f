use Rattle.packets.proofs.TallyLemmas.{tally_of-more}
use Rattle.packets.proofs.summary.tally.Tally.add.Goals as goal

pub returns : goal.returns
returns c = λ kind packets e h.
    tally_of-more kind packets c.args.packet.now c.args.self.now _ _ _ e h
    c.saturating_add-self.ensures c.saturating_add-self-2.ensures c.unwrap_or.ensures
