use Rattle.std.proofs.Common.{refl}
use Rattle.lines.proofs.SessionLemmas.{took_none}
use Rattle.lines.proofs.session.Session.new.Goals as goal

pub returns-clause-took : goal.returns-clause-took
returns-clause-took g c =
    let lines = c.in_ok-new.ensures in
    took_none _ _ _ _ c.requires lines.answerer lines.count lines.started refl c.new-2.ensures.items
