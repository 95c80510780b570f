use Rattle.packets.proofs.EndLemmas.{always_unbroken, unbroken_always}
use Rattle.packets.proofs.report.overview.count_overview.Goals as goal

pub returns : goal.returns
returns g c =
    let visited = c.visit_all.ensures in (
      visited.0,
      visited.1,
      unbroken_always c.visit_all.result.result _ (always_unbroken c.visit_all.result.result _ _ visited.2),
    )
