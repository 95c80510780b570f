use Rattle.packets.proofs.EndLemmas.{always_unbroken, unbroken_always}
use Rattle.packets.proofs.run.summarize.summarize.Goals as goal

pub returns : goal.returns
returns g c =
    let visited = c.visit_all.ensures in
    let reports = visited.1 in (
      reports.0,
      reports.1,
      reports.2,
      visited.0,
      reports.3,
      reports.4,
      reports.5,
      unbroken_always c.visit_all.result.result _ (always_unbroken c.visit_all.result.result _ _ visited.2),
      reports.6.0,
      reports.6.1,
    )
