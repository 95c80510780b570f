use Rattle.std.proofs.Common.{arith}
use Rattle.packets.proofs.dissector.Dissector.keep_within.Goals as goal

pub returns-clause-datagrams : goal.returns-clause-datagrams
returns-clause-datagrams g c lists order shows has =
    let kept = c.keep_within-dropped.ensures lists order shows has in (
      c.free_spare.ensures.lists _ kept.fragments,
      c.free_spare.ensures.order _ kept.order_is,
      grind (arith, c.saturating_add-self.ensures, kept.count),
    )

pub returns-clause-started : goal.returns-clause-started
returns-clause-started g c lists order started shows has known =
    c.free_spare.ensures.started started
    ((c.keep_within-dropped.ensures lists order shows has).started started known)
