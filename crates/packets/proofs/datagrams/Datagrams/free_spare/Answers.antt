use Rattle.std.proofs.Common.{◌∙◌}
use Rattle.packets.proofs.datagrams.Datagrams.free_spare.Goals as goal

pub returns-clause-lists : goal.returns-clause-lists
returns-clause-lists g c lists shows name channel =
    rw c.free_spare.ensures.reassemblies (shows name channel)

pub returns-clause-started : goal.returns-clause-started
returns-clause-started g c started kept name channel =
    rw c.free_spare.ensures.reassemblies (kept name channel)

pub returns-clause-order : goal.returns-clause-order
returns-clause-order g c order has = c.free_spare.ensures.starts ∙ has
