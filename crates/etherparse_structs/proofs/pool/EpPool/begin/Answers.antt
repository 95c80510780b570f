use Rattle.std.proofs.Common.{ap}
use Rattle.etherparse_structs.specs.FramePool.{kept_of_message}
use Rattle.etherparse_structs.proofs.pool.EpPool.begin.Goals as goal

pub returns-clause-opened : goal.returns-clause-opened
returns-clause-opened c zero = record {
  frames = c.in-Ok.frames.value;
  is_open = c.put.ensures.opened;
  held = c.put.ensures.held;
  shows = c.in-Ok.ensures.lists;
  is_kept = ap kept_of_message c.in-Ok.ensures.kept;
}
