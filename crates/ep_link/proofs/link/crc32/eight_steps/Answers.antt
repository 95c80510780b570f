use Rattle.std.proofs.Common.{arith}
use Rattle.ep_link.proofs.link.crc32.eight_steps.Goals as goal
use Rattle.ep_link.proofs.Crc32Table.{tabled_steps}

pub returns : goal.returns
returns c =
    tabled_steps c.table.result.now c.from.result c.args.lowest c.table.ensures
    (omega (arith, c.from.ensures, c.ranges.lowest.fits)) c.from.ensures
