use Rattle.ep_link.proofs.link.crc32.after_byte.Goals as goal
use Rattle.ep_link.proofs.Crc32Table.{by_lowest}

pub returns : goal.returns
returns c =
    let table = rw c.to_le_bytes.ensures at c.eight_steps.ensures in
    rw table (by_lowest c.args.register c.args.byte c.ranges.byte.fits)
