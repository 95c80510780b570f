use Rattle.packets.proofs.HeldLemmas.{bytes_at}
use Rattle.packets.proofs.StartedLemmas.{same}
use Rattle.packets.proofs.WithinLemmas.{pool_takes}
use Rattle.packets.proofs.datagrams.Datagrams.taken.Goals as goal

pub returns : goal.returns
returns g c lists order shows has =
    let takes = pool_takes same c.args.self.now.pool lists order
    (bytes_at c.timestamps_are_read.ensures.fragments c.args.self.now lists shows) in
    rw (c.open_bytes.ensures.starts, c.open_len.ensures.starts, has) takes
