use Rattle.etherparse.proofs.Lengths.{contents_short}
use Rattle.etherparse.proofs.defrag.ip_defrag_buf.IpDefragBuf+Number.take_bufs.Goals as goal

pub returns-clause-short : goal.returns-clause-short
returns-clause-short g c = contents_short _ c.self.invariant.shows_accepted
