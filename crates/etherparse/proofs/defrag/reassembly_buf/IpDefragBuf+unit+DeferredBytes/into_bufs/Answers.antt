use Rattle.etherparse.proofs.Lengths.{contents_short}
use Rattle.etherparse.proofs.defrag.reassembly_buf.IpDefragBuf+unit+DeferredBytes.into_bufs.Goals as goal

pub returns-clause-short : goal.returns-clause-short
returns-clause-short c = rw c.into_vec.ensures.bytes (contents_short _ c.self.invariant.shows_accepted)
