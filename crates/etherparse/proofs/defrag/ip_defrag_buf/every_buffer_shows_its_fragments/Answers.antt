use Rattle.std.proofs.Common.{subst}
use Rattle.etherparse.specs.IpDefragBuf.{ShowsAccepted}
use Rattle.etherparse.proofs.defrag.ip_defrag_buf.every_buffer_shows_its_fragments.Goals as goal

pub returns : goal.returns
returns c = subst ShowsAccepted c.buf.view_is c.buf.invariant.shows_accepted
